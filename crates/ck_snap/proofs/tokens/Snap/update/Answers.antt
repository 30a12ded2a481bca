use Rattle.std.proofs.Common.{◌≡◌, ◌∙◌, ℕ, ◌++◌, ◌∷◌, [], length, sym, ap, subst, arith, length-append}
use Rattle.ck_history.specs.declared.log.LogEntry.{LogEntry}
use Rattle.ck_snap.specs.Growing.{LogPart}
use Rattle.ck_snap.specs.Journal.{JournalView}
use Rattle.std.specs.Ordering.{nat_cmp}
use Rattle.ck_history.specs.Map.{step}
use Rattle.ck_snap.specs.Log.{Log, most_pairs, map_after, AreReplies}
use Rattle.ck_snap.specs.Places.{log_of_events}
use Rattle.ck_snap.proofs.Placing.{log_of_events-append}
use Rattle.ck_snap.proofs.Replying.{AreReplies-snoc}
use Rattle.ck_snap.proofs.tokens.Snap.update.Goals as goal

pub invariant_of-w-2 : goal.invariant_of-w-2
invariant_of-w-2 g c =
    let done = c.w.inside.journal.events.written in
    let old = c.w.inside.publisher.log in
    let e : LogEntry ℕ = record { update = c.args.update; reply = c.in_ok-reply.reply } in
    let log : c.update.new.self.log ≡ old ++ e ∷ [] = ap (λ (r : LogPart). r.log) c.in_ok-reply.ensures.ok in
    let updates : log_of_events c.note_update.new.journal.events.written ≡ log_of_events done ++ e ∷ [] = ap (λ (j : JournalView). log_of_events j.events.written) c.note_update.ensures ∙ log_of_events-append done _ in
    record {
      log = updates ∙ (ap (λ (l : Log). l ++ e ∷ []) c.w.invariant.log ∙ sym log);
      replies = subst AreReplies (sym log) (AreReplies-snoc old e c.w.invariant.replies c.in_ok-reply.ensures.reply);
      count = let n = c.w.invariant.count in omega (arith, ap length log, length-append old (e ∷ []));
    }

pub returns-clause-ok : goal.returns-clause-ok
returns-clause-ok g c =
    let done = c.w.inside.journal.events.written in
    let kept = invariant_of-w-2 g c in
    let book = ap (λ (r : LogPart). r.book) c.in_ok-reply.ensures.ok in
    let journals = ap (λ (j : JournalView). j.journals) c.note_update.ensures in
    let whole = ap (λ (j : JournalView). j.events.written) c.note_update.ensures in
    let published = sym kept.log in
    rw (← c.w.view_is) (record {
      reply = c.in_ok-reply.ensures.reply ∙ ap (λ (l : Log). (step nat_cmp most_pairs (map_after l) c.args.update).1) (sym c.w.invariant.log);
      appended = ap log_of_events whole ∙ log_of_events-append done _;
      writer = cc (book, journals, whole, published);
      current = record { published = published; replies = subst AreReplies published kept.replies };
    })
