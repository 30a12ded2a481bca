use Rattle.std.proofs.Common.{◌≡◌, ◌∙◌, ◌+◌, sym, ap, subst}
use Rattle.std.proofs.lemmas.List.{append-nil}
use mathlib.Core.List.{IsPrefix}
use Rattle.logbook.specs.Pages.{Book}
use Rattle.ck_snap.specs.Tokens.{PassView}
use Rattle.ck_snap.specs.Growing.{LogPart}
use Rattle.ck_snap.specs.Copies.{Known}
use Rattle.ck_snap.specs.Log.{Log, AreReplies}
use Rattle.ck_snap.specs.Version.{version_log}
use Rattle.ck_snap.specs.Places.{log_of_events, ArePlacedIn}
use Rattle.ck_snap.proofs.Placing.{placed_later}
use Rattle.ck_snap.proofs.tokens.Snap.tie.Goals as goal

pub invariant_of-pass : goal.invariant_of-pass
invariant_of-pass g c =
    let pass = c.pass.inside in
    let seen = ap (λ (k : Known). k.log) c.catch_up.ensures.end in
    subst (λ (l : Log). ArePlacedIn l pass.journal.events.read pass.journal.events.places) (sym seen) (placed_later pass.subscriber.log (version_log c.version.result.now) c.catch_up.ensures.later pass.journal.events.read pass.journal.events.places c.pass.invariant)

pub returns-clause-ok : goal.returns-clause-ok
returns-clause-ok g c =
    let w = c.w.inside in
    let pass = c.pass.inside in
    let published = c.in_ok-publish.ensures.ok in
    let end = c.catch_up.ensures.end in
    let kept : c.publish.new.self.log ≡ w.publisher.log = ap (λ (r : LogPart). r.log) published ∙ append-nil w.publisher.log in
    let whole : version_log c.version.result.now ≡ log_of_events w.journal.events.written =
    c.version.ensures.1 ∙ (kept ∙ sym c.w.invariant.log) in
    let later : IsPrefix pass.subscriber.log (log_of_events w.journal.events.written) = subst (λ (l : Log). IsPrefix pass.subscriber.log l) whole c.catch_up.ensures.later in
    let book = ap (λ (r : LogPart). r.book) published in
    let known = ap (λ (k : Known). k.book) end in
    let seen = ap (λ (k : Known). k.log) end ∙ whole in
    let ended : Book → Log → PassView = λ b l. record {
      origin = record { log = b; journals = pass.journal.journals };
      number = pass.number;
      seen = l;
      done = pass.journal.events.read;
      places = pass.journal.events.places;
      enters = c.catch_up.new.self.enters;
      calls = pass.calls + 1;
    } in
    rw (← c.w.view_is, ← c.pass.view_is) (record {
      prefix = later;
      writer = cc (book, kept);
      current = record { published = kept ∙ sym c.w.invariant.log; replies = subst AreReplies (sym c.w.invariant.log) c.w.invariant.replies };
      pass = ap (λ b. ended b c.catch_up.new.self.log) known ∙ ap (ended pass.subscriber.book) seen;
      enters = c.catch_up.ensures.enters;
      placed = placed_later pass.subscriber.log (log_of_events w.journal.events.written) later pass.journal.events.read pass.journal.events.places c.pass.invariant;
    })
