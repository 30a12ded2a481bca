use Rattle.std.proofs.Common.{ap, ◌∙◌}
use Rattle.std.proofs.lemmas.List.{append-nil}
use Rattle.ck_snap.specs.Journal.{JournalView}
use Rattle.ck_snap.specs.Places.{log_of_events}
use Rattle.ck_snap.proofs.Placing.{log_of_events-append}
use Rattle.ck_snap.proofs.tokens.Snap.answered.Goals as goal

pub invariant_of-w : goal.invariant_of-w
invariant_of-w c = record {
  log = ap (λ (j : JournalView). log_of_events j.events.written) c.note_told.ensures ∙ (log_of_events-append c.w.inside.journal.events.written _ ∙ (append-nil _ ∙ c.w.invariant.log));
  replies = c.w.invariant.replies;
  count = c.w.invariant.count;
}
