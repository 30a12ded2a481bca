use Rattle.std.proofs.Common.{[], ◌∷◌, ◌++◌}
use Rattle.ck_history.specs.declared.event.ReaderEvent.TheVariants.{Reached}
use Rattle.ck_snap.specs.declared.journal.Events.{Events}
use Rattle.ck_snap.proofs.journal.Journals.note_reached.Given as goal

abbrev pub ghosts-note : goal.ghosts-note
ghosts-note a = record { after = λ (events : Events). record events { read = events.read ++ Reached a.about.now.0 a.about.now.1 ∷ [] } }
