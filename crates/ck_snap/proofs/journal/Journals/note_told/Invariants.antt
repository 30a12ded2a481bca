use Rattle.std.proofs.Common.{[], ◌∷◌, ◌++◌}
use Rattle.ck_history.specs.declared.event.WriterEvent.TheVariants.{Told}
use Rattle.ck_snap.specs.declared.journal.Events.{Events}
use Rattle.ck_snap.proofs.journal.Journals.note_told.Given as goal

abbrev pub ghosts-note : goal.ghosts-note
ghosts-note a = record { after = λ (events : Events). record events { written = events.written ++ Told a.about.now.0 a.about.now.1 ∷ [] } }
