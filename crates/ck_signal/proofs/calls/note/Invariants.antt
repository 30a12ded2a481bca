use Rattle.std.proofs.Common.{[], ◌∷◌}
use Rattle.ck_signal.specs.Words.{note}
use Rattle.ck_signal.proofs.calls.note.Given as goal

abbrev pub ghosts-tell : goal.ghosts-tell
ghosts-tell g a = record { opens = note ∷ [] }
