use Rattle.std.proofs.Common.{[], ◌∷◌}
use Rattle.ck_signal.specs.Words.{mark}
use Rattle.ck_signal.proofs.calls.mark.Given as goal

abbrev pub ghosts-write : goal.ghosts-write
ghosts-write g a = record { opens = mark ∷ [] }
