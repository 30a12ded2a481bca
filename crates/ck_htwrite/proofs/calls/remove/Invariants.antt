use Rattle.std.proofs.Common.{[], ◌∷◌}
use Rattle.ck_htlaw.specs.Calls.{remove}
use Rattle.ck_htwrite.proofs.calls.remove.Given as goal

abbrev pub ghosts-remove_by : goal.ghosts-remove_by
ghosts-remove_by g a = record { opens = remove ∷ a.key ∷ [] }
