use Rattle.std.proofs.Common.{[], ◌∷◌}
use Rattle.ck_htlaw.specs.Calls.{set}
use Rattle.ck_htwrite.proofs.calls.set.Given as goal

abbrev pub ghosts-store_by : goal.ghosts-store_by
ghosts-store_by g a = record { opens = set ∷ a.key ∷ a.value ∷ [] }
