use Rattle.std.proofs.Common.{[], ◌∷◌}
use Rattle.ck_htlaw.specs.Calls.{put}
use Rattle.ck_htwrite.proofs.calls.put.Given as goal

abbrev pub ghosts-store_by : goal.ghosts-store_by
ghosts-store_by g a = record { opens = put ∷ a.key ∷ a.value ∷ [] }
