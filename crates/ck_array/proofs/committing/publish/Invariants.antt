use Rattle.std.proofs.Common.{[], ◌∷◌}
use Rattle.ck_arraylaw.specs.Calls.{commit}
use Rattle.ck_array.proofs.committing.publish.Given as goal

abbrev pub ghosts-store : goal.ghosts-store
ghosts-store g a = record { opens = commit ∷ [] }
