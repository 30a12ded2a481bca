use Rattle.std.proofs.Common.{[], ◌∷◌}
use Rattle.ck_htlaw.specs.Calls.{tidy}
use Rattle.ck_htwrite.proofs.tidying.tidy.Given as goal

abbrev pub ghosts-tidy_map : goal.ghosts-tidy_map
ghosts-tidy_map g a = record { opens = tidy ∷ [] }
