use Rattle.std.proofs.Common.{[], ◌∷◌}
use Rattle.ck_registry.specs.State.{end}
use Rattle.ck_registry.proofs.registry.Registry.end.Given as goal

abbrev pub ghosts-set_depth : goal.ghosts-set_depth
ghosts-set_depth a = record { opens = end ∷ [] }
