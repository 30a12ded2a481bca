use Rattle.std.proofs.Common.{[], ◌∷◌}
use Rattle.ck_registry.specs.State.{unregister}
use Rattle.ck_registry.proofs.registry.Registry.unregister.Given as goal

abbrev pub ghosts-store : goal.ghosts-store
ghosts-store a = record { opens = unregister ∷ [] }
