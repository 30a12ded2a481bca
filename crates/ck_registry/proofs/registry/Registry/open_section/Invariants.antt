use Rattle.std.proofs.Common.{[], ◌∷◌}
use Rattle.ck_registry.specs.State.{begin}
use Rattle.ck_registry.proofs.registry.Registry.open_section.Given as goal

abbrev pub ghosts-store : goal.ghosts-store
ghosts-store a = record { opens = begin ∷ [] }
