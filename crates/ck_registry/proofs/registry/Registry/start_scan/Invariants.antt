use Rattle.std.proofs.Common.{[], ◌∷◌}
use Rattle.ck_registry.specs.State.{scan}
use Rattle.ck_registry.proofs.registry.Registry.start_scan.Given as goal

abbrev pub ghosts-load : goal.ghosts-load
ghosts-load a = record { opens = scan ∷ [] }
