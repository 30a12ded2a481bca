use Rattle.std.proofs.Common.{[], ◌∷◌}
use Rattle.ck_registry.specs.State.{advance}
use Rattle.ck_registry.proofs.registry.Registry.advance.Given as goal

abbrev pub ghosts-exchange : goal.ghosts-exchange
ghosts-exchange a = record { opens = advance ∷ a.expected ∷ [] }
