use Rattle.std.proofs.Common.{[], ◌∷◌}
use Rattle.ck_registry.specs.State.{retire}
use Rattle.ck_registry.proofs.registry.Registry.call.Given as goal

abbrev pub ghosts-retire-O-Opens : goal.ghosts-retire-O-Opens
ghosts-retire-O-Opens a = record { opens = retire ∷ a.item.at ∷ a.item.log ∷ [] }

abbrev pub ghosts-retire-H-Hands : goal.ghosts-retire-H-Hands
ghosts-retire-H-Hands a = record { item = a.item.at ∷ a.item.log ∷ [] }
