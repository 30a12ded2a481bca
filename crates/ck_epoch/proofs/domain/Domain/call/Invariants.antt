use Rattle.std.proofs.Common.{[], ◌∷◌}
use Rattle.ck_epoch.proofs.domain.Domain.call.Given as goal

abbrev pub ghosts-retire : goal.ghosts-retire
ghosts-retire g a = record { item = a.item.at ∷ a.item.log ∷ [] }
