use Rattle.std.proofs.Common.{[], ◌∷◌}
use Rattle.ck_epoch.specs.State.{begin}
use Rattle.ck_epoch.proofs.domain.Domain.begin.Given as goal

abbrev pub ghosts-set_depth : goal.ghosts-set_depth
ghosts-set_depth g a = record { opens = begin ∷ [] }
