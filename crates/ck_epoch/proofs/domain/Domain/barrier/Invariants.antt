use Rattle.std.proofs.Common.{[], ◌∷◌}
use Rattle.ck_epoch.specs.State.{barrier}
use Rattle.ck_epoch.proofs.domain.Domain.barrier.Given as goal

abbrev pub ghosts-two_rounds : goal.ghosts-two_rounds
ghosts-two_rounds g a = record { opens = barrier ∷ [] }
