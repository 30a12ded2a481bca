use Rattle.std.proofs.Common.{[], ◌∷◌}
use Rattle.ck_epoch.specs.State.{poll}
use Rattle.ck_epoch.proofs.domain.Domain.start_poll.Given as goal

abbrev pub ghosts-load : goal.ghosts-load
ghosts-load g a = record { opens = poll ∷ [] }
