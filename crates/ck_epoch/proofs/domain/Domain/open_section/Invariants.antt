use Rattle.std.proofs.Common.{[], ◌∷◌}
use Rattle.ck_epoch.specs.State.{begin}
use Rattle.ck_epoch.proofs.domain.Domain.open_section.Given as goal

abbrev pub ghosts-store : goal.ghosts-store
ghosts-store g a = record { opens = begin ∷ [] }
