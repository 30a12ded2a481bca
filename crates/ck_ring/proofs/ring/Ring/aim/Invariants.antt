use Rattle.std.proofs.Common.{[], ◌∷◌}
use Rattle.ck_ring.specs.State.{aim}
use Rattle.ck_ring.proofs.ring.Ring.aim.Given as goal

abbrev pub ghosts-look : goal.ghosts-look
ghosts-look a = record { opens = aim ∷ [] }
