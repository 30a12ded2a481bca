use Rattle.std.proofs.Common.{[], ◌∷◌}
use Rattle.ck_ring.specs.State.{try_dequeue}
use Rattle.ck_ring.proofs.ring.Ring.try_dequeue.Given as goal

abbrev pub ghosts-look : goal.ghosts-look
ghosts-look a = record { opens = try_dequeue ∷ [] }
