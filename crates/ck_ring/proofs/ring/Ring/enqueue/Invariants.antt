use Rattle.std.proofs.Common.{[], ◌∷◌}
use Rattle.ck_ring.specs.State.{enqueue}
use Rattle.ck_ring.proofs.ring.Ring.enqueue.Given as goal

abbrev pub ghosts-first_load : goal.ghosts-first_load
ghosts-first_load a = record { opens = enqueue ∷ a.argument ∷ [] }
