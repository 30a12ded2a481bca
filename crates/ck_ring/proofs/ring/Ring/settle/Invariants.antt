use Rattle.std.proofs.Common.{[], ◌∷◌}
use Rattle.ck_ring.specs.State.{settle}
use Rattle.ck_ring.proofs.ring.Ring.settle.Given as goal

abbrev pub ghosts-exchange_head : goal.ghosts-exchange_head
ghosts-exchange_head a = record { opens = settle ∷ a.mine ∷ a.item ∷ [] }
