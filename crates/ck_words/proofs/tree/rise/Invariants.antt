use Rattle.std.proofs.Common.{◌-◌}
use Rattle.ck_words.proofs.Rising.{IsRising}
use Rattle.ck_words.proofs.tree.rise.Given as goal

abbrev pub invariant-loop-node : goal.invariant-loop-node
invariant-loop-node l = IsRising l.fn.halvings l.halvings l.node l.value

abbrev pub decreases-loop-node : goal.decreases-loop-node
decreases-loop-node l = l.node - 1
