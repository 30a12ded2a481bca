use Rattle.std.proofs.Common.{refl}
use Rattle.ck_words.proofs.Rising.{rising-step, rising-end}
use Rattle.ck_words.proofs.tree.rise.Goals as goal

pub returns-then-halvings-node-clause-consistent :
    goal.returns-then-halvings-node-clause-consistent
returns-then-halvings-node-clause-consistent c =
    rising-end _ _ _ _ c.loop-node.invariant c.loop-node-test.true _ _ refl c.joined-value.ensures c.if-halvings-node.true

pub loop-node-preserved : goal.loop-node-preserved
loop-node-preserved c =
    rising-step _ _ _ _ c.loop-node.invariant c.loop-node-test.true _ _ refl c.joined-value.ensures
