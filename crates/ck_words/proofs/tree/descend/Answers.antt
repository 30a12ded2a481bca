use Rattle.std.proofs.Common.{arith, ◌≡◌, slice_index}
use Rattle.ck_words.proofs.Descending.{descending-init, descending-inner, descending-step, descending-end, descending-stays}
use Rattle.ck_words.proofs.tree.descend.Goals as goal
use Rattle.ck_words.proofs.tree.descend.Goals.{Left-loop-spare, then-loop-spare-test+else-halvings-node-gt0, else-loop-spare-test}

pub loop-spare-init : goal.loop-spare-init
loop-spare-init c = descending-init _ _ c.requires.deep c.requires.fits

pub fitting_half-node-requires-clause-inner : goal.fitting_half-node-requires-clause-inner
fitting_half-node-requires-clause-inner c =
    descending-inner _ _ _ _ c.loop-spare.invariant c.loop-spare-test.true c.requires.tall

pub loop-spare-preserved : goal.loop-spare-preserved
loop-spare-preserved c =
    descending-step _ _ _ _ c.loop-spare.invariant c.loop-spare-test.true c.requires.tall _ c.fitting_half-node.ensures.half (λ e. omega (arith, e, c.if-halvings-node-gt0.true)) c.fitting_half-node.ensures.fits c.requires.deep

node_whole : (c : Left-loop-spare) → slice_index c.args.halvings.now c.loop-spare.node ≡ 0
node_whole c =
    let fits = c.loop-spare.invariant.fits in
    elim c.loop-spare-test.branch [
      | then-loop-spare-test+else-halvings-node-gt0 w ↦ omega (arith, w.if-halvings-node-gt0.false)
      | else-loop-spare-test w ↦ omega (arith, w.loop-spare-test.false, fits)
    ]

pub returns-clause-whole : goal.returns-clause-whole
returns-clause-whole c =
    (descending-end _ _ _ _ c.loop-spare.invariant c.requires.consistent c.requires.even c.requires.deep c.requires.tall (node_whole c)).0

pub returns-clause-path : goal.returns-clause-path
returns-clause-path c =
    (descending-end _ _ _ _ c.loop-spare.invariant c.requires.consistent c.requires.even c.requires.deep c.requires.tall (node_whole c)).1

pub returns-clause-leftmost : goal.returns-clause-leftmost
returns-clause-leftmost c = descending-stays _ _ _ _ c.loop-spare.invariant c.requires.deep
