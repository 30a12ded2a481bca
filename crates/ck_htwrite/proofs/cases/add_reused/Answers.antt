use Rattle.std.proofs.Common.{arith}
use Rattle.ck_htlaw.specs.Stages.{reuse as reusing}
use Rattle.ck_htwrite.proofs.ByPlan.{may_ask_full, may_reuse_now, reuse_full, reused_now, some_tombstones}
use Rattle.ck_htwrite.proofs.cases.add_reused.Goals as goal

pub ask_root-requires-clause-due : goal.ask_root-requires-clause-due
ask_root-requires-clause-due g c found = may_ask_full _ _ c.args.writer.now c.args.state.now c.requires.due.0 g.O.Opens.opens c.args.key c.args.value c.args.at reusing c.requires.due.1 c.if-state-ge-MOST.true found

pub returns-then-state-ge-MOST-clause-made : goal.returns-then-state-ge-MOST-clause-made
returns-then-state-ge-MOST-clause-made g c r adding_is = reuse_full _ _ c.args.writer.now c.args.state.now r g.O.Opens.opens c.args.key c.args.value c.args.at adding_is c.if-state-ge-MOST.true c.ask_root.result _ c.ask_root.ensures.step

pub reuse-requires-clause-tombstones : goal.reuse-requires-clause-tombstones
reuse-requires-clause-tombstones g c =
    some_tombstones _ _ c.args.writer.now c.args.state.now c.requires.due.0 g.O.Opens.opens c.args.key c.args.value c.args.at c.requires.due.1 c.requires.slot (let z = c.if-state-ge-MOST.false in omega arith) c.requires.was

pub reuse-requires-clause-due : goal.reuse-requires-clause-due
reuse-requires-clause-due g c =
    may_reuse_now _ _ c.args.writer.now c.args.state.now c.requires.due.0 g.O.Opens.opens c.args.key c.args.value c.args.at c.requires.due.1 c.requires.slot (let z = c.if-state-ge-MOST.false in omega arith)

pub returns-clause-made : goal.returns-clause-made
returns-clause-made g c r adding_is =
    reused_now _ _ c.args.writer.now c.args.state.now r g.O.Opens.opens c.args.key c.args.value c.args.at adding_is c.requires.slot (let z = c.if-state-ge-MOST.false in omega arith) c.requires.was _ _ c.reuse.ensures.steps c.reuse.ensures.state
