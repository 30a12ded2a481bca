use Rattle.ck_htwrite.proofs.ByPlan.{deleted_by, may_delete, may_remove_ask, remove_asks, some_keys, tombstones_fit, value_here}
use Rattle.ck_htwrite.proofs.cases.remove_by.Goals as goal

pub word_in-was-requires : goal.word_in-was-requires
word_in-was-requires g c =
    value_here _ _ c.args.writer.now c.args.state.now c.requires.due.0 g.O.Opens.opens c.args.key 0 c.args.plan c.requires.due.1 c.requires.inside c.requires.states c.in-Stand.at c.in-Stand.is

pub delete-requires-clause-keys : goal.delete-requires-clause-keys
delete-requires-clause-keys g c =
    some_keys _ _ c.args.writer.now c.args.state.now c.requires.due.0 g.O.Opens.opens c.args.key 0 c.args.plan c.requires.due.1 c.requires.inside c.requires.states c.in-Stand.at c.in-Stand.is c.requires.name

pub delete-requires-clause-tombstones : goal.delete-requires-clause-tombstones
delete-requires-clause-tombstones g c = tombstones_fit _ _ c.args.writer.now _ c.requires.due.0

pub delete-requires-clause-due : goal.delete-requires-clause-due
delete-requires-clause-due g c =
    may_delete _ _ c.args.writer.now c.args.state.now c.requires.due.0 g.O.Opens.opens c.args.key 0 c.args.plan c.requires.due.1 c.requires.inside c.requires.states c.in-Stand.at c.in-Stand.is c.requires.name

pub returns-in-Stand-clause-made : goal.returns-in-Stand-clause-made
returns-in-Stand-clause-made g c r is =
    deleted_by _ _ c.args.writer.now c.args.state.now r g.O.Opens.opens c.args.key 0 c.args.plan is c.requires.inside c.requires.states c.in-Stand.at c.in-Stand.is c.requires.name
    c.word_in-was.result c.word_in-was.ensures _ _ c.delete.ensures.steps c.delete.ensures.state

pub ask_root-requires-clause-due : goal.ask_root-requires-clause-due
ask_root-requires-clause-due g c root =
    may_remove_ask _ _ c.args.writer.now c.args.state.now c.requires.due.0 g.O.Opens.opens c.args.key 0 c.args.plan c.requires.due.1 c.in-Empty.is c.requires.name root

pub returns-in-Empty-clause-made : goal.returns-in-Empty-clause-made
returns-in-Empty-clause-made g c r is =
    remove_asks _ _ c.args.writer.now c.args.state.now r g.O.Opens.opens c.args.key 0 c.args.plan is c.in-Empty.is c.requires.name c.ask_root.result _ c.ask_root.ensures.step
