use Rattle.ck_registry.proofs.SectionSteps.{may_set, is_set, set_items, set_calls}
use Rattle.ck_registry.proofs.registry.Registry.set_depth.Goals as goal

pub store-requires-clause-may : goal.store-requires-clause-may
store-requires-clause-may g c = may_set c.args.token.now c.args.rec c.args.from c.requires.inside.0 c.requires.inside.1 c.requires.calls g.O.Opens.opens c.args.depth c.requires.name c.active_word.result c.active_word.ensures

pub returns-clause-stands : goal.returns-clause-stands
returns-clause-stands g c = is_set c.args.token.now c.args.rec c.args.from c.requires.inside.0 c.requires.inside.1 c.requires.calls g.O.Opens.opens c.args.depth c.requires.name c.store.new.token c.active_word.result c.store.ensures.step

pub returns-clause-items : goal.returns-clause-items
returns-clause-items g c = set_items c.args.token.now c.args.rec c.args.from c.requires.inside.0 c.requires.inside.1 c.requires.calls g.O.Opens.opens c.args.depth c.requires.name c.store.new.token c.active_word.result c.store.ensures.step

pub returns-clause-calls : goal.returns-clause-calls
returns-clause-calls g c = set_calls c.args.token.now c.args.rec c.args.from c.requires.inside.0 c.requires.inside.1 c.requires.calls g.O.Opens.opens c.args.depth c.requires.name c.store.new.token c.active_word.result c.store.ensures.step
