use Rattle.ck_registry.proofs.Visitors.{others_fresh, last_fresh}
use Rattle.ck_registry.proofs.tests.next_of.Goals as goal

pub returns-clause-left : goal.returns-clause-left
returns-clause-left c = others_fresh c.args.registry.now 4 c.args.visitors.now.items c.pop.new.self.items c.pop.result c.pop.ensures.items c.requires.fresh

pub returns-clause-visitor : goal.returns-clause-visitor
returns-clause-visitor c = last_fresh c.args.registry.now 4 c.args.visitors.now.items c.pop.new.self.items c.pop.result c.pop.ensures.items c.requires.fresh
