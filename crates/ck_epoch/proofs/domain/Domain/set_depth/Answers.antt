use Rattle.ck_epoch.proofs.SectionSteps.{may_set}
use Rattle.ck_epoch.proofs.domain.Domain.set_depth.Goals as goal

pub store-requires-clause-may : goal.store-requires-clause-may
store-requires-clause-may g c =
    may_set g.C.Client.meaning g.met.C.Client.passes c.args.token.now c.args.rec c.args.from c.requires.inside.0 c.requires.inside.1 c.requires.calls g.O.Opens.opens c.args.depth c.requires.name c.active_word.result c.active_word.ensures
