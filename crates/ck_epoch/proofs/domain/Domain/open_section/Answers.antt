use Rattle.ck_epoch.proofs.SectionSteps.{may_enter, may_hold, may_open}
use Rattle.ck_epoch.proofs.domain.Domain.open_section.Goals as goal

pub store-requires-clause-may : goal.store-requires-clause-may
store-requires-clause-may g c = may_enter g.C.Client.meaning g.met.C.Client.passes c.args.token.now c.args.rec c.requires.outside c.requires.calls c.active_word.result c.active_word.ensures

pub load-epoch-requires-clause-may : goal.load-epoch-requires-clause-may
load-epoch-requires-clause-may g c n _ =
    may_hold g.C.Client.meaning g.met.C.Client.passes c.args.token.now c.args.rec c.requires.outside c.requires.calls c.store.new.token c.active_word.result c.active_word.ensures c.store.ensures.step n

pub store-requires-2-clause-may : goal.store-requires-2-clause-may
store-requires-2-clause-may g c =
    may_open g.C.Client.meaning g.met.C.Client.passes c.args.token.now c.args.rec c.requires.outside c.requires.calls c.store.new.token c.active_word.result c.active_word.ensures c.store.ensures.step
    c.load-epoch.new.token c.load-epoch.result c.load-epoch.ensures.step c.epoch_word.result c.epoch_word.ensures
