use Rattle.ck_registry.proofs.SectionSteps.{may_enter, may_hold, may_open, is_inside, begun_items, one_call, begun}
use Rattle.ck_registry.proofs.registry.Registry.open_section.Goals as goal

pub store-requires-clause-may : goal.store-requires-clause-may
store-requires-clause-may c = may_enter c.args.token.now c.args.rec c.requires.outside c.requires.calls c.active_word.result c.active_word.ensures

pub load-epoch-requires-clause-may : goal.load-epoch-requires-clause-may
load-epoch-requires-clause-may c n _ = may_hold c.args.token.now c.args.rec c.requires.outside c.requires.calls c.store.new.token c.active_word.result c.active_word.ensures c.store.ensures.step n

pub store-requires-2-clause-may : goal.store-requires-2-clause-may
store-requires-2-clause-may c = may_open c.args.token.now c.args.rec c.requires.outside c.requires.calls c.store.new.token c.active_word.result c.active_word.ensures c.store.ensures.step
    c.load-epoch.new.token c.load-epoch.result c.load-epoch.ensures.step c.epoch_word.result c.epoch_word.ensures

pub returns-clause-steps : goal.returns-clause-steps
returns-clause-steps c = (
  c.load-epoch.result,
  begun c.args.token.now c.args.rec c.requires.outside c.requires.calls c.store.new.token c.active_word.result c.active_word.ensures c.store.ensures.step
      c.load-epoch.new.token c.load-epoch.result c.load-epoch.ensures.step c.store-2.new.token c.epoch_word.result c.epoch_word.ensures c.store-2.ensures.step,
)

pub returns-clause-inside : goal.returns-clause-inside
returns-clause-inside c = is_inside c.args.token.now c.args.rec c.requires.outside c.requires.calls c.store.new.token c.active_word.result c.active_word.ensures c.store.ensures.step
    c.load-epoch.new.token c.load-epoch.result c.load-epoch.ensures.step c.store-2.new.token c.epoch_word.result c.epoch_word.ensures c.store-2.ensures.step

pub returns-clause-items : goal.returns-clause-items
returns-clause-items c = begun_items c.args.token.now c.args.rec c.requires.outside c.requires.calls c.store.new.token c.active_word.result c.active_word.ensures c.store.ensures.step
    c.load-epoch.new.token c.load-epoch.result c.load-epoch.ensures.step c.store-2.new.token c.epoch_word.result c.epoch_word.ensures c.store-2.ensures.step

pub returns-clause-calls : goal.returns-clause-calls
returns-clause-calls c = one_call c.args.token.now c.args.rec c.requires.outside c.requires.calls c.store.new.token c.active_word.result c.active_word.ensures c.store.ensures.step
    c.load-epoch.new.token c.load-epoch.result c.load-epoch.ensures.step c.store-2.new.token c.epoch_word.result c.epoch_word.ensures c.store-2.ensures.step
