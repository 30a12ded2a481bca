use Rattle.std.proofs.Common.{arith}
use Rattle.ck_htlaw.specs.Host.{host}
use Rattle.ck_htwrite.specs.Writes.{counters_in}
use Rattle.ck_htwrite.proofs.Copying.{new_low}
use Rattle.ck_htwrite.proofs.Stores.{may_pair_high, may_pair_low, may_pair_state, may_pair_value, paired}
use Rattle.ck_htwrite.proofs.rebuild.store_pair.Goals as goal

pub store-requires-clause-word : goal.store-requires-clause-word
store-requires-clause-word g c = new_low (counters_in (host g.D.Client.meaning g.D.Within.place g.D.Within.part) c.args.domain.now.origin) c.args.root c.args.at 3 c.requires.root c.requires.slot (omega arith)

pub store-requires-2-clause-word : goal.store-requires-2-clause-word
store-requires-2-clause-word g c = new_low (counters_in (host g.D.Client.meaning g.D.Within.place g.D.Within.part) c.args.domain.now.origin) c.args.root c.args.at 1 c.requires.root c.requires.slot (omega arith)

pub store-requires-3-clause-word : goal.store-requires-3-clause-word
store-requires-3-clause-word g c = new_low (counters_in (host g.D.Client.meaning g.D.Within.place g.D.Within.part) c.args.domain.now.origin) c.args.root c.args.at 2 c.requires.root c.requires.slot (omega arith)

pub store-requires-4-clause-word : goal.store-requires-4-clause-word
store-requires-4-clause-word g c = new_low (counters_in (host g.D.Client.meaning g.D.Within.place g.D.Within.part) c.args.domain.now.origin) c.args.root c.args.at 0 c.requires.root c.requires.slot (omega arith)

pub store-requires-clause-due : goal.store-requires-clause-due
store-requires-clause-due g c = may_pair_value (host g.D.Client.meaning g.D.Within.place g.D.Within.part) c.args.domain.now.origin g.O.Opens.opens c.args.root c.args.at c.args.low c.args.high c.args.value c.args.writer.now c.requires.due

pub store-requires-2-clause-due : goal.store-requires-2-clause-due
store-requires-2-clause-due g c =
    may_pair_low (host g.D.Client.meaning g.D.Within.place g.D.Within.part) c.args.domain.now.origin g.O.Opens.opens c.args.root c.args.at c.args.low c.args.high c.args.value c.args.writer.now c.requires.due
    c.store.new.writer c.store.ensures.step

pub store-requires-3-clause-due : goal.store-requires-3-clause-due
store-requires-3-clause-due g c =
    may_pair_high (host g.D.Client.meaning g.D.Within.place g.D.Within.part) c.args.domain.now.origin g.O.Opens.opens c.args.root c.args.at c.args.low c.args.high c.args.value c.args.writer.now c.requires.due
    c.store.new.writer c.store.ensures.step c.store-2.new.writer c.store-2.ensures.step

pub store-requires-4-clause-due : goal.store-requires-4-clause-due
store-requires-4-clause-due g c =
    may_pair_state (host g.D.Client.meaning g.D.Within.place g.D.Within.part) c.args.domain.now.origin g.O.Opens.opens c.args.root c.args.at c.args.low c.args.high c.args.value c.args.writer.now c.requires.due
    c.store.new.writer c.store.ensures.step c.store-2.new.writer c.store-2.ensures.step c.store-3.new.writer c.store-3.ensures.step

pub returns : goal.returns
returns g c =
    let steps = paired (host g.D.Client.meaning g.D.Within.place g.D.Within.part) c.args.domain.now.origin g.O.Opens.opens c.args.root c.args.at c.args.low c.args.high c.args.value c.args.writer.now c.requires.due
    c.store.new.writer c.store.ensures.step c.store-2.new.writer c.store-2.ensures.step c.store-3.new.writer c.store-3.ensures.step c.store-4.new.writer c.store-4.ensures.step in
    record { steps = steps }
