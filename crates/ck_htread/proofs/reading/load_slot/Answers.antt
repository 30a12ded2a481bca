use Rattle.std.proofs.Common.{true, false, ap, sym, ◌∙◌}
use Rattle.ck_htlaw.specs.Look.{at_state, at_low, at_high, at_value}
use Rattle.ck_htread.specs.Reading.{LookTotals, IsInState}
use Rattle.ck_htread.proofs.SlotLoads.{vacant_goes, full_goes, other_goes, low_goes, key_goes, value_goes, word_in, loads_is, tells_vacant, tells_other, tells_other_key, tells_match}
use Rattle.ck_htlaw.specs.Host.{host}
use Rattle.ck_htread.proofs.reading.load_slot.Given as given
use Rattle.ck_htread.proofs.reading.load_slot.Goals as goal
use Rattle.ck_htread.proofs.reading.load_slot.Goals.{After-load-low}

-- the look goes on to the high word
low_loaded : (g : given.Over) (c : After-load-low g) → let h = host g.D.Client.meaning g.D.Within.place g.D.Within.part in let o = c.args.domain.now.origin in let p = c.args.search.now in
    (totals : LookTotals) → IsInState h o p.root (at_state p.key p.counter c.args.i) totals c.args.pass.now.token → IsInState h o p.root (at_high p.key p.counter c.args.i c.load-low.result) totals c.load-low.new.pass.token
low_loaded g c totals at =
    let ht = host g.D.Client.meaning g.D.Within.place g.D.Within.part in let o = c.args.domain.now.origin in let p = c.args.search.now in let i = c.args.i in
    let full = full_goes ht o p i totals c.load-state.new.pass.token c.load-state.result c.if-state-ne-FULL.false (c.load-state.ensures.at p.root (at_state p.key p.counter i) totals at tt) in
    low_goes ht o p i totals c.load-low.new.pass.token c.load-low.result (c.load-low.ensures.at p.root (at_low p.key p.counter i) totals full tt)

pub load-low-requires-clause-due : goal.load-low-requires-clause-due
load-low-requires-clause-due g c =
    let ht = host g.D.Client.meaning g.D.Within.place g.D.Within.part in let o = c.args.domain.now.origin in let p = c.args.search.now in let i = c.args.i in
    let totals = c.requires.at.0 in (
      p.root,
      at_low p.key p.counter i,
      totals,
      full_goes ht o p i totals c.load-state.new.pass.token c.load-state.result c.if-state-ne-FULL.false (c.load-state.ensures.at p.root (at_state p.key p.counter i) totals c.requires.at.1 tt),
      tt,
      (λ n. word_in ht o p i totals c.slot.result 1 p.hash c.slot.ensures.value c.requires.search.hash),
    )

pub load-high-requires-clause-due : goal.load-high-requires-clause-due
load-high-requires-clause-due g c =
    let ht = host g.D.Client.meaning g.D.Within.place g.D.Within.part in let o = c.args.domain.now.origin in let p = c.args.search.now in let i = c.args.i in
    let totals = c.requires.at.0 in (
      p.root,
      at_high p.key p.counter i c.load-low.result,
      totals,
      low_loaded g (goal.at.load-high-requires-clause-due g c).After-load-low totals c.requires.at.1,
      tt,
      (λ n. word_in ht o p i totals c.slot.result 2 p.hash c.slot.ensures.value c.requires.search.hash),
    )

pub load-value-requires-clause-due : goal.load-value-requires-clause-due
load-value-requires-clause-due g c =
    let ht = host g.D.Client.meaning g.D.Within.place g.D.Within.part in let o = c.args.domain.now.origin in let p = c.args.search.now in let i = c.args.i in
    let totals = c.requires.at.0 in
    let at2 = low_loaded g (goal.at.load-value-requires-clause-due g c).After-load-low totals c.requires.at.1 in (
      p.root,
      at_value p.key p.counter i,
      totals,
      key_goes ht o p i totals c.load-high.new.pass.token c.load-low.result c.load-high.result true (sym c.is_key.ensures ∙ c.if-not-is_key.false) (c.load-high.ensures.at p.root (at_high p.key p.counter i c.load-low.result) totals at2 tt),
      tt,
      (λ n. word_in ht o p i totals c.slot.result 3 p.hash c.slot.ensures.value c.requires.search.hash),
    )

pub returns-then-state-eq-EMPTY-clause-slot : goal.returns-then-state-eq-EMPTY-clause-slot
returns-then-state-eq-EMPTY-clause-slot g c totals at =
    let ht = host g.D.Client.meaning g.D.Within.place g.D.Within.part in let o = c.args.domain.now.origin in let p = c.args.search.now in let i = c.args.i in
    let t1 = c.load-state.new.pass.token in
    tells_vacant ht o p i totals c.args.pass.now.token t1 c.load-state.result
    (loads_is ht o p i totals c.args.pass.now.token t1 0 _ c.load-state.result (ap (λ q. q.token) c.load-state.ensures.step) (word_in ht o p i totals c.slot.result 0 p.hash c.slot.ensures.value c.requires.search.hash))
    c.if-state-eq-EMPTY.true
    (vacant_goes ht o p i totals t1 c.load-state.result c.if-state-eq-EMPTY.true (c.load-state.ensures.at p.root (at_state p.key p.counter i) totals at tt))

pub returns-then-state-ne-FULL-clause-slot : goal.returns-then-state-ne-FULL-clause-slot
returns-then-state-ne-FULL-clause-slot g c totals at =
    let ht = host g.D.Client.meaning g.D.Within.place g.D.Within.part in let o = c.args.domain.now.origin in let p = c.args.search.now in let i = c.args.i in
    let t1 = c.load-state.new.pass.token in
    tells_other ht o p i totals c.args.pass.now.token t1 c.load-state.result
    (loads_is ht o p i totals c.args.pass.now.token t1 0 _ c.load-state.result (ap (λ q. q.token) c.load-state.ensures.step) (word_in ht o p i totals c.slot.result 0 p.hash c.slot.ensures.value c.requires.search.hash))
    c.if-state-eq-EMPTY.false c.if-state-ne-FULL.true
    (other_goes ht o p i totals t1 c.load-state.result c.if-state-eq-EMPTY.false c.if-state-ne-FULL.true (c.load-state.ensures.at p.root (at_state p.key p.counter i) totals at tt))

pub returns-then-not-is_key-clause-slot : goal.returns-then-not-is_key-clause-slot
returns-then-not-is_key-clause-slot g c totals at =
    let ht = host g.D.Client.meaning g.D.Within.place g.D.Within.part in let o = c.args.domain.now.origin in let p = c.args.search.now in let i = c.args.i in
    let t = c.args.pass.now.token in let t1 = c.load-state.new.pass.token in let t2 = c.load-low.new.pass.token in let t3 = c.load-high.new.pass.token in
    let at2 = low_loaded g (goal.at.returns-then-not-is_key-clause-slot g c).After-load-low totals at in
    tells_other_key ht o p i totals t t1 t2 t3 c.load-state.result c.load-low.result c.load-high.result
    (loads_is ht o p i totals t t1 0 _ c.load-state.result (ap (λ q. q.token) c.load-state.ensures.step) (word_in ht o p i totals c.slot.result 0 p.hash c.slot.ensures.value c.requires.search.hash))
    (loads_is ht o p i totals t1 t2 1 _ c.load-low.result (ap (λ q. q.token) c.load-low.ensures.step) (word_in ht o p i totals c.slot.result 1 p.hash c.slot.ensures.value c.requires.search.hash))
    (loads_is ht o p i totals t2 t3 2 _ c.load-high.result (ap (λ q. q.token) c.load-high.ensures.step) (word_in ht o p i totals c.slot.result 2 p.hash c.slot.ensures.value c.requires.search.hash))
    c.if-state-ne-FULL.false (sym c.is_key.ensures ∙ c.if-not-is_key.true)
    (key_goes ht o p i totals t3 c.load-low.result c.load-high.result false (sym c.is_key.ensures ∙ c.if-not-is_key.true) (c.load-high.ensures.at p.root (at_high p.key p.counter i c.load-low.result) totals at2 tt))

pub returns-clause-slot : goal.returns-clause-slot
returns-clause-slot g c totals at =
    let ht = host g.D.Client.meaning g.D.Within.place g.D.Within.part in let o = c.args.domain.now.origin in let p = c.args.search.now in let i = c.args.i in
    let t = c.args.pass.now.token in let t1 = c.load-state.new.pass.token in let t2 = c.load-low.new.pass.token in let t3 = c.load-high.new.pass.token in let t4 = c.load-value.new.pass.token in
    let at2 = low_loaded g (goal.at.returns-clause-slot g c).After-load-low totals at in
    let here = sym c.is_key.ensures ∙ c.if-not-is_key.false in
    let at3 = key_goes ht o p i totals t3 c.load-low.result c.load-high.result true here (c.load-high.ensures.at p.root (at_high p.key p.counter i c.load-low.result) totals at2 tt) in
    tells_match ht o p i totals t t1 t2 t3 c.load-state.result c.load-low.result c.load-high.result
    (loads_is ht o p i totals t t1 0 _ c.load-state.result (ap (λ q. q.token) c.load-state.ensures.step) (word_in ht o p i totals c.slot.result 0 p.hash c.slot.ensures.value c.requires.search.hash))
    (loads_is ht o p i totals t1 t2 1 _ c.load-low.result (ap (λ q. q.token) c.load-low.ensures.step) (word_in ht o p i totals c.slot.result 1 p.hash c.slot.ensures.value c.requires.search.hash))
    (loads_is ht o p i totals t2 t3 2 _ c.load-high.result (ap (λ q. q.token) c.load-high.ensures.step) (word_in ht o p i totals c.slot.result 2 p.hash c.slot.ensures.value c.requires.search.hash))
    c.if-state-ne-FULL.false t4 c.load-value.result
    (loads_is ht o p i totals t3 t4 3 _ c.load-value.result (ap (λ q. q.token) c.load-value.ensures.step) (word_in ht o p i totals c.slot.result 3 p.hash c.slot.ensures.value c.requires.search.hash))
    here (value_goes ht o p i totals t4 c.load-value.result (c.load-value.ensures.at p.root (at_value p.key p.counter i) totals at3 tt))
