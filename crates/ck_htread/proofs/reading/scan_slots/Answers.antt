use Rattle.std.proofs.Common.{ℕ, ◌+◌, ◌^◌, ◌<◌, ◌≡◌, refl, ap, ◌∙◌, arith}
use Rattle.std.proofs.lemmas.Nat.{one_shl, pow_pos}
use Rattle.ck_htplan.proofs.Orders.{below}
use Rattle.ck_epoch.specs.Ends.{Pass}
use Rattle.ck_htlaw.specs.Layout.{log_of}
use Rattle.ck_htread.proofs.Scanning.{none_passed, passes_more, stops_vacant, stops_match, passed_all, at_slot}
use Rattle.ck_htlaw.specs.Host.{host}
use Rattle.ck_htread.proofs.reading.scan_slots.Goals as goal

some : (c : ℕ) → 0 < 2 ^ c
some c = pow_pos c

pub loop-i-init : goal.loop-i-init
loop-i-init g c = record {
  same = refl;
  table_same = refl;
  depth_same = refl;
  passed = λ totals at. none_passed (host g.D.Client.meaning g.D.Within.place g.D.Within.part) c.args.domain.now.origin c.args.search.now totals c.args.pass.now.token (some (log_of c.args.search.now.root)) at;
}

pub returns-in-Vacant-clause-slots : goal.returns-in-Vacant-clause-slots
returns-in-Vacant-clause-slots g c totals at =
    let ht = host g.D.Client.meaning g.D.Within.place g.D.Within.part in let o = c.args.domain.now.origin in let p = c.args.search.now in let i = c.loop-i.i in
    let h = c.loop-i.invariant.passed totals at in
    let low : i < 2 ^ log_of p.root = below (log_of p.root) i c.requires.search.root.few c.loop-i-test.true in
    stops_vacant ht o p totals i c.args.pass.now.token c.loop-i.pass.token c.load_slot.new.pass.token low h (c.in-Vacant.ensures.slot totals (at_slot ht o p totals i c.loop-i.pass.token low h.at))

pub returns-in-Match-clause-slots : goal.returns-in-Match-clause-slots
returns-in-Match-clause-slots g c totals at =
    let ht = host g.D.Client.meaning g.D.Within.place g.D.Within.part in let o = c.args.domain.now.origin in let p = c.args.search.now in let i = c.loop-i.i in
    let h = c.loop-i.invariant.passed totals at in
    let low : i < 2 ^ log_of p.root = below (log_of p.root) i c.requires.search.root.few c.loop-i-test.true in
    stops_match ht o p totals i c.in-Match.value c.args.pass.now.token c.loop-i.pass.token c.load_slot.new.pass.token low h (c.in-Match.ensures.slot totals (at_slot ht o p totals i c.loop-i.pass.token low h.at))

pub loop-i-preserved : goal.loop-i-preserved
loop-i-preserved g c =
    let ht = host g.D.Client.meaning g.D.Within.place g.D.Within.part in let o = c.args.domain.now.origin in let p = c.args.search.now in let i = c.loop-i.i in
    let low : i < 2 ^ log_of p.root = below (log_of p.root) i c.requires.search.root.few c.loop-i-test.true in
    record {
      same = c.load_slot.ensures.same ∙ ap (λ (q : Pass g.row.D.Denot). record q { token = c.load_slot.new.pass.token }) c.loop-i.invariant.same;
      table_same = c.load_slot.ensures.table ∙ c.loop-i.invariant.table_same;
      depth_same = c.load_slot.ensures.depth ∙ c.loop-i.invariant.depth_same;
      passed = λ totals at. let h = c.loop-i.invariant.passed totals at in
          passes_more ht o p totals i (i + 1) c.args.pass.now.token c.loop-i.pass.token c.load_slot.new.pass.token h refl (c.in-Other.ensures.slot totals (at_slot ht o p totals i c.loop-i.pass.token low h.at));
    }

pub returns-clause-slots : goal.returns-clause-slots
returns-clause-slots g c totals at =
    let p = c.args.search.now in
    let all : c.loop-i.i ≡ 2 ^ log_of p.root = omega (arith, one_shl (log_of p.root) 64) in
    passed_all (host g.D.Client.meaning g.D.Within.place g.D.Within.part) c.args.domain.now.origin p totals c.loop-i.i c.args.pass.now.token c.loop-i.pass.token all (c.loop-i.invariant.passed totals at)

pub load_slot-requires-clause-at : goal.load_slot-requires-clause-at
load_slot-requires-clause-at g c =
    let ht = host g.D.Client.meaning g.D.Within.place g.D.Within.part in let o = c.args.domain.now.origin in let p = c.args.search.now in let i = c.loop-i.i in
    let low : i < 2 ^ log_of p.root = below (log_of p.root) i c.requires.search.root.few c.loop-i-test.true in
    let totals = c.requires.at.0 in
    (totals, at_slot ht o p totals i c.loop-i.pass.token low (c.loop-i.invariant.passed totals c.requires.at.1).at)
