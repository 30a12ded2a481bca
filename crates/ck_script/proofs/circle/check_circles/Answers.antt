use Rattle.std.proofs.Common.{arith, ◌∙◌, sym, map}
use Rattle.std.proofs.lemmas.List.{length-map}
use Rattle.ck_script.specs.Script.{said_of}
use Rattle.ck_script.proofs.Checking.{query_file_next}
use Rattle.ck_script.proofs.Circles.{within_first, within_next, circle_none, circle_some, no_hold_no_circle}
use Rattle.ck_script.proofs.circle.check_circles.Goals as goal

pub returns-then-not-has_hold : goal.returns-then-not-has_hold
returns-then-not-has_hold g c = sym (no_hold_no_circle (g.U.LineList.items c.args.ups.now) (map g.F.LineList.items c.args.asks.now) (sym c.has_hold.ensures ∙ c.if-not-has_hold.true))

pub loop-i-init : goal.loop-i-init
loop-i-init g c = record {
  first = c.len-end.ensures ∙ within_first (map said_of (map g.F.LineList.items c.args.asks.now)) 0 (g.U.LineList.items c.args.ups.now);
  within = omega (arith, c.len-end.ensures);
}

-- one more file
pub loop-i-preserved : goal.loop-i-preserved
loop-i-preserved g c =
    let here = query_file_next g.F.LineList.items c.args.asks.now c.loop-i.i c.index-asks-i.result c.loop-i-test.true c.index-asks-i.is in
    record {
      first = c.first_circle-end.ensures.first ∙ within_next _ c.loop-i.i c.loop-i.end _ (g.U.LineList.items c.args.ups.now) here c.loop-i.invariant.first;
      within = omega (arith, c.first_circle-end.ensures.within);
    }

pub returns-then-end-len : goal.returns-then-end-len
returns-then-end-len g c = sym (circle_none (g.U.LineList.items c.args.ups.now) _ c.loop-i.i c.loop-i.end (simp length-map (omega arith)) c.loop-i.invariant.first (omega arith))

pub returns : goal.returns
returns g c = circle_some (g.U.LineList.items c.args.ups.now) _ c.loop-i.i c.loop-i.end c.get.result (simp length-map (omega arith)) c.loop-i.invariant.first c.get.ensures
