use Rattle.std.proofs.Common.{arith, ◌≡◌, ◌∙◌, sym, take, false}
use Rattle.ck_script.specs.Script.{said_of}
use Rattle.ck_script.specs.Fronts.{is_circle_with}
use Rattle.ck_script.proofs.Standing.{said_taken}
use Rattle.ck_script.proofs.Fronts.{front_grows}
use Rattle.ck_script.proofs.Circles.{placed_next, placed_there}
use Rattle.ck_script.proofs.circle.first_circle.Goals as goal

pub returns-then-circle-clause-first : goal.returns-then-circle-clause-first
returns-then-circle-clause-first g c =
    let here = said_taken (g.U.LineList.items c.args.ups.now) c.loop-i.i c.args.end c.what-what.result c.loop-i-test.true c.what-what.ensures in
    let first = placed_there (is_circle_with c.args.f (said_of (g.F.LineList.items c.args.lines.now))) c.loop-i.m c.loop-i.i (take c.args.end (g.U.LineList.items c.args.ups.now)) c.what-what.result here (sym c.look-circle.ensures.circle ∙ c.if-circle.true) in
    omega (arith, first, c.loop-i.invariant.first)

-- one more line, which is no circle
pub loop-i-preserved : goal.loop-i-preserved
loop-i-preserved g c =
    let here = said_taken (g.U.LineList.items c.args.ups.now) c.loop-i.i c.args.end c.what-what.result c.loop-i-test.true c.what-what.ensures in
    let fails : is_circle_with c.args.f (said_of (g.F.LineList.items c.args.lines.now)) c.loop-i.m c.what-what.result ≡ false = sym c.look-circle.ensures.circle ∙ c.if-circle.false in
    let next = placed_next (is_circle_with c.args.f (said_of (g.F.LineList.items c.args.lines.now))) c.loop-i.m c.loop-i.i c.updates_on-m.result (take c.args.end (g.U.LineList.items c.args.ups.now)) c.what-what.result here fails c.updates_on-m.ensures.count in
    record {
      front = front_grows _ _ _ _ (omega arith) c.look-circle.ensures.front;
      first = omega (arith, next, c.loop-i.invariant.first);
      room = omega (arith, c.updates_on-m.ensures.small, c.loop-i.invariant.room);
    }
