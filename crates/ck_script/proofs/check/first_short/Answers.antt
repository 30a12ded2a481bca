use Rattle.std.proofs.Common.{arith, ◌∙◌, sym, take}
use Rattle.ck_script.specs.Shorts.{is_short}
use Rattle.ck_script.proofs.Standing.{said_taken}
use Rattle.ck_script.proofs.Circles.{position_next, position_there}
use Rattle.ck_script.proofs.check.first_short.Goals as goal

pub returns-then-asks_for_more-clause-first : goal.returns-then-asks_for_more-clause-first
returns-then-asks_for_more-clause-first g c =
    let here = said_taken (g.U.LineList.items c.args.ups.now) c.loop-i.i c.args.end c.what.result c.loop-i-test.true c.what.ensures in
    omega (arith, position_there (is_short c.args.f c.args.n) (take c.args.end (g.U.LineList.items c.args.ups.now)) c.loop-i.i c.what.result here (sym c.asks_for_more.ensures ∙ c.if-asks_for_more.true), c.loop-i.invariant)

pub loop-i-preserved : goal.loop-i-preserved
loop-i-preserved g c =
    let here = said_taken (g.U.LineList.items c.args.ups.now) c.loop-i.i c.args.end c.what.result c.loop-i-test.true c.what.ensures in
    omega (arith, position_next (is_short c.args.f c.args.n) (take c.args.end (g.U.LineList.items c.args.ups.now)) c.loop-i.i c.what.result here (sym c.asks_for_more.ensures ∙ c.if-asks_for_more.false), c.loop-i.invariant)
