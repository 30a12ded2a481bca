use Rattle.std.proofs.Common.{arith, ◌∙◌, false}
use Rattle.ck_script.specs.Script.{said_of}
use Rattle.ck_script.proofs.Fronts.{wait_at, wait_none, hold_with, lt_false}
use Rattle.ck_script.proofs.circle.look.Goals as goal

pub returns-then-next-len-clause-circle : goal.returns-then-next-len-clause-circle
returns-then-next-len-clause-circle g c =
    let waits = wait_at c.args.m c.in-Hold.n (g.F.LineList.items c.args.lines.now) c.moved-next.result c.moved-next.ensures.front c.moved-next.ensures.stop (omega arith) in
    hold_with c.args.f c.args.m (said_of (g.F.LineList.items c.args.lines.now)) c.args.what.now c.in-Hold.file c.in-Hold.n _ c.in-Hold.is (omega arith) waits

pub returns-else-next-len-clause-circle : goal.returns-else-next-len-clause-circle
returns-else-next-len-clause-circle g c =
    let waits = wait_none c.args.m c.in-Hold.n (g.F.LineList.items c.args.lines.now) c.moved-next.result c.moved-next.ensures.front (omega arith) in
    lt_false _ _ c.if-next-len.false ∙ hold_with c.args.f c.args.m (said_of (g.F.LineList.items c.args.lines.now)) c.args.what.now c.in-Hold.file c.in-Hold.n false c.in-Hold.is (omega arith) waits
