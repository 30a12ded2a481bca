use Rattle.std.proofs.Common.{◌+◌, ◌∙◌, ap, arith, map}
use Rattle.ck_script.specs.Script.{said_of, holds}
use Rattle.ck_judge.specs.Bounds.{hold_line}
use Rattle.ck_judge.proofs.Holding.{holds_rise}
use Rattle.ck_judge.proofs.Filing.{files_next, bounds_read}
use Rattle.ck_judge.proofs.files.read_files.Goals as goal

pub loop-i-preserved : goal.loop-i-preserved
loop-i-preserved g c =
    let hs = holds 0 (said_of (g.U.LineList.items c.args.ups.now)) in
    files_next g.F.LineList.items c.args.all hs c.args.asks.now c.loop-i.i c.index-asks-i.result c.loop-i-test.true c.index-asks-i.is c.loop-i.files.items _ c.in_ok-bounds.bounds _ c.in_ok-push.ensures.items
    (bounds_read c.args.all (c.loop-i.i + 1) hs c.deref.result.now c.in_ok-limits.limits.items c.deref-in-loop-i.result.now c.in_ok-bounds.bounds.items (g.F.LineList.items c.index-asks-i.result)
    (ap (map hold_line) c.deref.ensures.value ∙ c.in_ok-held.ensures)
    (holds_rise c.args.all 0 0 (said_of (g.U.LineList.items c.args.ups.now)) (omega arith) (omega (arith, c.requires)))
    c.in_ok-limits.ensures c.deref-in-loop-i.ensures.value c.in_ok-bounds.ensures)
    c.loop-i.invariant
