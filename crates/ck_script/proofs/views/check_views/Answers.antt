use Rattle.std.proofs.Common.{◌+◌, ◌∙◌, sym}
use Rattle.ck_script.proofs.Viewing.{file_here, file_after}
use Rattle.ck_script.proofs.views.check_views.Goals as goal

-- the query is in this file
pub returns-in-Ok : goal.returns-in-Ok
returns-in-Ok g c =
    sym (file_here g.F.LineList.items c.args.asks.now c.loop-i.i (c.loop-i.i + 1) c.loop-i.left c.in-Ok.line c.index-asks-i.result c.loop-i-test.true c.index-asks-i.is c.in-Ok.ensures) ∙ c.loop-i.invariant

-- one more file
pub loop-i-preserved : goal.loop-i-preserved
loop-i-preserved g c =
    sym (file_after g.F.LineList.items c.args.asks.now c.loop-i.i (c.loop-i.i + 1) c.loop-i.left c.in-Err.fewer c.index-asks-i.result c.loop-i-test.true c.index-asks-i.is c.in-Err.ensures) ∙ c.loop-i.invariant
