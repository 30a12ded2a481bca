use Rattle.std.proofs.Common.{◌∙◌, sym}
use Rattle.ck_script.specs.Fronts.{is_hold}
use Rattle.ck_script.proofs.Standing.{any_there}
use Rattle.ck_script.proofs.circle.has_hold.Goals as goal

pub returns-in-Hold : goal.returns-in-Hold
returns-in-Hold g c = sym (any_there is_hold (g.U.LineList.items c.args.ups.now) c.loop-i.i c.what.result _ c.what.ensures c.in-Hold.is) ∙ c.loop-i.invariant

pub loop-i-preserved : goal.loop-i-preserved
loop-i-preserved g c = sym (any_there is_hold (g.U.LineList.items c.args.ups.now) c.loop-i.i c.what.result _ c.what.ensures c.in-Call.is) ∙ c.loop-i.invariant
