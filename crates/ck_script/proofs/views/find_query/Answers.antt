use Rattle.std.proofs.Common.{◌∙◌, sym, arith}
use Rattle.ck_script.proofs.Viewing.{found_here, found_after, counted_next}
use Rattle.ck_script.proofs.views.find_query.Goals as goal

pub returns-in-Ok : goal.returns-in-Ok
returns-in-Ok g c =
    sym c.loop-i.invariant.there ∙ found_here (g.F.LineList.items c.args.lines.now) c.loop-i.i c.loop-i.left c.in-Ok.number c.get.result c.get.ensures c.in-Ok.ensures

pub loop-i-preserved : goal.loop-i-preserved
loop-i-preserved g c =
    record {
      there = sym (found_after (g.F.LineList.items c.args.lines.now) c.loop-i.i c.loop-i.left c.in-Err.fewer c.get.result c.get.ensures c.in-Err.ensures) ∙ c.loop-i.invariant.there;
      count = omega (arith, counted_next (g.F.LineList.items c.args.lines.now) c.loop-i.i c.get.result c.get.ensures, c.in-Err.ensures, c.loop-i.invariant.count);
    }
