use Rattle.std.proofs.Common.{arith, ◌<◌, length, ◌∙◌}
use Rattle.ck_judge.proofs.Holding.{appended}
use Rattle.ck_judge.proofs.bounds.extend.Goals as goal

pub loop-limits-preserved : goal.loop-limits-preserved
loop-limits-preserved c =
    let lt : length c.loop-limits.limits.items < c.args.count = omega (arith, c.loop-limits-test.true, c.len.ensures, c.loop-limits.limits.ok) in
    appended c.loop-limits.limits.items c.push.new.self.items c.args.limit c.args.count c.in_ok-push.ensures.items lt ∙ c.loop-limits.invariant
