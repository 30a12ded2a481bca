use Rattle.ck_judge.proofs.Holding.{limits_next}
use Rattle.ck_judge.proofs.bounds.read_limits.Goals as goal

pub loop-line-preserved : goal.loop-line-preserved
loop-line-preserved c = λ all m rise.
    limits_next all m c.args.f c.args.held.now c.loop-line.line-index _ c.loop-line.limits.items _ c.loop-line-test.true (c.loop-line.invariant all m rise) c.in_ok-limit_by.ensures
