use Rattle.std.proofs.Common.{ℕ, ◌<◌}
use Rattle.ck_judge.specs.Verdict.{AgreeAt, SamePair}
use Rattle.ck_judge.proofs.difference.first_pair.Given as goal

-- they agree so far
abbrev pub invariant-loop-i : goal.invariant-loop-i
invariant-loop-i g l = (k : ℕ) → k < l.i → AgreeAt (SamePair g.K.Ord.cmp) l.found l.right k
