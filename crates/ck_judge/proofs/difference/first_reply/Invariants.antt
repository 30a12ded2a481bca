use Rattle.std.proofs.Common.{◌≡◌, ℕ, ◌<◌}
use Rattle.ck_judge.specs.Verdict.{AgreeAt}
use Rattle.ck_judge.proofs.difference.first_reply.Given as goal

-- they agree so far
abbrev pub invariant-loop-i : goal.invariant-loop-i
invariant-loop-i l = (k : ℕ) → k < l.i → AgreeAt (λ x y. x ≡ y) l.found l.right k
