use Rattle.std.proofs.Common.{◌≡◌, ◌-◌, ◌++◌, ◌∷◌, [], length, vec_len}
use Rattle.std.specs.List.{repeat}
use Rattle.ck_judge.proofs.bounds.extend.Given as goal

-- what is there, and what is left to append
abbrev pub invariant-loop-limits : goal.invariant-loop-limits
invariant-loop-limits l = l.limits.items ++ repeat (l.count - length l.limits.items) (l.limit ∷ []) ≡ l.initial.limits.items ++ repeat (l.count - length l.initial.limits.items) (l.limit ∷ [])

abbrev pub decreases-loop-limits : goal.decreases-loop-limits
decreases-loop-limits l = l.count - vec_len l.limits
