use Rattle.std.proofs.Common.{◌≡◌, ◌+◌, ℕ, map, drop}
use Rattle.std.specs.List.{slice_get}
use Rattle.std.specs.Option.{unwrap_or}
use Rattle.ck_script.specs.Script.{greatest}
use Rattle.ck_judge.specs.Bounds.{hold_line, RiseTo}
use Rattle.ck_judge.proofs.bounds.read_limits.Given as goal

-- the limits so far bound the first queries, and the lines that are left the others
abbrev pub invariant-loop-line : goal.invariant-loop-line
invariant-loop-line l = (all m : ℕ) → RiseTo all m (map hold_line l.held) →
    ((n : ℕ) × RiseTo all n (map hold_line (drop l.line-index l.held)))
    × ((i : ℕ) → greatest all l.f (i + 1) (map hold_line l.held) ≡ unwrap_or (slice_get l.limits.items i) (greatest all l.f (i + 1) (map hold_line (drop l.line-index l.held))))
