use Rattle.std.proofs.Common.{◌≡◌, ◌+◌, ◌++◌, ℕ, List, map, drop, length}
use Rattle.ck_script.specs.Script.{said_of, queries, bounded, HoldLine}
use Rattle.ck_judge.specs.Bounds.{query_of, AreLimits}
use Rattle.ck_judge.proofs.bounds.read_bounds.Given as goal

-- the queries so far, and those that are left
abbrev pub invariant-loop-i : goal.invariant-loop-i
invariant-loop-i g l = (f : ℕ) (hs : List HoldLine) → AreLimits l.all f hs l.limits → map query_of l.bounds.items ++ bounded l.all hs f (length l.bounds.items + 1) (queries l.least (said_of (drop l.i (g.F.LineList.items l.lines)))) ≡ bounded l.all hs f 1 (queries 0 (said_of (g.F.LineList.items l.lines)))
