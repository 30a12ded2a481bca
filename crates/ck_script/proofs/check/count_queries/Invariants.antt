use Rattle.std.proofs.Common.{◌≡◌, length, drop, ◌+◌, ◌≤◌}
use Rattle.ck_script.specs.Script.{said_of, queries}
use Rattle.ck_script.proofs.check.count_queries.Given as goal

-- the queries so far and those that are left
abbrev pub invariant-loop-i : goal.invariant-loop-i
invariant-loop-i g l = record {
  all : l.n + length (queries 0 (said_of (drop l.i (g.F.LineList.items l.lines)))) ≡ length (queries 0 (said_of (g.F.LineList.items l.lines)));
  room : l.n ≤ l.i;
}
