use Rattle.std.proofs.Common.{◌≡◌, length, drop, ◌+◌, ◌≤◌}
use Rattle.ck_script.specs.Script.{said_of, updates}
use Rattle.ck_script.proofs.check.count_updates.Given as goal

-- the updates so far and those that are left
abbrev pub invariant-loop-i : goal.invariant-loop-i
invariant-loop-i g l = record {
  all : l.n + length (updates (said_of (drop l.i (g.U.LineList.items l.ups)))) ≡ length (updates (said_of (g.U.LineList.items l.ups)));
  room : l.n ≤ l.i;
}
