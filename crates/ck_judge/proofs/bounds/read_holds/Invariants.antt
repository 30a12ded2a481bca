use Rattle.std.proofs.Common.{◌≡◌, ◌≤◌, ◌++◌, map, drop}
use Rattle.ck_script.specs.Script.{said_of, holds}
use Rattle.ck_judge.specs.Bounds.{hold_line}
use Rattle.ck_judge.proofs.bounds.read_holds.Given as goal

-- the `hold` lines so far, and those that are left
abbrev pub invariant-loop-i : goal.invariant-loop-i
invariant-loop-i g l = record {
  all : map hold_line l.held.items ++ holds l.after (said_of (drop l.i (g.U.LineList.items l.ups))) ≡ holds 0 (said_of (g.U.LineList.items l.ups));
  room : l.after ≤ l.i;
}
