use Rattle.std.proofs.Common.{◌≡◌, ◌++◌, drop}
use Rattle.ck_script.specs.Script.{said_of, updates}
use Rattle.ck_judge.proofs.replay.list_updates.Given as goal

-- the updates so far, and those that are left
abbrev pub invariant-loop-i : goal.invariant-loop-i
invariant-loop-i g l = l.us.items ++ updates (said_of (drop l.i (g.U.LineList.items l.ups))) ≡ updates (said_of (g.U.LineList.items l.ups))
