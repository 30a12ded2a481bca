use Rattle.std.proofs.Common.{◌≤◌, take}
use Rattle.ck_script.specs.Script.{said_of, updates}
use Rattle.ck_htlaw.specs.Actions.{most}
use Rattle.ck_jobs.proofs.Counting.{IsCounting}
use Rattle.ck_jobs.proofs.room.count_pairs.Given as goal

abbrev pub invariant-loop-i : goal.invariant-loop-i
invariant-loop-i l = record {
  counting : IsCounting (updates (said_of (take l.i l.lines.items))) l.keys.keys l.pairs;
  few : l.pairs ≤ most;
}
