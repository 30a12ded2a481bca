use Rattle.std.proofs.Common.{◌≤◌, take}
use Rattle.ck_script.specs.Script.{said_of, updates}
use Rattle.ck_jobs.specs.Room.{brought}
use Rattle.ck_jobs.proofs.Bringing.{IsCounted}
use Rattle.ck_jobs.proofs.room.bound_of.Given as goal

abbrev pub invariant-loop-i : goal.invariant-loop-i
invariant-loop-i l = record {
  counted : IsCounted (brought (updates (said_of (take l.i l.lines.items)))) l.pairs l.greatest;
  few : l.pairs ≤ l.i;
}
