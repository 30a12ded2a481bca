use Rattle.std.proofs.Common.{◌≡◌, ◌+◌, ◌≤◌}
use Rattle.ck_snap.proofs.tests.count_up.Given as goal

abbrev pub invariant-loop-k : goal.invariant-loop-k
invariant-loop-k g l = record {
  mine : l.w.origin ≡ l.initial.w.origin;
  calls : l.w.calls ≤ l.initial.w.calls + l.k;
}
