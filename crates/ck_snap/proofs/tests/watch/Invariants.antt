use Rattle.std.proofs.Common.{◌≡◌, ◌+◌, ◌≤◌}
use Rattle.ck_snap.proofs.tests.watch.Given as goal

abbrev pub invariant-loop-k : goal.invariant-loop-k
invariant-loop-k g l = record {
  mine : (l.pass.origin ≡ l.initial.pass.origin) × (l.pass.number ≡ l.initial.pass.number);
  calls : l.pass.calls ≤ l.initial.pass.calls + l._k;
}
