use Rattle.std.proofs.Common.{◌≡◌, ◌+◌, ◌≤◌}
use Rattle.ck_run.specs.Tokens.{table, number}
use Rattle.ck_ring.specs.State.{state}
use Rattle.ck_ring.proofs.tests.send.Given as goal

abbrev pub invariant-loop-k : goal.invariant-loop-k
invariant-loop-k l = record {
  same : (table l.p ≡ table l.initial.p) × (number l.p ≡ number l.initial.p);
  calls : (state l.p).calls ≡ (state l.initial.p).calls + l.k;
  refused : l.refused ≤ l.k;
}
