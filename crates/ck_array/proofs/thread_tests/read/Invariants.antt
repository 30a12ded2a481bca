use Rattle.std.proofs.Common.{◌≡◌, ◌*◌, ◌^◌, ◌≤◌}
use Rattle.ck_run.specs.Tokens.{table}
use Rattle.ck_epoch.specs.State.{depth}
use Rattle.ck_array.specs.Ends.{IsPassReady}
use Rattle.ck_array.proofs.thread_tests.read.Given as goal

abbrev pub invariant-loop-k : goal.invariant-loop-k
invariant-loop-k l = record {
  same : table l.reader.pass.token ≡ table l.initial.reader.pass.token;
  is_ready : IsPassReady l.array.origin l.reader.pass;
  outside : depth l.reader.pass.token ≡ 0;
  calls : l.reader.pass.calls ≤ 2 ^ 32 * l.k;
}
