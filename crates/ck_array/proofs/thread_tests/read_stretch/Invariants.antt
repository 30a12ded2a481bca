use Rattle.std.proofs.Common.{◌≡◌, ◌+◌, ◌*◌, ◌≤◌}
use Rattle.ck_run.specs.Tokens.{table}
use Rattle.ck_epoch.specs.State.{depth}
use Rattle.ck_array.specs.Ends.{IsPassReady}
use Rattle.ck_array.proofs.thread_tests.read_stretch.Given as goal

abbrev pub invariant-loop-n : goal.invariant-loop-n
invariant-loop-n l = record {
  same : table l.reader.pass.token ≡ table l.initial.reader.pass.token;
  is_ready : IsPassReady l.array.origin l.reader.pass;
  outside : depth l.reader.pass.token ≡ 0;
  calls : l.reader.pass.calls ≤ l.initial.reader.pass.calls + 3 * l.n;
}
