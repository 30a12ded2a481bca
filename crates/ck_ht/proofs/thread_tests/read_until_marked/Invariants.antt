use Rattle.std.proofs.Common.{◌≡◌, ◌*◌, ◌≤◌}
use Rattle.ck_run.specs.Tokens.{table}
use Rattle.ck_epoch.specs.State.{depth}
use Rattle.ck_ht.specs.Ends.{IsPassReady}
use Rattle.ck_ht.proofs.thread_tests.read_until_marked.Given as goal

abbrev pub invariant-loop-k : goal.invariant-loop-k
invariant-loop-k g l = record {
  same : table l.reader.pass.token ≡ table l.initial.reader.pass.token;
  is_ready : IsPassReady l.ht.origin l.reader.pass;
  outside : depth l.reader.pass.token ≡ 0;
  calls : l.reader.pass.calls ≤ 3 * l.k;
}
