use Rattle.std.proofs.Common.{◌≡◌, ◌*◌, ◌≤◌}
use Rattle.ck_run.specs.Tokens.{table}
use Rattle.ck_array.proofs.thread_tests.write.Given as goal

abbrev pub invariant-loop-k : goal.invariant-loop-k
invariant-loop-k g l = record {
  same : table l.w.writer.token ≡ table l.initial.w.writer.token;
  handler : l.w.writer.handler ≡ l.initial.w.writer.handler;
  calls : l.w.writer.calls ≤ 145 * l.k;
}
