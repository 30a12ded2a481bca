use Rattle.std.proofs.Common.{◌≡◌, ◌+◌, ◌*◌, ◌≤◌}
use Rattle.ck_run.specs.Tokens.{table}
use Rattle.ck_array.proofs.thread_tests.write_stretch.Given as goal

abbrev pub invariant-loop-i : goal.invariant-loop-i
invariant-loop-i g l = record {
  same : table l.w.writer.token ≡ table l.initial.w.writer.token;
  handler : l.w.writer.handler ≡ l.initial.w.writer.handler;
  calls : l.w.writer.calls ≤ l.initial.w.writer.calls + 3 * l.i;
}
