use Rattle.std.proofs.Common.{◌≡◌, ◌+◌, ◌*◌, ◌≤◌}
use Rattle.ck_run.specs.Tokens.{table}
use Rattle.ck_ht.proofs.tests.come_and_go.Given as goal

abbrev pub invariant-loop-i : goal.invariant-loop-i
invariant-loop-i g l = record {
  same : table l.w.writer.token ≡ table l.initial.w.writer.token;
  handler : l.w.writer.handler ≡ l.initial.w.writer.handler;
  calls : l.w.writer.calls ≤ l.initial.w.writer.calls + 8 * l.i;
  counted : l.came_and_went ≤ l.i;
}
