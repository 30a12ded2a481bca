use Rattle.std.proofs.Common.{◌≡◌, ◌+◌, ◌*◌, ◌≤◌}
use Rattle.ck_run.specs.Tokens.{table}
use Rattle.ck_epoch.proofs.reading_tests.count_up.Given as goal

abbrev pub invariant-loop-k : goal.invariant-loop-k
invariant-loop-k g l = record {
  same : table l.writer.token ≡ table l.initial.writer.token;
  room : l.writer.room ≡ l.initial.writer.room;
  handler : l.writer.handler ≡ l.initial.writer.handler;
  calls : l.writer.calls ≤ l.initial.writer.calls + 2 * l.k;
  given : l.given ≤ l.k;
}
