use Rattle.std.proofs.Common.{◌≡◌}
use Rattle.ck_run.specs.Tokens.{table}
use Rattle.ck_array.proofs.thread_tests.answered_beyond.Given as goal

abbrev pub invariant-loop : goal.invariant-loop
invariant-loop g l = record {
  same : table l.w.writer.token ≡ table l.initial.w.writer.token;
  handler : l.w.writer.handler ≡ l.initial.w.writer.handler;
  calls : l.w.writer.calls ≡ l.initial.w.writer.calls;
}
