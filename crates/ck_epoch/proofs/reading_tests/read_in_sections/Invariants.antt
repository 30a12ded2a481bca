use Rattle.std.proofs.Common.{◌≡◌, ◌+◌, ◌*◌}
use Rattle.ck_run.specs.Tokens.{table}
use Rattle.ck_epoch.specs.State.{depth}
use Rattle.ck_epoch.proofs.reading_tests.read_in_sections.Given as goal

abbrev pub invariant-loop-k : goal.invariant-loop-k
invariant-loop-k l = record {
  same : table l.pass.token ≡ table l.initial.pass.token;
  outside : depth l.pass.token ≡ 0;
  calls : l.pass.calls ≡ l.initial.pass.calls + 2 * l._k;
}
