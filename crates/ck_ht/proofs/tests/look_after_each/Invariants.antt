use Rattle.std.proofs.Common.{◌≡◌, ◌*◌, ◌≤◌}
use Rattle.ck_run.specs.Tokens.{table}
use Rattle.ck_epoch.specs.State.{depth}
use Rattle.ck_ht.specs.Ends.{IsPassReady}
use Rattle.ck_ht.proofs.tests.look_after_each.Given as goal

abbrev pub invariant-loop-i : goal.invariant-loop-i
invariant-loop-i g l = record {
  same : table l.w.writer.token ≡ table l.initial.w.writer.token;
  handler : l.w.writer.handler ≡ l.initial.w.writer.handler;
  calls : l.w.writer.calls ≤ 3 * l.i;
  pass : table l.pass.token ≡ table l.initial.pass.token;
  is_ready : IsPassReady l.ht.origin l.pass;
  outside : depth l.pass.token ≡ 0;
  looks : l.pass.calls ≤ 3 * l.i;
}
