use Rattle.std.proofs.Common.{◌≡◌, ◌-◌, ◌≤◌}
use Rattle.ck_arraylaw.specs.Layout.{log_for, log_from}
use Rattle.ck_array.proofs.state.region_log.Given as goal

abbrev pub invariant-loop-log : goal.invariant-loop-log
invariant-loop-log l = record {
  low : (3 ≤ l.log) × (l.log ≤ 13);
  rest : log_for l.members ≡ log_from (13 - l.log) l.log l.members;
}
