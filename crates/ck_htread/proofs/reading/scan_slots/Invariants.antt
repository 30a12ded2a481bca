use Rattle.std.proofs.Common.{◌≡◌}
use Rattle.ck_run.specs.Tokens.{table}
use Rattle.ck_epoch.specs.State.{depth}
use Rattle.ck_htlaw.specs.Look.{at_state}
use Rattle.ck_htread.specs.Reading.{LookTotals, IsInState}
use Rattle.ck_htread.proofs.Scanning.{HasPassed}
use Rattle.ck_htlaw.specs.Host.{host}
use Rattle.ck_htread.proofs.reading.scan_slots.Given as goal

abbrev pub invariant-loop-i : goal.invariant-loop-i
invariant-loop-i g l = record {
  same : l.pass ≡ record l.initial.pass { token = l.pass.token };
  table_same : table l.pass.token ≡ table l.initial.pass.token;
  depth_same : depth l.pass.token ≡ depth l.initial.pass.token;
  passed : (totals : LookTotals) → IsInState (host g.D.Client.meaning g.D.Within.place g.D.Within.part) l.domain.origin l.search.root (at_state l.search.key l.search.counter 0) totals l.initial.pass.token
      → HasPassed (host g.D.Client.meaning g.D.Within.place g.D.Within.part) l.domain.origin l.search totals l.i l.initial.pass.token l.pass.token;
}
