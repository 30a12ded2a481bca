use Rattle.std.proofs.Common.{◌≡◌, ◌-◌, ◌^◌, ◌≤◌}
use Rattle.ck_run.specs.Tokens.{table}
use Rattle.ck_htlaw.specs.Host.{host}
use Rattle.ck_htlaw.specs.Layout.{log_of}
use Rattle.ck_htwrite.specs.Writes.{MayMake, Steps}
use Rattle.ck_htwrite.proofs.Clearing.{clears}
use Rattle.ck_htwrite.proofs.rebuild.clear_rest.Given as goal

abbrev pub invariant-loop-i : goal.invariant-loop-i
invariant-loop-i g l = let h = host g.D.Client.meaning g.D.Within.place g.D.Within.part in record {
  from : 1 ≤ l.i;
  steps : Steps h l.domain.origin l.initial.writer (clears h l.domain.origin l.root 1 (l.i - 1)) l.writer;
  table_same : table l.writer.token ≡ table l.initial.writer.token;
  due : MayMake h l.domain.origin l.writer.token (clears h l.domain.origin l.root l.i (2 ^ log_of l.root - l.i));
}
