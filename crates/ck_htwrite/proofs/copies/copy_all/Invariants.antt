use Rattle.std.proofs.Common.{◌≡◌, ℕ, List, map}
use Rattle.ck_run.specs.declared.account.Step.{Step}
use Rattle.ck_run.specs.Run.{further}
use Rattle.ck_run.specs.Tokens.{table}
use Rattle.ck_history.specs.declared.log.LogEntry.{LogEntry}
use Rattle.ck_htlaw.specs.Host.{host, lies}
use Rattle.ck_htlaw.specs.Known.{knows}
use Rattle.ck_htlaw.specs.Table.{WriterState}
use Rattle.ck_htwrite.specs.Rebuild.{CopiesAt}
use Rattle.ck_htwrite.specs.Writes.{counters_in, Steps}
use Rattle.ck_htwrite.proofs.copies.copy_all.Given as goal

abbrev pub invariant-loop-i : goal.invariant-loop-i
invariant-loop-i g l = let h = host g.D.Client.meaning g.D.Within.place g.D.Within.part in let o = l.domain.origin in record {
  table_same : table l.writer.token ≡ table l.initial.writer.token;
  steps : (ss : List Step) × Steps h o l.initial.writer (map further ss) l.writer;
  lists : l.state ≡ record l.initial.state { spare = l.state.spare };
  at : (p : WriterState) (call : List ℕ) (due : LogEntry ℕ) (told : List (LogEntry ℕ)) → CopiesAt (counters_in h o) (lies h o) (knows h o l.initial.writer.token) p call due told l.initial.state l.root 0 → CopiesAt (counters_in h o) (lies h o) (knows h o l.writer.token) p call due told l.state l.root l.i;
}
