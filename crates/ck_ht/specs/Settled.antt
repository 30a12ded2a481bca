-- The log of a writer that is between two updates.
use Rattle.std.specs.Prelude.{◌≡◌, ◌++◌}
use Rattle.ck_run.specs.Run.{Run}
use Rattle.ck_epoch.specs.State.{Origin}
use Rattle.ck_signal.specs.declared.signals.Signals.{Signals}
use Rattle.ck_htlaw.specs.declared.client.HtClient.{HtClient}
use Rattle.ck_htlaw.specs.Law.{IsTableRun, local_in, log_in, updates_in}
use Rattle.ck_htlaw.specs.Reached.{with_signals}
use Rattle.ck_ht.specs.Ends.{IsIdle}

-- In every true run, with the writer between two updates, its log has all updates that have taken place
abbrev pub SettledLaw : Origin (Signals HtClient) → Type 0
SettledLaw o = (past rest : Run) → IsTableRun with_signals o (past ++ rest) → IsIdle (local_in with_signals o past 0) → updates_in with_signals o past ≡ log_in with_signals o past
