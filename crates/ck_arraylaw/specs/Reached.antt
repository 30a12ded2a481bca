-- What `reached` tells a reader of an array with signals: an `all` that begins later answers a list that was committed after at least so
-- many edits.
use Rattle.std.specs.Prelude.{◌≡◌, ℕ, suc, ◌≤◌, List, ◌∷◌, ◌++◌}
use Rattle.ck_run.specs.declared.account.Entry.{Entry}
use Rattle.ck_run.specs.Run.{Run}
use Rattle.ck_history.specs.Lists.{committed_after}
use Rattle.ck_epoch.specs.State.{Origin}
use Rattle.ck_signal.specs.declared.signals.Signals.{Signals}
use Rattle.ck_signal.specs.Signals.{signals}
use Rattle.ck_signal.specs.Told.{HasReached}
use Rattle.ck_arraylaw.specs.declared.client.ArrayClient.{ArrayClient}
use Rattle.ck_arraylaw.specs.Host.{Host, host}
use Rattle.ck_arraylaw.specs.Client.{array}
use Rattle.ck_arraylaw.specs.Law.{IsArrayRun, IsReading, Answers, edits_in, linearized, until}

-- the array of a client with signals
abbrev pub with_signals : Host (Signals ArrayClient)
with_signals = host (signals array) (λ c. 0) (λ c. c.client)

-- the answer is the list that was committed after so many of the edits of this run, of which there were n by then
pub record IsCommittedSince (origin : Origin (Signals ArrayClient)) (run : Run) (n : ℕ) (members : List ℕ) : Type 0 where
  pub place : ℕ
  pub least : n ≤ place
  pub most : place ≤ linearized with_signals origin run
  pub right : members ≡ committed_after (edits_in with_signals origin run) place

abbrev pub ReachedLaw : Type 0
ReachedLaw = (origin : Origin (Signals ArrayClient)) (past between rest : Run) (r n : ℕ) (e e' : Entry) (members : List ℕ) → IsArrayRun with_signals origin (until past r e between ++ (suc r, e') ∷ rest)
    → HasReached array origin past r n → IsReading with_signals origin past r e between
    → Answers with_signals origin (until past r e between) r e' members → IsCommittedSince origin (until past r e between) n members
