-- What `reached` tells a reader of a table with signals: a look that begins later answers what the map gave after at least so many updates.
use Rattle.std.specs.Prelude.{◌≡◌, ℕ, suc, ◌≤◌, Option, [], ◌∷◌, ◌++◌}
use Rattle.ck_run.specs.declared.account.Entry.{Entry}
use Rattle.ck_run.specs.Run.{Run}
use Rattle.ck_epoch.specs.State.{Origin}
use Rattle.ck_signal.specs.declared.signals.Signals.{Signals}
use Rattle.ck_signal.specs.Signals.{signals}
use Rattle.ck_signal.specs.Told.{HasReached}
use Rattle.ck_htlaw.specs.declared.client.HtClient.{HtClient}
use Rattle.ck_htlaw.specs.Host.{Host, host}
use Rattle.ck_htlaw.specs.Client.{table, look_ends}
use Rattle.ck_htlaw.specs.Law.{IsTableRun, IsLook, GaveWithin, local_in, linearized, look_state_of, until}

-- the table of a client with signals
abbrev pub with_signals : Host (Signals HtClient)
with_signals = host (signals table) (λ c. 0) (λ c. c.client)

-- the moment at which the map gave the answer, and at least n updates had taken place by then
abbrev pub GaveWithinSince : Origin (Signals HtClient) → ℕ → Run → ℕ → Entry → Run → ℕ → Option ℕ → Type 0
GaveWithinSince origin n past r e between k x = (w : GaveWithin with_signals origin past r e between k x) × (n ≤ linearized with_signals origin (until past r e w.before))

abbrev pub ReachedLaw : Type 0
ReachedLaw = (origin : Origin (Signals HtClient)) (past between rest : Run) (r n : ℕ) (e e' : Entry) (k : ℕ) (x : Option ℕ) → IsTableRun with_signals origin (until past r e between ++ (suc r, e') ∷ rest)
    → HasReached table origin past r n → IsLook with_signals origin past r e between e'
    → look_ends (look_state_of (local_in with_signals origin (until past r e between) (suc r))) e'.step ≡ (k, x) ∷ [] → GaveWithinSince origin n past r e between k x
