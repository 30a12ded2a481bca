-- What `reached` told bounds the places of later looks from below.
use Rattle.std.proofs.Common.{◌≡◌, ℕ, suc, ◌+◌, ◌∷◌, ◌++◌, length, length-append, append_assoc, ap, ◌∙◌, subst, arith}
use Rattle.ck_run.specs.Run.{account}
use Rattle.ck_epoch.specs.State.{Origin, base_of}
use Rattle.ck_signal.specs.declared.signals.Signals.{Signals}
use Rattle.ck_signal.specs.Signals.{inside}
use Rattle.ck_signal.specs.Told.{TrueSignals, log_during as told_log}
use Rattle.ck_htlaw.specs.declared.client.HtClient.{HtClient}
use Rattle.ck_htlaw.specs.Client.{table, answers_after, layout_of}
use Rattle.ck_htlaw.specs.Law.{IsTableRun, log_in, TableLaw}
use Rattle.ck_htlaw.specs.Reached.{with_signals, ReachedLaw}

pub reached_law : TrueSignals table → ((origin : Origin (Signals HtClient)) → TableLaw with_signals origin) → ReachedLaw
reached_law told laws origin past between since r n e e' k x t has look last =
    let law : TableLaw with_signals origin = laws origin in
    let w = law.answers past between since r e e' k x t look last in
    let t' = subst (IsTableRun with_signals origin) (append_assoc past ((suc r, e) ∷ between) ((suc r, e') ∷ since)) t in
    let low = told.reached origin past ((suc r, e) ∷ (between ++ (suc r, e') ∷ since)) r n t' has in
    let linearized_is = law.log past ((suc r, e) ∷ (between ++ (suc r, e') ∷ since)) t' in
    let longer = ap length linearized_is.1 ∙ length-append (log_in with_signals origin past) linearized_is.0 in
    let same : length (told_log table origin past) ≡ length (log_in with_signals origin past) =
    ap (λ (first : ℕ). length (answers_after (layout_of first (inside origin)) origin.words 0 (account 0 past)).log) (plus_none (base_of origin)) in
    let least = w.least in (w, omega arith)
  where
    plus_none : (a : ℕ) → a ≡ a + 0
    plus_none a = omega arith
