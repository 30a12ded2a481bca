-- What `reached` told bounds the places of later answers from below.
use Rattle.std.proofs.Common.{◌≡◌, ℕ, suc, List, [], ◌∷◌, ◌++◌, length, length-append, append_assoc, refl, sym, ap, ◌∙◌, subst, arith, ◌≤◌, add-zero}
use Rattle.std.proofs.Math.Seq.{take-length}
use Rattle.ck_run.specs.Run.{account, Run}
use Rattle.ck_history.specs.declared.edit.Edit.{Edit}
use Rattle.ck_history.specs.Lists.{ListState, list_step, empty_lists, lists_after_from, committed_after}
use Rattle.ck_history.proofs.Placing.{committed_after-append}
use Rattle.ck_epoch.specs.State.{Origin, base_of}
use Rattle.ck_signal.specs.declared.signals.Signals.{Signals}
use Rattle.ck_signal.specs.Told.{TrueSignals, log_during, IsRunOf}
use Rattle.ck_arraylaw.specs.declared.client.ArrayClient.{ArrayClient}
use Rattle.ck_arraylaw.specs.Client.{local_after, logged, replied_from, array}
use Rattle.ck_arraylaw.specs.Law.{IsArrayRun, ArrayLaw, edits_in, log_in, linearized}
use Rattle.ck_arraylaw.specs.Reached.{with_signals, ReachedLaw}

-- each edit has a reply
pub replied_long : (s : ListState) (es : List Edit) → length (replied_from s es) ≡ length es
replied_long s [] = refl
replied_long s (e ∷ es) = ap suc (replied_long (list_step s e).0 es)

-- the log as signals count it: each edit in it has taken place
pub has_logged : (o : Origin (Signals ArrayClient)) → ArrayLaw with_signals o → (past rest : Run) → IsRunOf array o (past ++ rest) → length (log_during array o past) ≤ linearized with_signals o past
has_logged o law past rest t =
    let same : length (log_during array o past) ≡ length (log_in with_signals o past) = replied_long empty_lists (logged (local_after (base_of o) (base_of o) 0 (account 0 past))) ∙ ap (λ (first : ℕ). length (logged (local_after (base_of o) first 0 (account 0 past)))) (sym (add-zero (base_of o))) in
    let all = law.log past rest t in
    let longer = ap (λ (l : List Edit). length l) all.1 ∙ length-append (log_in with_signals o past) all.0 in
    omega arith

-- what has been committed after these edits is so by their number, whatever edits come later
pub committed_then : (es more : List Edit) → (lists_after_from empty_lists es).committed ≡ committed_after (es ++ more) (length es)
committed_then es more = ap (λ (l : List Edit). (lists_after_from empty_lists l).committed) (sym (take-length es)) ∙ sym (committed_after-append es more (length es) (omega arith))

pub reached_law : TrueSignals array → ((origin : Origin (Signals ArrayClient)) → ArrayLaw with_signals origin) → ReachedLaw
reached_law told laws origin past between rest r n e e' members t has reading answers =
    let law : ArrayLaw with_signals origin = laws origin in
    let t' = subst (IsArrayRun with_signals origin) (append_assoc past ((suc r, e) ∷ between) ((suc r, e') ∷ rest)) t in
    let low = told.reached origin past ((suc r, e) ∷ (between ++ (suc r, e') ∷ rest)) r n t' has in
    let logged_by = has_logged origin law past ((suc r, e) ∷ (between ++ (suc r, e') ∷ rest)) t' in
    let more = law.grows past ((suc r, e) ∷ between) ((suc r, e') ∷ rest) t' in
    let most = ap (λ (l : List Edit). length l) more.1 ∙ length-append (edits_in with_signals origin past) more.0 in
    let us = edits_in with_signals origin past in
    record {
      place = length us;
      least = omega arith;
      most = omega arith;
      right = law.answers past between rest r e e' members t reading answers ∙ (committed_then us more.0 ∙ ap (λ (l : List Edit). committed_after l (length us)) (sym more.1));
    }
