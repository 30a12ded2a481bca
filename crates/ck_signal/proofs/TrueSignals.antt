-- The law of signals.
use Rattle.std.proofs.Common.{ℕ, suc, ◌<◌, ◌≤◌, ◌⊎◌, ⊎_elim, inl, inr, List, ◌∷◌, ◌++◌, length, append_assoc, sym, ap, ◌∙◌, subst, arith}
use Rattle.std.proofs.Math.Nat.{le_trans}
use Rattle.std.proofs.lemmas.Bool.{cases_lt}
use Rattle.ck_run.specs.declared.account.Entry.{Entry}
use Rattle.ck_run.specs.Run.{Run, replay, account}
use Rattle.ck_run.specs.Rule.{IsRun}
use Rattle.ck_run.specs.Machine.{follows_of}
use Rattle.ck_run.proofs.Lists.{begins}
use Rattle.ck_run.proofs.Moments.{run_weaker, run_before, holds_along, at_step}
use Rattle.ck_epoch.specs.State.{Origin}
use Rattle.ck_epoch.specs.Client.{Client, LogGrows, AnsweredRises, program}
use Rattle.ck_signal.specs.declared.signals.Signals.{Signals}
use Rattle.ck_signal.specs.Words.{reaches, asks}
use Rattle.ck_signal.specs.Signals.{readers, signals, signalling}
use Rattle.ck_signal.specs.Told.{applied_word_of, answered_word_of, log_length, log_during, answers_during, IsRunOf, IsTold, HasReached, IsAnswerPlace, AreBelow, TrueSignals}
use Rattle.ck_signal.proofs.Growing.{run_counts, run_grows, run_rises, longer}
use Rattle.ck_signal.proofs.Kept.{AreKept, starts, keeps}

cases_le : (n m : ℕ) → (n ≤ m) ⊎ (m ≤ n)
cases_le n m = ⊎_elim (λ (l : n < m). inl (omega arith)) (λ (l : m ≤ n). inr l) (cases_lt n m)

module _ {C : Type 0} (client : Client C) (grows : LogGrows client) (rises : AnsweredRises client) (origin : Origin (Signals C)) where
  as_signals : (run : Run) → IsRunOf client origin run → IsRun (follows_of (signalling client)) origin run
  as_signals run r = run_weaker (program (signals client)) (follows_of (signalling client)) origin run (λ n es f. (f.1, f.3.1)) r

  told : (past rest : Run) → IsRunOf client origin (past ++ rest) → IsTold client origin past (replay origin.words past)
  told past rest r =
      (holds_along (signalling client) (λ o. AreKept client o) (λ o. starts client o) (λ o. keeps client grows rises o) origin past (run_before (signalling client) origin past rest (as_signals (past ++ rest) r))).told

  -- `reached` found at most the length of the log then, and the log grows
  reached : (past rest : Run) (r n : ℕ) → IsRunOf client origin (past ++ rest) → HasReached client origin past r n → n ≤ length (log_during client origin past)
  reached past rest r n run h =
      let before : Run = h.0 in
      let after : Run = h.1 in
      let found : ℕ = h.2 in
      let x : ℕ × Entry = (suc r, reaches (applied_word_of client origin) n found) in
      let whole = subst (IsRunOf client origin) (ap (λ (l : Run). l ++ rest) h.3 ∙ append_assoc before (x ∷ after) rest) run in
      let loaded = (at_step (signalling client) origin before (after ++ rest) x.0 x.1 (as_signals _ whole)).1 in
      let so : found ≤ length (log_during client origin before) = subst (λ (k : ℕ). k ≤ length (log_during client origin before)) (sym loaded) (told before (x ∷ (after ++ rest)) whole).updates in
      le_trans h.4 (le_trans so (subst (λ (l : Run). length (log_during client origin before) ≤ length (log_during client origin l)) (sym h.3) (longer client grows rises origin before (x ∷ after))))

  -- a moment by which an answer wasn't given yet comes before one by which it was
  below : (count : List Entry → ℕ) → ((xs more : Run) → count (account 0 xs) ≤ count (account 0 (xs ++ more))) → (past rest : Run) (r i place : ℕ) → i < answers_during client origin past r
      → IsAnswerPlace client count origin (past ++ rest) r i place → place ≤ count (account 0 past)
  below count up past rest r i place given p =
      let moment : Run = p.0 in
      subst (λ (k : ℕ). k ≤ count (account 0 past)) (sym p.4)
      (⊎_elim
      (λ (early : length moment ≤ length past).
      let b = begins moment p.1 past rest (sym p.2) early in
      subst (λ (l : Run). count (account 0 moment) ≤ count (account 0 l)) (sym b.1) (up moment b.0))
      (λ (late : length past ≤ length moment).
      let b = begins past rest moment p.1 p.2 late in
      let few : answers_during client origin past r ≤ i = le_trans (subst (λ (l : Run). answers_during client origin past r ≤ answers_during client origin l r) (sym b.1) (run_rises client grows rises origin past b.0 r)) p.3 in
      absurd (omega arith))
      (cases_le (length moment) (length past)))

  answered_then : (past rest : Run) (r k : ℕ) → r < readers origin → IsRunOf client origin (past ++ (0, asks (answered_word_of client origin r) r k) ∷ rest)
      → AreBelow client origin past (past ++ (0, asks (answered_word_of client origin r) r k) ∷ rest) r k (account 0 past)
  answered_then past rest r k low run =
      let x : ℕ × Entry = (0, asks (answered_word_of client origin r) r k) in
      let loaded = (at_step (signalling client) origin past rest 0 x.1 (as_signals _ run)).1 in
      let given : k ≤ answers_during client origin past r = subst (λ (n : ℕ). n ≤ answers_during client origin past r) (sym loaded) ((told past (x ∷ rest) run).answers r low) in
      record {
        given = given;
        places = λ i place few p. below (log_length client origin) (longer client grows rises origin) past (x ∷ rest) r i place (le_trans few given) p;
        placed = λ count rising i place few p. below count (run_counts count rising 0) past (x ∷ rest) r i place (le_trans few given) p;
      }

pub true_signals : {C : Type 0} (client : Client C) → LogGrows client → AnsweredRises client → TrueSignals client
true_signals client grows rises = record {
  grows = λ origin past more. run_grows client grows rises origin past more;
  rises = λ origin past more r. run_rises client grows rises origin past more r;
  told = λ origin past rest r. told client grows rises origin past rest r;
  reached = λ origin past rest r n run h. reached client grows rises origin past rest r n run h;
  answered = λ origin past rest r k low run. answered_then client grows rises origin past rest r k low run;
}
