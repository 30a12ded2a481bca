-- The log and the answers grow along a run.
use Rattle.std.proofs.Common.{◌≡◌, ℕ, suc, ◌≤◌, le_refl, List, [], ◌∷◌, ◌++◌, length, length-append, append-nil, append_assoc, sym, ap, ◌∙◌, subst, arith}
use Rattle.std.proofs.Math.Nat.{le_trans}
use Rattle.ck_run.specs.declared.account.Entry.{Entry}
use Rattle.ck_run.specs.Run.{Run, account}
use Rattle.ck_run.proofs.Runs.{account-append}
use Rattle.ck_epoch.specs.State.{Origin, base_of}
use Rattle.ck_epoch.specs.Client.{Client, LogGrows, AnsweredRises}
use Rattle.ck_signal.specs.declared.signals.Signals.{Signals}
use Rattle.ck_signal.specs.Signals.{inside, log_by, answers_by}
use Rattle.ck_signal.specs.Told.{IsRising, log_during, answers_during}

-- a count that doesn't fall as an account gets one entry
count_rises : (count : List Entry → ℕ) → IsRising count → (es fs : List Entry) → count es ≤ count (es ++ fs)
count_rises count rises es [] = subst (λ (l : List Entry). count es ≤ count l) (sym (append-nil es)) (le_refl (count es))
count_rises count rises es (f ∷ fs) = subst (λ (l : List Entry). count es ≤ count l) (append_assoc es (f ∷ []) fs) (le_trans (rises es f) (count_rises count rises (es ++ f ∷ []) fs))

pub run_counts : (count : List Entry → ℕ) → IsRising count → (n : ℕ) (past more : Run) → count (account n past) ≤ count (account n (past ++ more))
run_counts count rises n past more = subst (λ (l : List Entry). count (account n past) ≤ count l) (sym (account-append n past more)) (count_rises count rises (account n past) (account n more))

module _ {C : Type 0} (client : Client C) (grows : LogGrows client) (rises : AnsweredRises client) where
  -- as an account gets several entries
  log_grows : (first : ℕ) (origin : Origin C) (es fs : List Entry) → (us : List client.Update) × (client.log first origin (es ++ fs) ≡ client.log first origin es ++ us)
  log_grows first origin es [] = ([], ap (client.log first origin) (append-nil es) ∙ sym (append-nil (client.log first origin es)))
  log_grows first origin es (f ∷ fs) =
      let g = grows first origin es f in
      let r = log_grows first origin (es ++ f ∷ []) fs in
      (g.0 ++ r.0, ap (client.log first origin) (sym (append_assoc es (f ∷ []) fs)) ∙ (r.1 ∙ (ap (λ (l : List client.Update). l ++ r.0) g.1 ∙ append_assoc (client.log first origin es) g.0 r.0)))

  module _ (origin : Origin (Signals C)) (past more : Run) where
    pub run_grows : (us : List client.Update) × (log_during client origin (past ++ more) ≡ log_during client origin past ++ us)
    run_grows =
        let g = log_grows (base_of origin) (inside origin) (account 0 past) (account 0 more) in
        (g.0, ap (log_by client (base_of origin) origin) (account-append 0 past more) ∙ g.1)

    pub run_rises : (r : ℕ) → answers_during client origin past r ≤ answers_during client origin (past ++ more) r
    run_rises r = run_counts (answers_by client (base_of origin) origin) (rises (base_of origin) (inside origin)) (suc r) past more

    pub longer : length (log_during client origin past) ≤ length (log_during client origin (past ++ more))
    longer = let e = ap length run_grows.1 ∙ length-append (log_during client origin past) run_grows.0 in omega arith
