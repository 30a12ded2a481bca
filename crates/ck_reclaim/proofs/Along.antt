-- Induction along a true run of a domain, whatever is asked of the runs beside.
use Rattle.std.proofs.Common.{◌≡◌, ℕ, [], ◌∷◌, ◌++◌, append_assoc, refl, subst}
use Rattle.ck_run.specs.declared.account.Entry.{Entry}
use Rattle.ck_run.specs.Run.{Run}
use Rattle.ck_run.specs.Rule.{IsRun}
use Rattle.ck_run.specs.Machine.{follows_of}
use Rattle.ck_run.proofs.Moments.{run_before, holds_along}
use Rattle.ck_epoch.specs.State.{Origin, epochs}

module _ {C : Type 0} (origin : Origin C) (IsGood : Run → Type 0) (true : (run : Run) → IsGood run → IsRun (follows_of epochs) origin run) where
  module _ (P : Run → Type 0) (first : P []) (step : (past : Run) (n : ℕ) (e : Entry) (rest : Run) → IsGood (past ++ (n, e) ∷ rest) → P past → P (past ++ (n, e) ∷ [])) where
    abbrev Holds : Run → Type 0
    Holds past = (rest : Run) → IsGood (past ++ rest) → P past

    goes_on : (past : Run) (n : ℕ) (e : Entry) → Holds past → Holds (past ++ (n, e) ∷ [])
    goes_on past n e h rest good = let good' : IsGood (past ++ (n, e) ∷ rest) = subst IsGood (append_assoc past ((n, e) ∷ []) rest) good in step past n e rest good' (h ((n, e) ∷ rest) good')

    -- what holds at the opening, and is kept by each step of such a run, holds at each of its moments
    pub along : (past rest : Run) → IsGood (past ++ rest) → P past
    along past rest good = holds_along epochs (λ o run words at. (o ≡ origin) → Holds run) (λ o opening same rest' g. first) (λ o run words at n e h allows fits same. goes_on run n e (h same))
        origin past (run_before epochs origin past rest (true (past ++ rest) good)) refl rest good
