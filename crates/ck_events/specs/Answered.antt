-- The answers of a reader in a run, each by the call that gave it, and their places among the updates.
use Rattle.std.specs.Prelude.{◌≡◌, ℕ, ◌<◌, ◌≤◌, List, [], ◌∷◌, ◌++◌, length}
use mathlib.Core.Option.{some}
use lib.ListN.{get_elem?}
use Rattle.ck_run.specs.declared.account.Entry.{Entry}
use Rattle.ck_run.specs.Run.{Run}

-- the moment by which these steps are past since the step e of the token n
abbrev pub since_step : ℕ → Run → Entry → Run → Run
since_step n past e between = past ++ (n, e) ∷ between

-- The token n is a reader. At each moment of a run it is between two calls, or not, and has given some answers
module _ {A : Type 0} (n : ℕ) (IsOut : Run → Type 0) (given : Run → List A) where
  -- It gave its answer with the number i, from 0, by this call of the run: its first step, after `past`, and its last, with no moment between two calls
  -- from the one to the other
  pub record IsAnsweredCall (run : Run) (i : ℕ) (answer : A) : Type 0 where
    pub past : Run
    pub first : Entry
    pub between : Run
    pub last : Entry
    pub rest : Run
    pub splits : run ≡ since_step n past first between ++ (n, last) ∷ rest
    pub starts : IsOut past
    pub goes : (before behind : Run) → between ≡ before ++ behind → IsOut (since_step n past first before) → ⊥
    pub ends : given (since_step n past first between ++ (n, last) ∷ []) ≡ given (since_step n past first between) ++ answer ∷ []
    -- it had given i answers before, at the first step of the call and at its last
    pub before : length (given past) ≡ i
    pub still : length (given (since_step n past first between)) ≡ i

  -- The answers have these places among the updates, of which `many` have taken place at each moment: P says what is so of each. The places don't
  -- fall, and at each moment, those of the answers given before are at most the number of updates that have taken place by then, and those of the
  -- calls that begin later at least that
  pub record ArePlaces (many : Run → ℕ) (P : ℕ → A → ℕ → Type 0) (run : Run) (places : ℕ → ℕ) : Type 0 where
    pub moments : (i : ℕ) (answer : A) → get_elem? (given run) i ≡ some answer → P i answer (places i)
    pub rise : (i j : ℕ) → i ≤ j → j < length (given run) → places i ≤ places j
    pub before : (past rest : Run) (i : ℕ) → run ≡ past ++ rest → i < length (given past) → places i ≤ many past
    pub since : (past rest : Run) (i : ℕ) → run ≡ past ++ rest → IsOut past → length (given past) ≤ i → i < length (given run) → many past ≤ places i
