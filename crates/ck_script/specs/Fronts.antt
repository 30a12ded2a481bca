-- A front of a query file: its first lines, whose queries need few updates.
use Rattle.std.specs.Prelude.{◌≡◌, ℕ, ◌+◌, ◌<◌, ◌≤◌, ◌⊎◌, ◌==◌, ◌&&◌, max, Bool, true, false, List, ◌∷◌, ◌++◌, length, drop}
use Rattle.std.specs.List.{AllByRecursion, list_any}
use Rattle.ck_script.specs.declared.line.Numbered.{Numbered}
use Rattle.ck_script.specs.declared.line.UpLine.{UpLine}
use Rattle.ck_script.specs.declared.line.UpLine.TheVariants.{Call, Hold}
use Rattle.ck_script.specs.declared.line.AskLine.{AskLine}
use Rattle.ck_script.specs.declared.line.AskLine.TheVariants.{Ask, Wait}
use Rattle.ck_script.specs.declared.circle.Front.{Front}
use Rattle.ck_script.specs.Script.{said_of, queries}
use Rattle.ck_script.specs.Checks.{waits_for_more}

-- whether it is a `hold` line
abbrev pub is_hold : {C : Type 0} → UpLine C → Bool
is_hold (Call u) = false
is_hold (Hold file count) = true

-- whether it is a `wait` line
abbrev pub is_wait : {A : Type 0} → AskLine A → Bool
is_wait (Ask key) = false
is_wait (Wait count) = true

-- some line is a `hold`
abbrev pub any_hold : {C : Type 0} → List (Numbered (UpLine C)) → Bool
any_hold ups = list_any (λ l. is_hold l.what) ups

-- some line of some file is a `wait`
abbrev pub any_wait : {A : Type 0} → List (List (Numbered (AskLine A))) → Bool
any_wait files = list_any (λ file. list_any (λ l. is_wait l.what) file) files

-- a `hold` line for file f, which has these lines, is a circle where m updates stand before it
abbrev pub is_circle_with : {C A : Type 0} → ℕ → List (AskLine A) → ℕ → UpLine C → Bool
is_circle_with f asks m (Call u) = false
is_circle_with f asks m (Hold file count) = (file == f) && waits_for_more m count asks

module _ {A : Type 0} where
  -- the queries of the front, of which each needs at most m updates, and then those of the other lines
  pub record IsFront (m : ℕ) (lines : List (Numbered (AskLine A))) (front : Front) : Type 0 where
    pub done : List (A × ℕ)
    pub whole : queries 0 (said_of lines) ≡ done ++ queries front.low (said_of (drop front.at lines))
    pub count : length done ≡ front.queries
    pub enough : AllByRecursion (λ q. q.1 ≤ m) done
    pub room : front.queries ≤ front.at
    pub within : front.at ≤ length lines

  -- the front ends with the file, or before a query that needs more than m updates
  abbrev pub IsStop : ℕ → List (Numbered (AskLine A)) → Front → Type 0
  IsStop m lines front =
      (front.at ≡ length lines)
      ⊎ ((key : A) × (more : List (AskLine A)) × (said_of (drop front.at lines) ≡ Ask key ∷ more) × (m < front.low))

  -- the front with one more line
  abbrev pub IsLonger : ℕ → Front → AskLine A → Front → Type 0
  IsLonger m old (Ask key) new = (old.low ≤ m) × (new ≡ record { at = old.at + 1; low = old.low; queries = old.queries + 1 })
  IsLonger m old (Wait count) new = new ≡ record { at = old.at + 1; low = max old.low count; queries = old.queries }
