-- Where no line is beyond, each query can be answered after the last update.
use Rattle.std.proofs.Common.{◌≡◌, ℕ, ◌+◌, ◌≤◌, nat_lt, Bool, true, false, cond, List, [], ◌∷◌, length, max, map, refl, arith, Option, Some, None}
use Rattle.std.specs.List.{find, AllByRecursion}
use Rattle.std.specs.Option.{option_map, option_or}
use Rattle.std.proofs.lemmas.Bool.Decides.{nat_tests}
use Rattle.ck_script.specs.declared.line.Numbered.{Numbered}
use Rattle.ck_script.specs.declared.line.UpLine.{UpLine}
use Rattle.ck_script.specs.declared.line.AskLine.{AskLine}
use Rattle.ck_script.specs.declared.line.AskLine.TheVariants.{Ask, Wait}
use Rattle.ck_script.specs.Script.{said_of, updates, queries}
use Rattle.ck_script.specs.Checks.{is_wait_beyond, is_hold_beyond, first_fault, first_wait_beyond, range_fault}

-- neither of two has a value
none_of_both : {X : Type 0} (a b : Option X) → option_or a b ≡ None → (a ≡ None) × (b ≡ None)
none_of_both None b none = (refl, none)
none_of_both (Some x) b none = absurd (cc)

-- a mapped None
none_before : {X Y : Type 0} (f : X → Y) (a : Option X) → option_map f a ≡ None → a ≡ None
none_before f None none = refl
none_before f (Some x) none = absurd (cc)

-- a `wait` line that isn't beyond, and the lines after it
not_above : {X : Type 0} (all count : ℕ) (x : X) (later : Option X) → cond (nat_lt all count) (Some x) later ≡ None → (count ≤ all) × (later ≡ None)
not_above all count x later none = by_test (nat_lt all count) refl none
  where
    at_most : nat_lt all count ≡ false → count ≤ all
    at_most e = grind (arith, nat_tests)

    by_test : (t : Bool) → nat_lt all count ≡ t → cond t (Some x) later ≡ None → (count ≤ all) × (later ≡ None)
    by_test true e none = absurd (cc)
    by_test false e none = (at_most e, none)

-- the least places of a file's queries
least_within : {A : Type 0} (all low : ℕ) (lines : List (Numbered (AskLine A))) → low ≤ all → find (λ l. is_wait_beyond all l.what) lines ≡ None → AllByRecursion (λ q. q.1 ≤ all) (queries low (said_of lines))
least_within all low [] le none = tt
least_within {A} all low (l ∷ more) le none =
    (elim (l.what) as (λ w. cond (is_wait_beyond all w) (Some l) (find (λ l. is_wait_beyond all l.what) more) ≡ None → AllByRecursion (λ (q : A × ℕ). q.1 ≤ all) (queries low (w ∷ said_of more))) [
      | Ask key ↦ λ later. (le, least_within all low more le later)
      | Wait count ↦ λ later.
          let both = not_above all count l (find (λ l. is_wait_beyond all l.what) more) later in
          least_within all (max low count) more (omega (arith, both.0)) both.1
    ]) none

-- the least places of each file's queries
each_least_within : {A : Type 0} (all f : ℕ) (files : List (List (Numbered (AskLine A)))) → first_wait_beyond all f files ≡ None → AllByRecursion (λ file. AllByRecursion (λ q. q.1 ≤ all) (queries 0 (said_of file))) files
each_least_within all f [] none = tt
each_least_within all f (file ∷ more) none =
    let both = none_of_both (first_fault (is_wait_beyond all) f file) (first_wait_beyond all (f + 1) more) none in
    (least_within all 0 file (omega arith) (none_before _ _ both.0), each_least_within all (f + 1) more both.1)

-- where no line is beyond, the least place of each query is at most the number of updates
pub least_in_range : {C A : Type 0} (ups : List (Numbered (UpLine C))) (asks : List (List (Numbered (AskLine A)))) → range_fault ups asks ≡ None → AllByRecursion (λ file. AllByRecursion (λ q. q.1 ≤ length (updates (said_of ups))) (queries 0 (said_of file))) asks
least_in_range ups asks none =
    each_least_within (length (updates (said_of ups))) 1 asks (none_of_both (first_fault (is_hold_beyond (map said_of asks)) 0 ups) (first_wait_beyond (length (updates (said_of ups))) 1 asks) none).1
