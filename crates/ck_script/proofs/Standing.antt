-- What stands at a place of a list of lines.
use Rattle.std.proofs.Common.{◌≡◌, ℕ, zero, suc, ◌+◌, ◌<◌, Bool, true, false, ◌||◌, drop, take, add-one, List, [], ◌∷◌, refl, ap, arith, ◌∙◌, sym, Some}
use Rattle.std.specs.List.{slice_get, find, list_any}
use Rattle.std.proofs.lemmas.Bool.{cond-true, cond-false}
use Rattle.std.proofs.lemmas.Option.{slice_get_within, get_or_from_slice_get}
use Rattle.std.proofs.Math.Seq.{drop-cons}
use Rattle.ck_script.specs.declared.line.Numbered.{Numbered}
use Rattle.ck_script.specs.Script.{said_of}

-- from a place on: what stands there, and the others
pub drop_there : {X : Type 0} (xs : List X) (i : ℕ) (x : X) → slice_get xs i ≡ Some x → drop i xs ≡ x ∷ drop (i + 1) xs
drop_there xs i x is =
    drop-cons xs i x (slice_get_within xs i x is) ∙ (ap (λ y. y ∷ drop (suc i) xs) (get_or_from_slice_get xs i x x is) ∙ ap (λ k. x ∷ drop k xs) (sym (add-one i)))

module _ {L : Type 0} where
  -- the line that says this
  pub line_there : (lines : List (Numbered L)) (i : ℕ) (what : L) → slice_get (said_of lines) i ≡ Some what → (line : Numbered L) × (slice_get lines i ≡ Some line) × (line.what ≡ what)
  line_there [] i what is = absurd (cc)
  line_there (l ∷ more) zero what is = (l, refl, cc)
  line_there (l ∷ more) (suc i) what is = line_there more i what is

  -- what the lines say from a place on
  pub said_there : (lines : List (Numbered L)) (i : ℕ) (what : L) → slice_get (said_of lines) i ≡ Some what → said_of (drop i lines) ≡ what ∷ said_of (drop (i + 1) lines)
  said_there lines i what is =
      let there = line_there lines i what is in
      ap said_of (drop_there lines i there.0 there.1) ∙ ap (λ w. w ∷ said_of (drop (i + 1) lines)) there.2

  -- a test of what the lines say from a place on
  pub any_there : (test : L → Bool) (lines : List (Numbered L)) (i : ℕ) (said what : L) → slice_get (said_of lines) i ≡ Some said → said ≡ what → list_any (λ (l : Numbered L). test l.what) (drop i lines) ≡ (test what || list_any (λ (l : Numbered L). test l.what) (drop (i + 1) lines))
  any_there test lines i said what is same =
      let there = line_there lines i said is in
      ap (list_any (λ (l : Numbered L). test l.what)) (drop_there lines i there.0 there.1) ∙ ap (λ w. test w || list_any (λ (l : Numbered L). test l.what) (drop (i + 1) lines)) (there.2 ∙ same)

  -- the first that passes it isn't this, or is
  pub find_past : (test : L → Bool) (lines : List (Numbered L)) (i : ℕ) (what : L) → slice_get (said_of lines) i ≡ Some what → test what ≡ false → find (λ (l : Numbered L). test l.what) (drop i lines) ≡ find (λ (l : Numbered L). test l.what) (drop (i + 1) lines)
  find_past test lines i what is fails =
      let there = line_there lines i what is in
      ap (find (λ (l : Numbered L). test l.what)) (drop_there lines i there.0 there.1) ∙ cond-false (test there.0.what) _ _ (ap test there.2 ∙ fails)

  pub find_here : (test : L → Bool) (lines : List (Numbered L)) (i : ℕ) (what : L) (line : Numbered L) → slice_get (said_of lines) i ≡ Some what → slice_get lines i ≡ Some line → test what ≡ true → find (λ (l : Numbered L). test l.what) (drop i lines) ≡ Some line
  find_here test lines i what line is at passes =
      let there = line_there lines i what is in
      ap (find (λ (l : Numbered L). test l.what)) (drop_there lines i there.0 there.1) ∙ (cond-true (test there.0.what) _ _ (ap test there.2 ∙ passes) ∙ (sym there.1 ∙ at))

  -- .. and what the first n say
  pub said_taken : (lines : List (Numbered L)) (i n : ℕ) (what : L) → i < n → slice_get (said_of lines) i ≡ Some what → slice_get (said_of (take n lines)) i ≡ Some what
  said_taken lines i zero what lt is = absurd (omega arith)
  said_taken [] i (suc n) what lt is = absurd (cc)
  said_taken (l ∷ more) zero (suc n) what lt is = is
  said_taken (l ∷ more) (suc i) (suc n) what lt is = said_taken more i n what (omega arith) is
