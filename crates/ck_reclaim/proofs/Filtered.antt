-- What holds of all items of a list that pass a test.
use Rattle.std.proofs.Common.{◌≡◌, Bool, true, false, cond, List, [], ◌∷◌, All, sym, refl, ◌∙◌}
use Rattle.std.specs.List.{filter}
use Rattle.std.proofs.lemmas.List.Elements.{All-nil, All-cons, All-head, All-tail}

module _ {A : Type 0} (P : A → Type 0) (test : A → Bool) where
  abbrev Passing : A → Type 0
  Passing x = test x ≡ true → P x

  pub all_passing : (xs : List A) → All P (filter test xs) → All Passing xs
  all_passing [] h = All-nil Passing
  all_passing (a ∷ xs) h = by (test a) refl h (all_passing xs)
    where
      by : (b : Bool) → test a ≡ b → All P (cond b (a ∷ filter test xs) (filter test xs)) → (All P (filter test xs) → All Passing xs) → All Passing (a ∷ xs)
      by true e h more = All-cons Passing a xs (λ _. All-head P a (filter test xs) h) (more (All-tail P a (filter test xs) h))
      by false e h more = All-cons Passing a xs (λ t. absurd (let z : true ≡ false = sym t ∙ e in cc)) (more h)
