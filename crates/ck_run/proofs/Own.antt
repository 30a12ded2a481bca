-- The part of an account on a range of words, where the account grows by one entry.
use Rattle.std.proofs.Common.{◌≡◌, ℕ, ◌<◌, ◌≤◌, Bool, true, false, cond, List, [], ◌∷◌, ◌++◌, ⊎_elim, ap, ◌∙◌, append-nil, arith}
use Rattle.std.proofs.lemmas.List.Elements.{filter-append}
use Rattle.std.proofs.lemmas.Bool.Decides.{nat_tests}
use Rattle.ck_run.specs.declared.account.Entry.{Entry}
use Rattle.ck_run.specs.Range.{word_of, IsInside, IsOutside, is_inside, own}

module _ (first last : ℕ) where
  inside : (e : Entry) → IsInside first last e → is_inside first last e ≡ true
  inside e h = let low = h.0 in let high = h.1 in grind (arith, nat_tests)

  outside : (e : Entry) → IsOutside first last e → is_inside first last e ≡ false
  outside e h = ⊎_elim (λ (low : word_of e.step < first). grind (arith, nat_tests)) (λ (high : last ≤ word_of e.step). grind (arith, nat_tests)) h

  pub own-append : (es fs : List Entry) → own first last (es ++ fs) ≡ own first last es ++ own first last fs
  own-append es fs = filter-append (is_inside first last) es fs

  -- an entry on these words goes to the end
  pub own_inside : (es : List Entry) (e : Entry) → IsInside first last e → own first last (es ++ e ∷ []) ≡ own first last es ++ e ∷ []
  own_inside es e h = own-append es (e ∷ []) ∙ ap (λ (b : Bool). own first last es ++ cond b (e ∷ []) []) (inside e h)

  -- and an entry on other words changes nothing
  pub own_outside : (es : List Entry) (e : Entry) → IsOutside first last e → own first last (es ++ e ∷ []) ≡ own first last es
  own_outside es e h = own-append es (e ∷ []) ∙ (ap (λ (b : Bool). own first last es ++ cond b (e ∷ []) []) (outside e h) ∙ append-nil (own first last es))
