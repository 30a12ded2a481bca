-- What a key has at a place, read off the entries.
use Rattle.std.proofs.Common.{◌≡◌, ℕ, zero, suc, ◌+◌, ◌<◌, ◌≤◌, inl, inr, List, ap, sym, ◌∙◌, subst, arith, add-zero, Option}
use Rattle.std.specs.declared.cmp.Ordering.{Ordering}
use Rattle.std.specs.declared.cmp.Ordering.TheVariants.{Equal}
use Rattle.std.specs.List.{Contains}
use Rattle.ck_judge.specs.Changes.{IsRightEntry, AreEntries}

module _ {K : Type 0} (cmp : K → K → Ordering) {E : Type 0} (key_of : E → K) (place_of : E → ℕ) (value_of : E → Option ℕ) (count : ℕ) (gives : ℕ → K → Option ℕ) (es : List E) (are : AreEntries cmp key_of place_of value_of count gives es) (k : K) where
  -- a listed entry tells the truth
  pub entry_told : (e : E) → Contains es e → IsRightEntry cmp key_of place_of value_of count gives e
  entry_told e there = subst (IsRightEntry cmp key_of place_of value_of count gives) there.2 (are.told there.0 e there.1)

  -- where no entry of the key is between two places, it has the same at both
  pub settled : (s n : ℕ) → s + n ≤ count → ((e : E) → Contains es e → cmp k (key_of e) ≡ Equal → s < place_of e → place_of e ≤ s + n → ⊥) → gives (s + n) k ≡ gives s k
  settled s zero le none = ap (λ p. gives p k) (add-zero s)
  settled s (suc n) le none =
      let earlier : gives (s + n) k ≡ gives s k = settled s n (omega arith) (λ e there key above below. none e there key above (omega arith)) in
      let same : s + suc n ≡ s + n + 1 = omega arith in
      ap (λ p. gives p k) same ∙ (elim (are.each (s + n) k (omega arith)) [
        | inl unchanged ↦ unchanged ∙ earlier
        | inr has ↦ absurd (none has.entry has.there has.key (omega (arith, has.place)) (omega (arith, has.place)))
      ])

  -- an entry of the key, between two places, with some value
  pub record HasBetween (s t : ℕ) (v : Option ℕ) : Type 0 where
    pub entry : E
    pub there : Contains es entry
    pub key : cmp k (key_of entry) ≡ Equal
    pub value : value_of entry ≡ v
    pub above : s < place_of entry
    pub below : place_of entry ≤ t

  -- a value that the key has later, and hasn't now, was given by an entry between
  pub given_between : (v : Option ℕ) (s n : ℕ) → s + n ≤ count → (gives s k ≡ v → ⊥) → gives (s + n) k ≡ v → HasBetween s (s + n) v
  given_between v s zero le isnt is = absurd (isnt (ap (λ p. gives p k) (sym (add-zero s)) ∙ is))
  given_between v s (suc n) le isnt is =
      let same : s + suc n ≡ s + n + 1 = omega arith in
      let here : gives (s + n + 1) k ≡ v = ap (λ p. gives p k) (sym same) ∙ is in
      elim (are.each (s + n) k (omega arith)) [
        | inl unchanged ↦
            let one = given_between v s n (omega arith) isnt (sym unchanged ∙ here) in
            record { entry = one.entry; there = one.there; key = one.key; value = one.value; above = one.above; below = omega (arith, one.below) }
        | inr has ↦
            let told = entry_told has.entry has.there in
            record {
              entry = has.entry;
              there = has.there;
              key = has.key;
              value = told.told ∙ (ap (λ p. gives p (key_of has.entry)) has.place ∙ (sym (are.alike (s + n + 1) k (key_of has.entry) has.key) ∙ here));
              above = omega (arith, has.place);
              below = omega (arith, has.place);
            }
      ]
