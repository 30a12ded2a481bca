-- There are as many full slots as pairs in the map that the slots stand for.
use Rattle.std.proofs.Common.{◌≡◌, ◌≢◌, ℕ, zero, suc, ◌+◌, ◌<◌, ◌≤◌, Bool, true, false, cond, nat_lt, [], ◌∷◌, length, refl, sym, ap, ◌∙◌, arith}
use Rattle.std.specs.Prelude.{Some, None}
use Rattle.std.specs.declared.cmp.Ordering.TheVariants.{Less, Equal, Greater}
use Rattle.std.specs.Ordering.{nat_cmp, is_eq}
use Rattle.std.specs.Cmp.{tied_itself, nat_cmp_is}
use Rattle.std.specs.Map.{remove_entry}
use Rattle.std.specs.BTreeMap.{is_at}
use Rattle.std.proofs.lemmas.Cmp.{nat_cmp_total}
use Rattle.std.proofs.lemmas.Bool.Decides.{nat_tests}
use mathlib.Core.Logic.{dite}
use native.Mathlib.Decide.{ℕ_discrete}
use Rattle.ck_history.specs.Map.{Map, IsMap, find}
use Rattle.ck_history.proofs.Order.{IsMap-remove_entry}
use Rattle.ck_slots.specs.Slots.{Order, IsOrder, SlotsView, Holds}
use Rattle.ck_slots.specs.Standing.{single, Pairs}
use Rattle.ck_slots.specs.Holding.{IsHeld}
use Rattle.ck_slots.specs.Counting.{count}
use Rattle.ck_slots.specs.Keeping.{parts}
use Rattle.ck_slots.specs.Looks.{History, unmoved, StandAt}
use Rattle.ck_slots.proofs.Counts.{count_here, count_else}
use Rattle.ck_slots.proofs.Maps.{find-remove_entry, find-remove_entry_other}
use Rattle.ck_slots.proofs.Parts.{parts_full, parts_skip, parts_fresh, parts_all}

tell_apart : (x y : ℕ) → x ≢ y → nat_cmp x y ≡ Equal → ⊥
tell_apart x y n e = by (nat_lt x y) refl
  where
    by : (b : Bool) → nat_lt x y ≡ b → ⊥
    by true is = let z : Less ≡ Equal = nat_cmp_is x y Less (grind (arith, nat_tests)) ∙ e in absurd cc
    by false is = let z : Greater ≡ Equal = nat_cmp_is x y Greater (grind (arith, nat_tests)) ∙ e in absurd cc

-- the order of numbers tells them apart
pub nat_exact : (j k : ℕ) → nat_cmp j k ≡ Equal → j ≡ k
nat_exact j k e = dite (ℕ_discrete j k) (λ (same : j ≡ k). same) (λ (n : j ≢ k). absurd (tell_apart j k n e))

-- without the pair of a key, a map has one pair less
module _ (k : ℕ) where
  pub removed_length : (x : ℕ) (m : Map ℕ) → find nat_cmp m k ≡ Some x → length (remove_entry (is_at (nat_cmp k)) m) + 1 ≡ length m
  removed_length x [] e = absurd (let z : None ≡ Some x = e in cc)
  removed_length x (a ∷ m) e = by (is_at (nat_cmp k) a.0) refl (λ r. removed_length x m r)
    where
      by : (b : Bool) → is_at (nat_cmp k) a.0 ≡ b → (find nat_cmp m k ≡ Some x → length (remove_entry (is_at (nat_cmp k)) m) + 1 ≡ length m) → length (cond b m (a ∷ remove_entry (is_at (nat_cmp k)) m)) + 1 ≡ length (a ∷ m)
      by true i more = omega arith
      by false i more = let r = more (sym (ap (λ (b : Bool). cond b (Some a.1) (find nat_cmp m k)) i) ∙ e) in omega arith

-- a map that has no key has no pair
pub empty_length : (m : Map ℕ) → ((k : ℕ) → find nat_cmp m k ≡ None) → length m ≡ 0
empty_length [] none = refl
empty_length (a ∷ m) none = absurd (let z : Some a.1 ≡ None = sym (ap (λ (b : Bool). cond b (Some a.1) (find nat_cmp m a.0)) (ap is_eq (tied_itself nat_cmp_total a.0))) ∙ none a.0 in cc)

-- each full slot has the two words of a key
module _ (o : Order) (ok : IsOrder o) (v : SlotsView) (keyed : (s : ℕ) → s < o.slots → v.state s ≡ 1 → (k : ℕ) × Holds o v k s) where
  module _ (pairs : Pairs) (h : IsHeld o v single pairs) where
    one_less : (a b : ℕ) → a + 1 ≡ b → suc a ≡ b
    one_less a b e = omega arith

    -- of the slots below j
    counted : (j : ℕ) → j ≤ o.slots → (m : Map ℕ) → IsMap nat_cmp m → ((k : ℕ) → parts o v j k ≡ find nat_cmp m k) → count v.state 1 j ≡ length m
    counted zero le m sorted same = sym (empty_length m (λ k. sym (same k)))
    counted (suc j) le m sorted same = dite (ℕ_discrete (v.state j) 1)
        (λ (full : v.state j ≡ 1).
        let y = keyed j (omega arith) full in let k : ℕ = y.0 in
        let step = parts_full o v ok k j y.1 in
        let m' : Map ℕ = remove_entry (is_at (nat_cmp k)) m in
        let less = counted j (omega arith) m' (IsMap-remove_entry nat_cmp (is_at (nat_cmp k)) m sorted) (λ i. dite (ℕ_discrete i k)
        (λ (e : i ≡ k). ap (λ (x : ℕ). parts o v j x) e ∙ (parts_fresh o v pairs h k j y.1 ∙ (sym (find-remove_entry nat_cmp nat_cmp_total nat_exact k m sorted) ∙ ap (find nat_cmp m') (sym e))))
        (λ (n : i ≢ k). sym (step.others i n) ∙ (same i ∙ sym (find-remove_entry_other nat_cmp nat_cmp_total nat_exact k i n m)))) in
        let longer = removed_length k (v.value j) m (sym (same k) ∙ step.here) in
        count_here v.state 1 j full ∙ (ap suc less ∙ one_less (length m') (length m) longer))
        (λ (empty : v.state j ≢ 1). count_else v.state 1 j empty ∙ counted j (omega arith) m sorted
        (λ k. sym (parts_skip o v j (suc j) k (omega arith) le (λ s low high. let e : s ≡ j = omega arith in λ z. empty (sym (ap v.state e) ∙ z))) ∙ same k))

    -- of all of them
    pub live_keys : (m : Map ℕ) → IsMap nat_cmp m → ((k : ℕ) → pairs k ≡ find nat_cmp m k) → count v.state 1 o.slots ≡ length m
    live_keys m sorted same = counted o.slots (omega arith) m sorted (λ k. parts_all o v pairs h k ∙ same k)

  -- where the slots stand for the map after q updates
  pub live_keys_at : (h : History) (q : ℕ) → StandAt o v h q unmoved → (m : Map ℕ) → IsMap nat_cmp m → ((k : ℕ) → h q k ≡ find nat_cmp m k) → count v.state 1 o.slots ≡ length m
  live_keys_at h q st m sorted same = live_keys (h q) st.held m sorted same
