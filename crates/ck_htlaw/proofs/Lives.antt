-- There are as many full slots as pairs in the map that the slots stand for.
use Rattle.std.proofs.Common.{◌≡◌, ◌≢◌, ℕ, zero, suc, ◌+◌, ◌<◌, ◌≤◌, ⊎_elim, cond, length, refl, sym, ap, ◌∙◌, arith}
use Rattle.std.specs.Prelude.{Option, Some, None}
use Rattle.std.specs.Ordering.{nat_cmp}
use Rattle.std.specs.Map.{remove_entry}
use Rattle.std.specs.BTreeMap.{is_at}
use Rattle.std.proofs.lemmas.Cmp.{nat_cmp_total}
use mathlib.Core.Logic.{dite}
use native.Mathlib.Decide.{ℕ_discrete}
use Rattle.ck_history.specs.Map.{Map, IsMap, find}
use Rattle.ck_history.proofs.Order.{IsMap-remove_entry}
use Rattle.ck_slots.specs.Slots.{Order, IsOrder, SlotsView, Holds}
use Rattle.ck_slots.specs.Counting.{count}
use Rattle.ck_slots.proofs.Counts.{count_here, count_else}
use Rattle.ck_slots.proofs.Maps.{find-remove_entry, find-remove_entry_other}
use Rattle.ck_slots.proofs.Slots.{tested}
use Rattle.ck_slots.proofs.Lives.{nat_exact, removed_length, empty_length}
use Rattle.ck_htlaw.specs.Stages.{idle, Maps, IsMap as IsSlotMap, parts}
use Rattle.ck_htlaw.proofs.Parts.{parts_all, parts_step}

-- the map's answer of a number that is 0 for an absent key, and else 1 more than its value
abbrev pub opt : ℕ → Option ℕ
opt zero = None
opt (suc x) = Some x

module _ (o : Order) (ok : IsOrder o) (v : SlotsView) (maps : Maps) (q : ℕ) (h : IsSlotMap o v maps q idle) where
  -- of the slots below j
  counted : (j : ℕ) → j ≤ o.slots → (m : Map ℕ) → IsMap nat_cmp m → ((k : ℕ) → opt (parts o v j k) ≡ find nat_cmp m k) → count v.state 1 j ≡ length m
  counted zero le m sorted same = sym (empty_length m (λ k. sym (same k)))
  counted (suc j) le m sorted same = dite (ℕ_discrete (v.state j) 1)
      (λ (full : v.state j ≡ 1).
      let y = h.keyed j (omega arith) full in let k : ℕ = y.0 in
      let step = parts_step o ok v k j y.1 in
      let m' : Map ℕ = remove_entry (is_at (nat_cmp k)) m in
      let less = counted j (omega arith) m' (IsMap-remove_entry nat_cmp (is_at (nat_cmp k)) m sorted) (λ i. dite (ℕ_discrete i k)
      (λ (e : i ≡ k). ap (λ (x : ℕ). opt (parts o v j x)) e ∙ (ap opt (fresh k j y.1) ∙ (sym (find-remove_entry nat_cmp nat_cmp_total nat_exact k m sorted) ∙ ap (find nat_cmp m') (sym e))))
      (λ (n : i ≢ k). ap opt (sym (step.others i n)) ∙ (same i ∙ sym (find-remove_entry_other nat_cmp nat_cmp_total nat_exact k i n m)))) in
      let longer = removed_length k (v.value j) m (sym (same k) ∙ ap opt step.here) in
      count_here v.state 1 j full ∙ (ap suc less ∙ one (length m') (length m) longer))
      (λ (none : v.state j ≢ 1). count_else v.state 1 j none ∙ counted j (omega arith) m sorted
      (λ k. ap opt (sym (skip k j (omega arith) none)) ∙ same k))
    where
      one : (a b : ℕ) → a + 1 ≡ b → suc a ≡ b
      one a b e = omega arith

      skip : (k j : ℕ) → j < o.slots → v.state j ≢ 1 → parts o v (suc j) k ≡ parts o v j k
      skip k j b none = tested o v (λ t. cond t (suc (v.value j)) (parts o v j k) ≡ parts o v j k) k j b (λ y. absurd (none y.full)) (λ y. refl)

      none_below : (k j i : ℕ) → Holds o v k j → i ≤ j → parts o v i k ≡ 0
      none_below k j zero y le = refl
      none_below k j (suc i) y le = let inside = y.inside in tested o v (λ t. cond t (suc (v.value i)) (parts o v i k) ≡ 0) k i (omega arith)
          (λ z. absurd (let same : i ≡ j = ⊎_elim (λ (e : i ≡ j). e) (λ x. absurd (⊎_elim (λ (n : ⊥). n) (λ (n : ⊥). n) x)) (h.once k i j z y) in omega arith)) (λ z. none_below k j i y (omega arith))

      fresh : (k j : ℕ) → Holds o v k j → parts o v j k ≡ 0
      fresh k j y = none_below k j j y (omega arith)

  -- of all of them
  pub live_keys : (m : Map ℕ) → IsMap nat_cmp m → ((k : ℕ) → opt (maps q k) ≡ find nat_cmp m k) → count v.state 1 o.slots ≡ length m
  live_keys m sorted same = counted o.slots (omega arith) m sorted (λ k. ap opt (parts_all o ok v maps q h k) ∙ same k)
