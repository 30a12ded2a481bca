-- The map of the pairs that stand in the slots below a number.
use Rattle.std.proofs.Common.{◌≡◌, ◌≢◌, ℕ, zero, suc, ◌+◌, ◌-◌, ◌<◌, ◌≤◌, ◌⊎◌, ⊎_elim, refl, sym, ap, ◌∙◌, subst, arith, cond}
use Rattle.ck_slots.specs.Slots.{Order, IsOrder, SlotsView, Holds}
use Rattle.ck_slots.proofs.Slots.{tested}
use Rattle.ck_htlaw.specs.Stages.{idle, Maps, IsMap, IsStep, parts, NoneFull}
use Rattle.ck_htlaw.proofs.Maps.{holds_one}

module _ (o : Order) (ok : IsOrder o) (v : SlotsView) where
  pub parts_step : (k j : ℕ) → Holds o v k j → IsStep (parts o v) (parts o v) j k (suc (v.value j))
  parts_step k j h = record {
    same = λ p i b. refl;
    here = tested o v (λ b. cond b (suc (v.value j)) (parts o v j k) ≡ suc (v.value j)) k j h.inside (λ y. refl) (λ n. absurd (n h));
    others = λ i n. tested o v (λ b. cond b (suc (v.value j)) (parts o v j i) ≡ parts o v j i) i j h.inside (λ y. absurd (n (holds_one o v ok i k j y h))) (λ y. refl);
  }

  skips : (d j k : ℕ) → d + j ≤ o.slots → NoneFull v j (d + j) → parts o v (d + j) k ≡ parts o v j k
  skips zero j k b none = let e : zero + j ≡ j = omega arith in ap (λ (z : ℕ). parts o v z k) e
  skips (suc d) j k b none = let e : suc d + j ≡ suc (d + j) = omega arith in ap (λ (z : ℕ). parts o v z k) e ∙ (tested o v (λ t. cond t (suc (v.value (d + j))) (parts o v (d + j) k) ≡ parts o v (d + j) k) k (d + j) (omega arith)
      (λ y. absurd (none (d + j) (omega arith) (omega arith) y.full)) (λ y. refl) ∙ skips d j k (omega arith) (λ s l h. none s l (omega arith)))

  pub parts_skip : (j i k : ℕ) → j ≤ i → i ≤ o.slots → NoneFull v j i → parts o v i k ≡ parts o v j k
  parts_skip j i k le b none = let e : (i - j) + j ≡ i = omega arith in
      ap (λ (z : ℕ). parts o v z k) (sym e) ∙ skips (i - j) j k (omega arith) (subst (λ (z : ℕ). NoneFull v j z) (sym e) none)

  module _ (maps : Maps) (q : ℕ) (h : IsMap o v maps q idle) where
    none_at : (k j : ℕ) → j ≤ o.slots → maps q k ≡ 0 → parts o v j k ≡ 0
    none_at k zero b e = refl
    none_at k (suc j) b e = tested o v (λ t. cond t (suc (v.value j)) (parts o v j k) ≡ 0) k j (omega arith)
        (λ y. ⊎_elim (λ (z : ⊥). absurd z) (λ (z : maps q k ≡ suc (v.value j)). absurd (omega arith)) (h.present k j y)) (λ y. none_at k j (omega arith) e)

    some_at : (k s : ℕ) → Holds o v k s → (j : ℕ) → j ≤ o.slots → s < j → parts o v j k ≡ suc (v.value s)
    some_at k s x zero b l = absurd (omega arith)
    some_at k s x (suc j) b l = tested o v (λ t. cond t (suc (v.value j)) (parts o v j k) ≡ suc (v.value s)) k j (omega arith)
        (λ y. ap (λ (z : ℕ). suc (v.value z)) (⊎_elim (λ (z : j ≡ s). z) (λ (z : ⊥ ⊎ ⊥). ⊎_elim (λ (n : ⊥). absurd n) (λ (n : ⊥). absurd n) z) (h.once k j s y x)))
        (λ y. some_at k s x j (omega arith) (let n : s ≢ j = λ e. y (subst (λ (z : ℕ). Holds o v k z) e x) in omega arith))

    pub parts_all : (k : ℕ) → parts o v o.slots k ≡ maps q k
    parts_all k = go (maps q k) refl
      where
        go : (x : ℕ) → maps q k ≡ x → parts o v o.slots k ≡ maps q k
        go zero e = none_at k o.slots (omega arith) e ∙ sym e
        go (suc x) e = let y = h.some_slot k x e in some_at k y.0 y.1 o.slots (omega arith) y.1.inside ∙ sym (⊎_elim (λ (z : ⊥). absurd z) (λ (z : maps q k ≡ suc (v.value y.0)). z) (h.present k y.0 y.1))

-- a region without a key stands for the empty map
pub blank : (o : Order) (v : SlotsView) (maps : Maps) → 0 < o.slots → ((s : ℕ) → s < o.slots → v.state s ≡ 0) → ((k : ℕ) → maps 0 k ≡ 0) → IsMap o v maps 0 idle
blank o v maps b clear none = record {
  hole = (0, b, clear 0 b);
  way = λ k s t x. absurd (full k s x);
  present = λ k s x. absurd (full k s x);
  some_slot = λ k x e. let z = none k in absurd (omega arith);
  once = λ k s t x y. absurd (full k s x);
  keyed = λ s b f. absurd (let c = clear s b in omega arith);
  states = λ s b. let c = clear s b in omega arith;
  knows = tt;
}
  where
    full : (k s : ℕ) → Holds o v k s → ⊥
    full k s x = let a = clear s x.inside in let c = x.full in absurd (omega arith)
