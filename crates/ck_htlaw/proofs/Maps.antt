-- Each step of the writer keeps what the words stand for.
use Rattle.std.proofs.Common.{◌≡◌, ◌≢◌, ℕ, suc, ◌⊎◌, ⊎_elim, inl, inr, refl, sym, ap, ◌∙◌, arith}
use Rattle.ck_slots.specs.Slots.{Order, IsOrder, SlotsView, Holds}
use Rattle.ck_htlaw.specs.Stages.{Insertion, Target, empty, reuse, move, Stage, idle, with_bump, with_value, with_low, with_high, twice, before_tombstone, with_tombstone, IsOld, IsPlanned, Maps, Knows, IsMap, IsPut}

-- all states stay, and the other words of other slots than s
pub record IsOff (v v' : SlotsView) (s : ℕ) : Type 0 where
  pub state : (t : ℕ) → v'.state t ≡ v.state t
  pub low : (t : ℕ) → t ≢ s → v'.low t ≡ v.low t
  pub high : (t : ℕ) → t ≢ s → v'.high t ≡ v.high t
  pub value : (t : ℕ) → t ≢ s → v'.value t ≡ v.value t

module _ (o : Order) (v : SlotsView) where
  pub holds_one : IsOrder o → (j k s : ℕ) → Holds o v j s → Holds o v k s → j ≡ k
  holds_one ok j k s a b = ok.one_key j k (sym a.is_low ∙ b.is_low) (sym a.is_high ∙ b.is_high)

  pub apart_full : (k s t : ℕ) → v.state s ≢ 1 → Holds o v k t → t ≢ s
  apart_full k s t ne h e = ne (sym (ap v.state e) ∙ h.full)

  module _ (v' : SlotsView) (s : ℕ) (off : IsOff v v' s) (ne : v.state s ≢ 1) where
    pub holds_off : (k t : ℕ) → Holds o v' k t → Holds o v k t
    holds_off k t h = let f : v.state t ≡ 1 = sym (off.state t) ∙ h.full in
        let a : t ≢ s = λ e. ne (sym (ap v.state e) ∙ f) in
        record { inside = h.inside; full = f; is_low = sym (off.low t a) ∙ h.is_low; is_high = sym (off.high t a) ∙ h.is_high }

    pub holds_on : (k t : ℕ) → Holds o v k t → Holds o v' k t
    holds_on k t h = let a : t ≢ s = apart_full k s t ne h in
        record { inside = h.inside; full = off.state t ∙ h.full; is_low = off.low t a ∙ h.is_low; is_high = off.high t a ∙ h.is_high }

    pub keeps_off : (maps : Maps) (q : ℕ) (g g' : Stage) → IsMap o v maps q g → ((k t : ℕ) → IsOld g k t → IsOld g' k t) → ((k t : ℕ) → IsOld g' k t → IsOld g k t) → Knows o v' maps q g' → IsMap o v' maps q g'
    keeps_off maps q g g' h onto back knows = record {
      hole = (h.hole.0, h.hole.1, off.state h.hole.0 ∙ h.hole.2);
      way = λ k a t x l b z. h.way k a t (holds_off k a x) l b (sym (off.state t) ∙ z);
      present = λ k a x. let y = holds_off k a x in
          ⊎_elim (λ (u : IsOld g k a). inl (onto k a u)) (λ (u : maps q k ≡ suc (v.value a)). inr (u ∙ ap suc (sym (off.value a (apart_full k s a ne y))))) (h.present k a y);
      some_slot = λ k x e. let z = h.some_slot k x e in (z.0, holds_on k z.0 z.1, λ u. z.2 (back k z.0 u));
      once = λ k a b x y. ⊎_elim (λ (u : a ≡ b). inl u) (λ (u : IsOld g k a ⊎ IsOld g k b). inr (⊎_elim (λ (z : IsOld g k a). inl (onto k a z)) (λ (z : IsOld g k b). inr (onto k b z)) u)) (h.once k a b (holds_off k a x) (holds_off k b y));
      keyed = λ t b f. let y = h.keyed t b (sym (off.state t) ∙ f) in (y.0, holds_on y.0 t y.1);
      states = λ t b. let e = off.state t in let d = h.states t b in omega arith;
      knows = knows;
    }

  pub not_one : (m : ℕ → ℕ) (c : Target) (w : Insertion) → IsPlanned o v m c w → v.state w.to ≢ 1
  not_one m empty w p e = let r = p.0.room in absurd (omega arith)
  not_one m reuse w p e = let r = p.room in absurd (omega arith)
  not_one m (move from) w p e = let r = p.room in absurd (omega arith)

  pub planned_off : (m : ℕ → ℕ) (c : Target) (w : Insertion) (v' : SlotsView) → IsOff v v' w.to → IsPlanned o v m c w → IsPlanned o v' m c w
  planned_off m empty w v' off p = (record { inside = p.0.inside; room = off.state w.to ∙ p.0.room; absent = p.0.absent; before = λ t l b z. p.0.before t l b (sym (off.state t) ∙ z) }, (p.1.0, p.1.1, p.1.2, off.state p.1.0 ∙ p.1.3))
  planned_off m reuse w v' off p = record { inside = p.inside; room = off.state w.to ∙ p.room; absent = p.absent; before = λ t l b z. p.before t l b (sym (off.state t) ∙ z) }
  planned_off m (move from) w v' off p = record { inside = p.inside; room = off.state w.to ∙ p.room; stands = holds_on v' w.to off (not_one m (move from) w p) w.key from p.stands; before = p.before }

-- The stores of the three words of a slot that is being filled
module _ (o : Order) (v : SlotsView) (maps : Maps) (q : ℕ) (c : Target) (w : Insertion) where
  pub put_value : (f : ℕ → ℕ) → IsPut v.value f w.to w.number → IsOff v (record v { value = f }) w.to
  put_value f p = record { state = λ t. refl; low = λ t a. refl; high = λ t a. refl; value = p.others }

  pub put_low : (f : ℕ → ℕ) → IsPut v.low f w.to (o.low_of w.key) → IsOff v (record v { low = f }) w.to
  put_low f p = record { state = λ t. refl; low = p.others; high = λ t a. refl; value = λ t a. refl }

  pub put_high : (f : ℕ → ℕ) → IsPut v.high f w.to (o.high_of w.key) → IsOff v (record v { high = f }) w.to
  put_high f p = record { state = λ t. refl; low = λ t a. refl; high = p.others; value = λ t a. refl }

  -- from rest where no raise comes first, and else after the raise
  pub values : (g : Stage) → IsMap o v maps q g → ((k t : ℕ) → IsOld g k t → ⊥) → IsPlanned o v (maps q) c w → (f : ℕ → ℕ) → IsPut v.value f w.to w.number → IsMap o (record v { value = f }) maps q (with_value c w)
  values g h none plan f p = keeps_off o v (record v { value = f }) w.to (put_value f p) (not_one o v (maps q) c w plan) maps q g (with_value c w) h none (λ k t x. absurd x)
      (planned_off o v (maps q) c w (record v { value = f }) (put_value f p) plan, p.here)

  pub lows_in : IsMap o v maps q (with_value c w) → (f : ℕ → ℕ) → IsPut v.low f w.to (o.low_of w.key) → IsMap o (record v { low = f }) maps q (with_low c w)
  lows_in h f p = keeps_off o v (record v { low = f }) w.to (put_low f p) (not_one o v (maps q) c w h.knows.0) maps q (with_value c w) (with_low c w) h (λ k t x. x) (λ k t x. x)
      (planned_off o v (maps q) c w (record v { low = f }) (put_low f p) h.knows.0, h.knows.1, p.here)

  pub highs_in : IsMap o v maps q (with_low c w) → (f : ℕ → ℕ) → IsPut v.high f w.to (o.high_of w.key) → IsMap o (record v { high = f }) maps q (with_high c w)
  highs_in h f p = keeps_off o v (record v { high = f }) w.to (put_high f p) (not_one o v (maps q) c w h.knows.0) maps q (with_low c w) (with_high c w) h (λ k t x. x) (λ k t x. x)
      (planned_off o v (maps q) c w (record v { high = f }) (put_high f p) h.knows.0, h.knows.1, h.knows.2, p.here)

module _ (o : Order) (v : SlotsView) (maps : Maps) (q : ℕ) where
  -- raises
  pub begins : (c : Target) (w : Insertion) → IsMap o v maps q idle → IsPlanned o v (maps q) c w → IsMap o v maps q (with_bump c w)
  begins c w h plan = record { hole = h.hole; way = h.way; present = h.present; some_slot = h.some_slot; once = h.once; keyed = h.keyed; states = h.states; knows = plan }

  pub closes : (from : ℕ) (w : Insertion) → IsMap o v maps q (twice from w) → IsMap o v maps q (before_tombstone from w)
  closes from w h = record { hole = h.hole; way = h.way; present = h.present; some_slot = h.some_slot; once = h.once; keyed = h.keyed; states = h.states; knows = h.knows }

  pub settles : IsMap o v maps q with_tombstone → IsMap o v maps q idle
  settles h = record { hole = h.hole; way = h.way; present = h.present; some_slot = h.some_slot; once = h.once; keyed = h.keyed; states = h.states; knows = tt }

  -- another history with the same map
  pub remaps : (maps' : Maps) (q' : ℕ) → ((k : ℕ) → maps' q' k ≡ maps q k) → IsMap o v maps q idle → IsMap o v maps' q' idle
  remaps maps' q' same h = record {
    hole = h.hole;
    way = h.way;
    present = λ k s x. ⊎_elim (λ (u : ⊥). absurd u) (λ (u : maps q k ≡ suc (v.value s)). inr (same k ∙ u)) (h.present k s x);
    some_slot = λ k x e. h.some_slot k x (sym (same k) ∙ e);
    once = h.once;
    keyed = h.keyed;
    states = h.states;
    knows = tt;
  }
