-- The steps at which an update takes place keep what the words stand for.
use Rattle.std.proofs.Common.{◌≡◌, ◌≢◌, ℕ, suc, ◌<◌, ◌⊎◌, ⊎_elim, inl, inr, refl, sym, ap, ◌∙◌, subst, arith}
use mathlib.Core.Logic.{dite}
use native.Mathlib.Decide.{ℕ_discrete}
use Rattle.ck_slots.specs.Slots.{Order, IsOrder, SlotsView, Holds}
use Rattle.ck_htlaw.specs.Stages.{Insertion, Target, empty, reuse, move, Stage, idle, with_high, twice, before_tombstone, with_tombstone, IsOld, IsFresh, Maps, Knows, IsMap, IsPut, IsStep}
use Rattle.ck_htlaw.proofs.Maps.{holds_one, apart_full, not_one}

not_zero : (x y : ℕ) → x ≡ 0 → x ≡ suc y → ⊥
not_zero x y a b = absurd (omega arith)

module _ (o : Order) (ok : IsOrder o) (v : SlotsView) (maps maps' : Maps) (q : ℕ) where
  -- The store of the state of a slot that holds the key's words and its value
  module _ (c : Target) (w : Insertion) (f : ℕ → ℕ) (h : IsMap o v maps q (with_high c w)) (p : IsPut v.state f w.to 1) (m : IsStep maps maps' q w.key (suc w.number)) where
    abbrev v' : SlotsView
    v' = record v { state = f }

    ne : v.state w.to ≢ 1
    ne = not_one o v (maps q) c w h.knows.0

    -- what stands now is the new slot, or stood before
    pub newly : (k t : ℕ) → Holds o v' k t → ((k ≡ w.key) × (t ≡ w.to)) ⊎ ((t ≢ w.to) × Holds o v k t)
    newly k t x = dite (ℕ_discrete t w.to)
        (λ (e : t ≡ w.to). inl (ok.one_key k w.key (sym x.is_low ∙ (ap v.low e ∙ h.knows.2)) (sym x.is_high ∙ (ap v.high e ∙ h.knows.3)), e))
        (λ (n : t ≢ w.to). inr (n, record { inside = x.inside; full = sym (p.others t n) ∙ x.full; is_low = x.is_low; is_high = x.is_high }))

    still : (k t : ℕ) → Holds o v k t → Holds o v' k t
    still k t x = record { inside = x.inside; full = p.others t (apart_full o v k w.to t ne x) ∙ x.full; is_low = x.is_low; is_high = x.is_high }

    pub new_one : w.to < o.slots → Holds o v' w.key w.to
    new_one l = record { inside = l; full = p.here; is_low = h.knows.2; is_high = h.knows.3 }

    pub fills : (g' : Stage) → w.to < o.slots → ((e : ℕ) × (e < o.slots) × (e ≢ w.to) × (v.state e ≡ 0)) → ((s : ℕ) → Holds o v w.key s → IsOld g' w.key s) → ((k s : ℕ) → IsOld g' k s → (k ≡ w.key) × (s ≢ w.to))
        → ((t : ℕ) → t < o.slots → o.step w.key t < o.step w.key w.to → v.state t ≢ 0) → Knows o v' maps' (suc q) g' → IsMap o v' maps' (suc q) g'
    fills g' inside e olds only before knows = record {
      hole = (e.0, e.1, p.others e.0 e.2 ∙ e.3);
      way = λ k s t x l b z. dite (ℕ_discrete t w.to)
          (λ (u : t ≡ w.to). let one = sym (ap f u) in let y = p.here in absurd (omega arith))
          (λ (n : t ≢ w.to). let z' : v.state t ≡ 0 = sym (p.others t n) ∙ z in ⊎_elim
          (λ (u : (k ≡ w.key) × (s ≡ w.to)). before t l (subst (λ (j : ℕ × ℕ). o.step j.0 t < o.step j.0 j.1) (λ i. (u.0 i, u.1 i)) b) z')
          (λ (u : (s ≢ w.to) × Holds o v k s). h.way k s t u.1 l b z') (newly k s x));
      present = λ k s x. ⊎_elim
          (λ (u : (k ≡ w.key) × (s ≡ w.to)). inr (ap (maps' (suc q)) u.0 ∙ (m.here ∙ (ap suc (sym h.knows.1) ∙ ap (λ (j : ℕ). suc (v.value j)) (sym u.1)))))
          (λ (u : (s ≢ w.to) × Holds o v k s). dite (ℕ_discrete k w.key)
          (λ (a : k ≡ w.key). inl (subst (λ (j : ℕ). IsOld g' j s) (sym a) (olds s (subst (λ (j : ℕ). Holds o v j s) a u.1))))
          (λ (a : k ≢ w.key). ⊎_elim (λ (y : ⊥). absurd y) (λ (y : maps q k ≡ suc (v.value s)). inr (m.others k a ∙ y)) (h.present k s u.1)))
          (newly k s x);
      some_slot = λ k x y. dite (ℕ_discrete k w.key)
          (λ (a : k ≡ w.key). (w.to, subst (λ (j : ℕ). Holds o v' j w.to) (sym a) (new_one inside), λ z. (only k w.to z).1 refl))
          (λ (a : k ≢ w.key). let z = h.some_slot k x (sym (m.others k a) ∙ y) in (z.0, still k z.0 z.1, λ r. a (only k z.0 r).0));
      once = λ k s t x y. ⊎_elim
          (λ (u : (k ≡ w.key) × (s ≡ w.to)). ⊎_elim
          (λ (z : (k ≡ w.key) × (t ≡ w.to)). inl (u.1 ∙ sym z.1))
          (λ (z : (t ≢ w.to) × Holds o v k t). inr (inr (subst (λ (j : ℕ). IsOld g' j t) (sym u.0) (olds t (subst (λ (j : ℕ). Holds o v j t) u.0 z.1))))) (newly k t y))
          (λ (u : (s ≢ w.to) × Holds o v k s). ⊎_elim
          (λ (z : (k ≡ w.key) × (t ≡ w.to)). inr (inl (subst (λ (j : ℕ). IsOld g' j s) (sym z.0) (olds s (subst (λ (j : ℕ). Holds o v j s) z.0 u.1)))))
          (λ (z : (t ≢ w.to) × Holds o v k t). ⊎_elim (λ (r : s ≡ t). inl r) (λ (r : ⊥ ⊎ ⊥). ⊎_elim (λ (n : ⊥). absurd n) (λ (n : ⊥). absurd n) r) (h.once k s t u.1 z.1)) (newly k t y)) (newly k s x);
      keyed = λ t b full. dite (ℕ_discrete t w.to)
          (λ (u : t ≡ w.to). (w.key, subst (λ (j : ℕ). Holds o v' w.key j) (sym u) (new_one inside)))
          (λ (n : t ≢ w.to). let y = h.keyed t b (sym (p.others t n) ∙ full) in (y.0, still y.0 t y.1));
      states = λ t b. dite (ℕ_discrete t w.to)
          (λ (u : t ≡ w.to). let e = ap f u in let d = p.here in omega arith)
          (λ (n : t ≢ w.to). let e = p.others t n in let d = h.states t b in omega arith);
      knows = knows;
    }

  -- a fresh key
  fills_fresh : (c : Target) (w : Insertion) (x : ℕ) (f : ℕ → ℕ) (h : IsMap o v maps q (with_high c w)) → IsPut v.state f w.to 1 → IsStep maps maps' q w.key (suc w.number) → IsFresh o v (maps q) w x
      → ((e : ℕ) × (e < o.slots) × (e ≢ w.to) × (v.state e ≡ 0)) → IsMap o (record v { state = f }) maps' (suc q) idle
  fills_fresh c w x f h p m plan e = fills c w f h p m idle plan.inside e
      (λ s y. ⊎_elim (λ (z : ⊥). absurd z) (λ (z : maps q w.key ≡ suc (v.value s)). not_zero (maps q w.key) (v.value s) plan.absent z) (h.present w.key s y))
      (λ k s y. absurd y) plan.before tt

  pub fills_empty : (w : Insertion) (f : ℕ → ℕ) (h : IsMap o v maps q (with_high empty w)) → IsPut v.state f w.to 1 → IsStep maps maps' q w.key (suc w.number) → IsMap o (record v { state = f }) maps' (suc q) idle
  fills_empty w f h p m = fills_fresh empty w 0 f h p m h.knows.0.0 h.knows.0.1

  pub fills_reuse : (w : Insertion) (f : ℕ → ℕ) (h : IsMap o v maps q (with_high reuse w)) → IsPut v.state f w.to 1 → IsStep maps maps' q w.key (suc w.number) → IsMap o (record v { state = f }) maps' (suc q) idle
  fills_reuse w f h p m = fills_fresh reuse w 2 f h p m h.knows.0 (h.hole.0, h.hole.1, (λ e. let r = h.knows.0.room in let s = h.hole.2 in let z = ap v.state e in absurd (omega arith)), h.hole.2)

  pub fills_move : (from : ℕ) (w : Insertion) (f : ℕ → ℕ) (h : IsMap o v maps q (with_high (move from) w)) → IsPut v.state f w.to 1 → IsStep maps maps' q w.key (suc w.number) → IsMap o (record v { state = f }) maps' (suc q) (twice from w)
  fills_move from w f h p m = let plan = h.knows.0 in
      let away : from ≢ w.to = apart_full o v w.key w.to from (ne (move from) w f h p m) plan.stands in
      fills (move from) w f h p m (twice from w) plan.inside (h.hole.0, h.hole.1, (λ e. let r = plan.room in let s = h.hole.2 in let z = ap v.state e in absurd (omega arith)), h.hole.2)
      (λ s y. (refl, ⊎_elim (λ (z : from ≡ s). z) (λ (z : ⊥ ⊎ ⊥). ⊎_elim (λ (n : ⊥). absurd n) (λ (n : ⊥). absurd n) z) (h.once w.key from s plan.stands y)))
      (λ k s y. (sym y.0, λ e. away (y.1 ∙ e)))
      (λ t l b. h.way w.key from t plan.stands l (let z = plan.before in omega arith))
      record {
        first = new_one (move from) w f h p m plan.inside;
        second = still (move from) w f h p m w.key from plan.stands;
        before = plan.before;
        last = q;
        is_last = refl;
        had = m.same q w.key (omega arith) ∙ ⊎_elim (λ (z : ⊥). absurd z) (λ (z : maps q w.key ≡ suc (v.value from)). z) (h.present w.key from plan.stands);
      }

  -- a tombstone
  module _ (k s : ℕ) (f : ℕ → ℕ) (g : Stage) (h : IsMap o v maps q g) (p : IsPut v.state f s 2) (stood : Holds o v k s) where
    pub gone : (j t : ℕ) → Holds o (record v { state = f }) j t → (t ≢ s) × Holds o v j t
    gone j t x = let n : t ≢ s = λ e. let a = ap f e in let b = p.here in let d = x.full in absurd (omega arith) in
        (n, record { inside = x.inside; full = sym (p.others t n) ∙ x.full; is_low = x.is_low; is_high = x.is_high })

    pub buries : (q' : ℕ) (g' : Stage) → ((j t : ℕ) → Holds o v j t → t ≢ s → maps' q' j ≡ suc (v.value t)) → ((j x : ℕ) → maps' q' j ≡ suc x → (t : ℕ) × Holds o v j t × (t ≢ s))
        → ((j a b : ℕ) → Holds o v j a → Holds o v j b → a ≢ s → b ≢ s → a ≡ b) → ((j t : ℕ) → IsOld g' j t → ⊥) → Knows o (record v { state = f }) maps' q' g' → IsMap o (record v { state = f }) maps' q' g'
    buries q' g' present some_slot once none knows = record {
      hole = (h.hole.0, h.hole.1, p.others h.hole.0 (λ e. let a = ap v.state e in let b = h.hole.2 in let d = stood.full in absurd (omega arith)) ∙ h.hole.2);
      way = λ j a t x l b z. let y = gone j a x in dite (ℕ_discrete t s)
          (λ (e : t ≡ s). let u = ap f e in let d = p.here in absurd (omega arith))
          (λ (n : t ≢ s). h.way j a t y.1 l b (sym (p.others t n) ∙ z));
      present = λ j t x. let y = gone j t x in inr (present j t y.1 y.0);
      some_slot = λ j x e. let y = some_slot j x e in (y.0, record { inside = y.1.inside; full = p.others y.0 y.2 ∙ y.1.full; is_low = y.1.is_low; is_high = y.1.is_high }, λ z. none j y.0 z);
      once = λ j a b x y. let x' = gone j a x in let y' = gone j b y in inl (once j a b x'.1 y'.1 x'.0 y'.0);
      keyed = λ t b full. let n : t ≢ s = λ e. let a = ap f e in let d = p.here in absurd (omega arith) in let y = h.keyed t b (sym (p.others t n) ∙ full) in
          (y.0, record { inside = b; full = full; is_low = y.1.is_low; is_high = y.1.is_high });
      states = λ t b. dite (ℕ_discrete t s)
          (λ (u : t ≡ s). let e = ap f u in let d = p.here in omega arith)
          (λ (n : t ≢ s). let e = p.others t n in let d = h.states t b in omega arith);
      knows = knows;
    }

  pub removes : (k s : ℕ) (f : ℕ → ℕ) (h : IsMap o v maps q idle) → IsPut v.state f s 2 → Holds o v k s → IsStep maps maps' q k 0 → IsMap o (record v { state = f }) maps' (suc q) with_tombstone
  removes k s f h p stood m = let only : (j a b : ℕ) → Holds o v j a → Holds o v j b → a ≡ b = λ j a b x y. ⊎_elim (λ (z : a ≡ b). z) (λ (z : ⊥ ⊎ ⊥). ⊎_elim (λ (n : ⊥). absurd n) (λ (n : ⊥). absurd n) z) (h.once j a b x y) in
      buries k s f idle h p stood (suc q) with_tombstone
      (λ j t x n. m.others j (λ e. n (only j t s x (subst (λ (i : ℕ). Holds o v i s) (sym e) stood))) ∙ ⊎_elim (λ (z : ⊥). absurd z) (λ (z : maps q j ≡ suc (v.value t)). z) (h.present j t x))
      (λ j x e. let a : j ≢ k = λ z. not_zero (maps' (suc q) j) x (ap (maps' (suc q)) z ∙ m.here) e in let y = h.some_slot j x (sym (m.others j a) ∙ e) in
      (y.0, y.1, λ z. a (holds_one o v ok j k s (subst (λ (i : ℕ). Holds o v j i) z y.1) stood)))
      (λ j a b x y _ _. only j a b x y) (λ j t x. x) tt

  -- a replacement in place
  pub replaces : (k s x : ℕ) (f : ℕ → ℕ) (h : IsMap o v maps q idle) → IsPut v.value f s x → Holds o v k s → IsStep maps maps' q k (suc x) → IsMap o (record v { value = f }) maps' (suc q) idle
  replaces k s x f h p stood m = let only : (j a b : ℕ) → Holds o v j a → Holds o v j b → a ≡ b = λ j a b x y. ⊎_elim (λ (z : a ≡ b). z) (λ (z : ⊥ ⊎ ⊥). ⊎_elim (λ (n : ⊥). absurd n) (λ (n : ⊥). absurd n) z) (h.once j a b x y) in
      let same : (j t : ℕ) → Holds o (record v { value = f }) j t → Holds o v j t = λ j t y. record { inside = y.inside; full = y.full; is_low = y.is_low; is_high = y.is_high } in
      let back : (j t : ℕ) → Holds o v j t → Holds o (record v { value = f }) j t = λ j t y. record { inside = y.inside; full = y.full; is_low = y.is_low; is_high = y.is_high } in
      record {
        hole = h.hole;
        way = λ j a t y l b. h.way j a t (same j a y) l b;
        present = λ j t y'. let y = same j t y' in dite (ℕ_discrete t s)
            (λ (e : t ≡ s). let a : j ≡ k = holds_one o v ok j k s (subst (λ (i : ℕ). Holds o v j i) e y) stood in inr (ap (maps' (suc q)) a ∙ (m.here ∙ ap suc (sym (ap f e ∙ p.here)))))
            (λ (n : t ≢ s). inr (m.others j (λ e. n (only j t s y (subst (λ (i : ℕ). Holds o v i s) (sym e) stood)))
            ∙ (⊎_elim (λ (z : ⊥). absurd z) (λ (z : maps q j ≡ suc (v.value t)). z) (h.present j t y) ∙ ap suc (sym (p.others t n)))));
        some_slot = λ j y e. dite (ℕ_discrete j k)
            (λ (a : j ≡ k). (s, back j s (subst (λ (i : ℕ). Holds o v i s) (sym a) stood), λ z. z))
            (λ (a : j ≢ k). let z = h.some_slot j y (sym (m.others j a) ∙ e) in (z.0, back j z.0 z.1, λ u. u));
        once = λ j a b y z. inl (only j a b (same j a y) (same j b z));
        keyed = λ t b full. let y = h.keyed t b full in (y.0, back y.0 t y.1);
        states = h.states;
        knows = tt;
      }

-- the tombstone of a move
pub ends : (o : Order) (ok : IsOrder o) (v : SlotsView) (maps : Maps) (q from : ℕ) (w : Insertion) (f : ℕ → ℕ) (h : IsMap o v maps q (before_tombstone from w)) → IsPut v.state f from 2 → IsMap o (record v { state = f }) maps q idle
ends o ok v maps q from w f h p = let t = h.knows in
    let away : (j a : ℕ) → a ≢ from → IsOld (before_tombstone from w) j a → ⊥ = λ j a n z. n (sym z.1) in
    buries o ok v maps maps q w.key from f (before_tombstone from w) h p t.second q idle
    (λ j a x n. ⊎_elim (λ (z : (w.key ≡ j) × (from ≡ a)). absurd (away j a n z)) (λ (z : maps q j ≡ suc (v.value a)). z) (h.present j a x))
    (λ j x e. let y = h.some_slot j x e in (y.0, y.1, λ z. y.2 (holds_one o v ok w.key j from t.second (subst (λ (i : ℕ). Holds o v j i) z y.1), sym z)))
    (λ j a b x y n n'. ⊎_elim (λ (z : a ≡ b). z) (λ (z : ((w.key ≡ j) × (from ≡ a)) ⊎ ((w.key ≡ j) × (from ≡ b))). ⊎_elim (λ (u : (w.key ≡ j) × (from ≡ a)). absurd (away j a n u)) (λ (u : (w.key ≡ j) × (from ≡ b)). absurd (away j b n' u)) z) (h.once j a b x y))
    (λ j a x. x) tt
