-- Each step of the writer on the slots keeps what a look knows.
use Rattle.std.proofs.Common.{◌≡◌, ◌≢◌, ℕ, suc, ◌<◌, ◌≤◌, ◌⊎◌, ⊎_elim, inl, inr, refl, sym, ap, ◌∙◌, subst, arith}
use Rattle.std.specs.Prelude.{Option, None}
use mathlib.Core.Logic.{dite}
use native.Mathlib.Decide.{ℕ_discrete}
use Rattle.ck_slots.specs.Slots.{Order, IsOrder, SlotsView, Holds}
use Rattle.ck_slots.specs.Keeping.{IsSameBut}
use Rattle.ck_slots.specs.Looks.{History, GrowsBy, Moving, unmoved, half, raised, HeldWithin, IsHalfMoved, KeepsLooks}
use Rattle.ck_slots.proofs.Slots.{one_key}
use Rattle.ck_slots.proofs.Stores.{held_before}

pub held_more : (h h' : History) (r q q' k : ℕ) (x : Option ℕ) → ((p : ℕ) → p ≤ q → h' p k ≡ h p k) → q ≤ q' → HeldWithin h r q k x → HeldWithin h' r q' k x
held_more h h' r q q' k x same le s = record { place = s.place; low = s.low; high = let a = s.high in omega arith; gave = same s.place s.high ∙ s.gave }

module _ (o : Order) (v v' : SlotsView) (h h' : History) (q q' r k : ℕ) (same : (p : ℕ) → p ≤ q → h' p k ≡ h p k) (le : q ≤ q') where
  -- where k stands in no other slots than before
  pub keeps_fewer : (g g' : Moving) → ((t : ℕ) → Holds o v' k t → Holds o v k t) → ((i : ℕ) → IsHalfMoved o g r q k i → IsHalfMoved o g' r q' k i) → KeepsLooks o v v' h h' q q' g g' r k
  keeps_fewer g g' fewer halves = let more : (x : Option ℕ) → HeldWithin h r q k x → HeldWithin h' r q' k x = λ x. held_more h h' r q q' k x same le in record {
    held = more;
    unpassed = λ i. ⊎_elim (λ (a : HeldWithin h r q k None). inl (more None a)) (λ (a : ((s : ℕ) → Holds o v k s → i ≤ o.step k s) ⊎ IsHalfMoved o g r q k i).
        ⊎_elim (λ (b : (s : ℕ) → Holds o v k s → i ≤ o.step k s). inr (inl (λ s x. b s (fewer s x)))) (λ (b : IsHalfMoved o g r q k i). inr (inr (halves i b))) a);
    bounded = λ b. ⊎_elim (λ (a : HeldWithin h r q k None). inl (more None a)) (λ (a : (s : ℕ) → Holds o v k s → o.step k s < b). inr (λ s x. a s (fewer s x)));
  }

module _ (o : Order) (ok : IsOrder o) (v v' : SlotsView) (h h' : History) (q r : ℕ) (le : r ≤ q) where
  -- Another slot holds another key
  module _ (to key : ℕ) (but : IsSameBut to v v') (new : Holds o v' key to) where
    newly : (j t : ℕ) → Holds o v' j t → ((j ≡ key) × (t ≡ to)) ⊎ ((t ≢ to) × Holds o v j t)
    newly j t x = dite (ℕ_discrete t to)
        (λ (e : t ≡ to). inl (one_key o v' ok j key to (subst (λ (a : ℕ). Holds o v' j a) e x) new, e))
        (λ (n : t ≢ to). inr (n, held_before o v v' to but j t n x))

    others : (k : ℕ) → k ≢ key → (t : ℕ) → Holds o v' k t → Holds o v k t
    others k n t x = ⊎_elim (λ (e : (k ≡ key) × (t ≡ to)). absurd (n e.0)) (λ (e : (t ≢ to) × Holds o v k t). e.1) (newly k t x)

    -- a fresh key
    pub keeps_fresh : (x : Option ℕ) → GrowsBy h h' q key x → h q key ≡ None → (k : ℕ) → KeepsLooks o v v' h h' q (suc q) unmoved unmoved r k
    keeps_fresh x m absent k = dite (ℕ_discrete k key)
        (λ (e : k ≡ key). let was : HeldWithin h' r (suc q) k None = record { place = q; low = le; high = omega arith; gave = m.same q k (omega arith) ∙ (ap (h q) e ∙ absent) } in
        record { held = λ y. held_more h h' r q (suc q) k y (λ p b. m.same p k b) (omega arith); unpassed = λ i _. inl was; bounded = λ b _. inl was })
        (λ (n : k ≢ key). keeps_fewer o v v' h h' q (suc q) r k (λ p b. m.same p k b) (omega arith) unmoved unmoved (others k n) (λ i z. z))

    -- the first copy of a key that stands in a later slot
    pub keeps_move : (x : Option ℕ) → GrowsBy h h' q key x → (from : ℕ) → Holds o v key from → o.step key to < o.step key from → (k : ℕ) → KeepsLooks o v v' h h' q (suc q) unmoved (half key to from) r k
    keeps_move x m from stood before k = dite (ℕ_discrete k key)
        (λ (e : k ≡ key). subst (λ (j : ℕ). KeepsLooks o v v' h h' q (suc q) unmoved (half key to from) r j) (sym e) mine)
        (λ (n : k ≢ key). keeps_fewer o v v' h h' q (suc q) r k (λ p b. m.same p k b) (omega arith) unmoved (half key to from) (others k n) (λ i z. absurd z))
      where
        more : (y : Option ℕ) → HeldWithin h r q key y → HeldWithin h' r (suc q) key y
        more y = held_more h h' r q (suc q) key y (λ p b. m.same p key b) (omega arith)

        mine : KeepsLooks o v v' h h' q (suc q) unmoved (half key to from) r key
        mine = record {
          held = more;
          unpassed = λ i. ⊎_elim (λ (a : HeldWithin h r q key None). inl (more None a)) (λ (a : ((s : ℕ) → Holds o v key s → i ≤ o.step key s) ⊎ ⊥).
              ⊎_elim (λ (b : (s : ℕ) → Holds o v key s → i ≤ o.step key s). inr (inr (refl, b from stood, omega arith))) (λ (b : ⊥). absurd b) a);
          bounded = λ b. ⊎_elim (λ (a : HeldWithin h r q key None). inl (more None a)) (λ (a : (s : ℕ) → Holds o v key s → o.step key s < b). inr (λ s x. ⊎_elim
              (λ (e : (key ≡ key) × (s ≡ to)). let low = a from stood in let is = ap (o.step key) e.1 in omega arith)
              (λ (e : (s ≢ to) × Holds o v key s). a s e.1) (newly key s x)));
        }

    -- another value of a key, in its slot
    pub keeps_value : (x : Option ℕ) → GrowsBy h h' q key x → Holds o v key to → (k : ℕ) → KeepsLooks o v v' h h' q (suc q) unmoved unmoved r k
    keeps_value x m stood k = keeps_fewer o v v' h h' q (suc q) r k (λ p b. m.same p k b) (omega arith) unmoved unmoved
        (λ t y. ⊎_elim (λ (e : (k ≡ key) × (t ≡ to)). subst (λ (z : ℕ × ℕ). Holds o v z.0 z.1) (λ i. (sym e.0 i, sym e.1 i)) stood) (λ (e : (t ≢ to) × Holds o v k t). e.1) (newly k t y)) (λ i z. z)

  -- a tombstone
  module _ (s : ℕ) (but : IsSameBut s v v') (tomb : v'.state s ≡ 2) where
    fewer : (k t : ℕ) → Holds o v' k t → Holds o v k t
    fewer k t x = held_before o v v' s but k t (λ e. let a = ap v'.state e in let d = x.full in absurd (omega arith)) x

    -- of a removal
    pub keeps_removal : (key : ℕ) (x : Option ℕ) → GrowsBy h h' q key x → (k : ℕ) → KeepsLooks o v v' h h' q (suc q) unmoved unmoved r k
    keeps_removal key x m k = keeps_fewer o v v' h h' q (suc q) r k (λ p b. m.same p k b) (omega arith) unmoved unmoved (fewer k) (λ i z. z)

    -- of a move
    pub keeps_end : (key to from : ℕ) (k : ℕ) → KeepsLooks o v v' h h q q (raised key to from) unmoved r k
    keeps_end key to from k = keeps_fewer o v v' h h q q r k (λ p b. refl) (omega arith) (raised key to from) unmoved (fewer k) (λ i z. z)

  -- The raise of a counter within a move: looks of the key that is moved are bound by nothing any more
  pub keeps_raise : (key to from : ℕ) (k : ℕ) → k ≢ key → KeepsLooks o v v h h q q (half key to from) (raised key to from) r k
  keeps_raise key to from k n = keeps_fewer o v v h h q q r k (λ p b. refl) (omega arith) (half key to from) (raised key to from) (λ t x. x) (λ i z. n (sym z.0))
