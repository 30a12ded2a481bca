-- The steps of a look.
use Rattle.std.proofs.Common.{◌≡◌, ◌≢◌, ℕ, zero, suc, ◌<◌, ◌≤◌, ◌⊎◌, ⊎_elim, inl, inr, refl, sym, ap, ◌∙◌, subst, arith}
use Rattle.std.specs.Prelude.{Option, Some, None}
use mathlib.Core.Logic.{dite}
use native.Mathlib.Decide.{ℕ_discrete}
use Rattle.ck_slots.specs.Slots.{Order, IsOrder, SlotsView, Holds}
use Rattle.ck_slots.specs.Holding.{IsOld, AreCopies}
use Rattle.ck_slots.specs.Looks.{History, Moving, unmoved, half, raised, copies_in, HadBefore, KnowsMove, StandAt, HeldWithin, IsHalfMoved, IsUnpassed, IsBounded}

module _ (o : Order) (ok : IsOrder o) (v : SlotsView) (h : History) (q : ℕ) (g : Moving) (st : StandAt o v h q g) (r k : ℕ) where
  -- a slot that holds k isn't the one of step i
  later : (i s : ℕ) → (Holds o v k (o.probe k i) → ⊥) → Holds o v k s → i ≤ o.step k s → suc i ≤ o.step k s
  later i s other x le = dite (ℕ_discrete i (o.step k s))
      (λ (e : i ≡ o.step k s). absurd (other (subst (Holds o v k) (sym (ap (o.probe k) e ∙ ok.probe_step k s x.inside)) x)))
      (λ (n : i ≢ o.step k s). omega arith)

  half_more : (g' : Moving) → AreCopies o v (copies_in g') → (i : ℕ) → (Holds o v k (o.probe k i) → ⊥) → IsHalfMoved o g' r q k i → IsHalfMoved o g' r q k (suc i)
  half_more (half key to from) c i other x = (x.0, later i from other (subst (λ (j : ℕ). Holds o v j from) x.0 c.1) x.1, x.2)
  half_more g' c i other x = absurd x

  pub goes_on : (i : ℕ) → (Holds o v k (o.probe k i) → ⊥) → IsUnpassed o v h q g r k i → IsUnpassed o v h q g r k (suc i)
  goes_on i other = ⊎_elim (λ (a : HeldWithin h r q k None). inl a) (λ (a : ((s : ℕ) → Holds o v k s → i ≤ o.step k s) ⊎ IsHalfMoved o g r q k i).
      ⊎_elim (λ (b : (s : ℕ) → Holds o v k s → i ≤ o.step k s). inr (inl (λ s x. later i s other x (b s x)))) (λ (b : IsHalfMoved o g r q k i). inr (inr (half_more g st.held.copied i other b))) a)

  half_over : (g' : Moving) → AreCopies o v (copies_in g') → (i : ℕ) → ((s : ℕ) → Holds o v k s → o.step k s < i) → IsHalfMoved o g' r q k i → ⊥
  half_over (half key to from) c i before x = let a = x.1 in let b = before from (subst (λ (j : ℕ). Holds o v j from) x.0 c.1) in absurd (omega arith)
  half_over g' c i before x = x

  -- where all that holds k is behind, it was absent at a moment
  pub absent : r ≤ q → (i : ℕ) → ((s : ℕ) → Holds o v k s → o.step k s < i) → IsUnpassed o v h q g r k i → HeldWithin h r q k None
  absent le i before = ⊎_elim (λ (a : HeldWithin h r q k None). a) (λ (a : ((s : ℕ) → Holds o v k s → i ≤ o.step k s) ⊎ IsHalfMoved o g r q k i).
      ⊎_elim (λ (b : (s : ℕ) → Holds o v k s → i ≤ o.step k s). now b (h q k) refl) (λ (b : IsHalfMoved o g r q k i). absurd (half_over g st.held.copied i before b)) a)
    where
      now : ((s : ℕ) → Holds o v k s → i ≤ o.step k s) → (x : Option ℕ) → h q k ≡ x → HeldWithin h r q k None
      now b None e = record { place = q; low = le; high = omega arith; gave = e }
      now b (Some x) e = let y = st.held.stands k x e in let a = b y.0 y.1 in let z = before y.0 y.1 in absurd (omega arith)

  less : (a b : ℕ) → a ≢ b → (b < a → ⊥) → a < b
  less zero zero u n = absurd (u refl)
  less zero (suc b) u n = omega arith
  less (suc a) zero u n = absurd (n (omega arith))
  less (suc a) (suc b) u n = let l = less a b (λ e. u (ap suc e)) (λ z. n (omega arith)) in omega arith

  -- at an empty slot
  pub absent_at : r ≤ q → (i : ℕ) → i < o.slots → v.state (o.probe k i) ≡ 0 → IsUnpassed o v h q g r k i → HeldWithin h r q k None
  absent_at le i l e = absent le i (λ s x. less (o.step k s) i
      (λ (u : o.step k s ≡ i). let a = x.full in let b = ap v.state (sym (ok.probe_step k s x.inside) ∙ ap (o.probe k) u) in absurd (omega arith))
      (λ b. st.held.way k s (o.probe k i) x record { inside = ok.within k i l; earlier = let a = ok.step_probe k i l in omega arith } e))

  -- after the last slot
  pub absent_end : r ≤ q → (i : ℕ) → o.slots ≤ i → IsUnpassed o v h q g r k i → HeldWithin h r q k None
  absent_end le i e a = absent le i (λ s x. let b = ok.step_within k s x.inside in omega arith) a

  -- after the bound
  pub absent_below : r ≤ q → (i b : ℕ) → b ≤ i → IsBounded o v h q r k b → IsUnpassed o v h q g r k i → HeldWithin h r q k None
  absent_below le i b e low a = ⊎_elim (λ (z : HeldWithin h r q k None). z) (λ (z : (s : ℕ) → Holds o v k s → o.step k s < b). absent le i (λ s x. let y = z s x in omega arith) a) low

  -- the later copy of a key, where the look comes to it, has a value that the key had
  twice : (to from : ℕ) → Holds o v k to → o.step k to < o.step k from → HadBefore v h q k from → h q k ≡ Some (v.value to) → (i : ℕ) → o.step k from ≡ i
      → (HeldWithin h r q k None ⊎ (((t : ℕ) → Holds o v k t → i ≤ o.step k t) ⊎ (r < q))) → HeldWithin h r q k (Some (v.value from))
  twice to from first before b here i e a =
      let last = b.is_last in
      let low : r ≤ b.last = ⊎_elim
      (λ (z : HeldWithin h r q k None). let n : z.place ≢ q = λ u. none_some (v.value to) (sym (z.gave) ∙ (ap (λ (p : ℕ). h p k) u ∙ here)) in let y = z.low in let d = z.high in omega arith)
      (λ (z : ((t : ℕ) → Holds o v k t → i ≤ o.step k t) ⊎ (r < q)). ⊎_elim
      (λ (y : (t : ℕ) → Holds o v k t → i ≤ o.step k t). let d = y to first in absurd (omega arith))
      (λ (y : r < q). omega arith) z) a in
      record { place = b.last; low = low; high = omega arith; gave = b.had }
    where
      none_some : (x : ℕ) → None ≡ Some x → ⊥
      none_some x z = cc

  -- the slot from which a key was moved away
  moved : (key to from : ℕ) → Holds o v key to × Holds o v key from × (o.step key to < o.step key from) → HadBefore v h q key from → (i s : ℕ) → o.step k s ≡ i → (key ≡ k) × (from ≡ s) → ((t : ℕ) → Holds o v k t → ((key ≡ k) × (from ≡ t)) ⊎ (h q k ≡ Some (v.value t)))
      → (HeldWithin h r q k None ⊎ (((t : ℕ) → Holds o v k t → i ≤ o.step k t) ⊎ (r < q))) → HeldWithin h r q k (Some (v.value s))
  moved key to from c b i s e old present a =
      let first = subst (λ (j : ℕ). Holds o v j to) old.0 c.0 in let before = subst (λ (j : ℕ). o.step j to < o.step j from) old.0 c.2 in
      let here : h q k ≡ Some (v.value to) = ⊎_elim (λ (z : (key ≡ k) × (from ≡ to)). let y = ap (o.step k) z.1 in absurd (omega arith)) (λ (z : h q k ≡ Some (v.value to)). z) (present to first) in
      subst (λ (t : ℕ). HeldWithin h r q k (Some (v.value t))) old.1 (twice to from first before (subst (λ (j : ℕ). HadBefore v h q j from) old.0 b) here i (ap (o.step k) old.1 ∙ e) a)

  old_since : (g' : Moving) → AreCopies o v (copies_in g') → KnowsMove v h q g' → (i s : ℕ) → o.step k s ≡ i → IsOld (copies_in g') k s → ((t : ℕ) → Holds o v k t → IsOld (copies_in g') k t ⊎ (h q k ≡ Some (v.value t)))
      → IsUnpassed o v h q g' r k i → HeldWithin h r q k (Some (v.value s))
  old_since (half key to from) c b i s e old present a = moved key to from c b i s e old present
      (⊎_elim (λ (z : HeldWithin h r q k None). inl z) (λ (z : ((t : ℕ) → Holds o v k t → i ≤ o.step k t) ⊎ ((key ≡ k) × (i ≤ o.step k from) × (r < q))). inr (⊎_elim (λ (d : (t : ℕ) → Holds o v k t → i ≤ o.step k t). inl d) (λ (d : (key ≡ k) × (i ≤ o.step k from) × (r < q)). inr d.2) z)) a)
  old_since (raised key to from) c b i s e old present a = moved key to from c b i s e old present
      (⊎_elim (λ (z : HeldWithin h r q k None). inl z) (λ (z : ((t : ℕ) → Holds o v k t → i ≤ o.step k t) ⊎ ⊥). inr (⊎_elim (λ (d : (t : ℕ) → Holds o v k t → i ≤ o.step k t). inl d) (λ (d : ⊥). absurd d) z)) a)
  old_since unmoved c b i s e old present a = absurd old

  -- what stands at the slot that the look comes to has a value that the key had
  pub comes : r ≤ q → (i : ℕ) → i < o.slots → Holds o v k (o.probe k i) → IsUnpassed o v h q g r k i → HeldWithin h r q k (Some (v.value (o.probe k i)))
  comes le i l x a = ⊎_elim (λ (z : IsOld (copies_in g) k (o.probe k i)). old_since g st.held.copied st.knows i (o.probe k i) (ok.step_probe k i l) z (st.held.present k) a)
      (λ (z : h q k ≡ Some (v.value (o.probe k i))). record { place = q; low = le; high = omega arith; gave = z }) (st.held.present k (o.probe k i) x)
