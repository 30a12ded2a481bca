-- The plan says what is so, whatever the slots stand for.
use Rattle.std.proofs.Common.{◌≡◌, ◌≢◌, ℕ, zero, suc, ◌+◌, ◌<◌, ◌≤◌, ◌⊎◌, ⊎_elim, inl, inr, refl, sym, ap, ◌∙◌, subst, arith, Bool, cond, ◌==◌, eq-eqb, ne_eqb}
use mathlib.Core.Logic.{dite}
use native.Mathlib.Decide.{ℕ_discrete}
use Rattle.ck_slots.specs.Slots.{Order, IsOrder, SlotsView, Holds}
use Rattle.ck_slots.specs.Keeping.{holds_test}
use Rattle.ck_slots.proofs.Slots.{tested}
use Rattle.ck_htplan.specs.declared.cases.Plan.{Plan}
use Rattle.ck_htplan.specs.declared.cases.Plan.TheVariants.{Empty, Reuse, Stand, Move}
use Rattle.ck_htplan.specs.Planning.{fresh_plan, met_plan, first_tombstone, walk, plan_of}

-- no slot of the steps below that of s is empty
abbrev pub IsWay : Order → SlotsView → ℕ → ℕ → Type 0
IsWay o v k s = (t : ℕ) → t < o.slots → o.step k t < o.step k s → v.state t ≢ 0

-- what a plan says
abbrev pub Says : Order → SlotsView → ℕ → Plan → Type 0
Says o v k (Empty s) = (s < o.slots) × (v.state s ≡ 0) × IsWay o v k s × ((t : ℕ) → Holds o v k t → ⊥)
Says o v k (Reuse s) = (s < o.slots) × (v.state s ≡ 2) × IsWay o v k s × ((t : ℕ) → Holds o v k t → ⊥)
Says o v k (Stand s) = Holds o v k s
Says o v k (Move t s) = (t < o.slots) × (v.state t ≡ 2) × Holds o v k s × (o.step k t < o.step k s)

module _ (o : Order) (ok : IsOrder o) (v : SlotsView) (k : ℕ) (way : (s t : ℕ) → Holds o v k s → t < o.slots → o.step k t < o.step k s → v.state t ≢ 0) where
  -- what is known of the steps below i
  record IsPassed (i tomb : ℕ) : Type 0 where
    filled : (t : ℕ) → t < o.slots → o.step k t < i → v.state t ≢ 0
    other : (t : ℕ) → Holds o v k t → i ≤ o.step k t
    tombs : (t : ℕ) → tomb ≡ suc t → (t < o.slots) × (v.state t ≡ 2) × (o.step k t < i)

  at_empty : (i tomb : ℕ) → i < o.slots → v.state (o.probe k i) ≡ 0 → IsPassed i tomb → Says o v k (fresh_plan tomb (o.probe k i))
  at_empty i zero b e h = (ok.within k i b, e, (λ t l u. h.filled t l (let z = ok.step_probe k i b in omega arith)), λ t x. none t x)
    where
      none : (t : ℕ) → Holds o v k t → ⊥
      none t x = dite (ℕ_discrete (o.step k t) i)
          (λ (z : o.step k t ≡ i). let y = ap v.state (sym (ok.probe_step k t x.inside) ∙ ap (o.probe k) z) in let d = x.full in absurd (omega arith))
          (λ (z : o.step k t ≢ i). way t (o.probe k i) x (ok.within k i b) (let y = ok.step_probe k i b in let d = h.other t x in omega arith) e)
  at_empty i (suc s) b e h = let z = h.tombs s refl in (z.0, z.1, (λ t l u. h.filled t l (let y = z.2 in omega arith)), λ t x. none t x)
    where
      none : (t : ℕ) → Holds o v k t → ⊥
      none t x = dite (ℕ_discrete (o.step k t) i)
          (λ (z : o.step k t ≡ i). let y = ap v.state (sym (ok.probe_step k t x.inside) ∙ ap (o.probe k) z) in let d = x.full in absurd (omega arith))
          (λ (z : o.step k t ≢ i). way t (o.probe k i) x (ok.within k i b) (let y = ok.step_probe k i b in let d = h.other t x in omega arith) e)

  at_met : (i tomb : ℕ) → i < o.slots → Holds o v k (o.probe k i) → IsPassed i tomb → Says o v k (met_plan tomb (o.probe k i))
  at_met i zero b x h = x
  at_met i (suc t) b x h = let z = h.tombs t refl in (z.0, z.1, x, (let a = z.2 in let y = ok.step_probe k i b in omega arith))

  -- the slot of step i is passed
  on : (i tomb tomb' : ℕ) → i < o.slots → v.state (o.probe k i) ≢ 0 → (Holds o v k (o.probe k i) → ⊥) → IsPassed i tomb → ((t : ℕ) → tomb' ≡ suc t → (tomb ≡ suc t) ⊎ ((t ≡ o.probe k i) × (v.state t ≡ 2))) → IsPassed (suc i) tomb'
  on i tomb tomb' b full other h tombs = record {
    filled = λ t l u z. dite (ℕ_discrete (o.step k t) i) (λ (e : o.step k t ≡ i). full (ap v.state (ap (o.probe k) (sym e) ∙ ok.probe_step k t l) ∙ z)) (λ (n : o.step k t ≢ i). h.filled t l (omega arith) z);
    other = λ t x. dite (ℕ_discrete (o.step k t) i) (λ (e : o.step k t ≡ i). absurd (other (subst (Holds o v k) (sym (ap (o.probe k) (sym e) ∙ ok.probe_step k t x.inside)) x))) (λ (n : o.step k t ≢ i). let a = h.other t x in omega arith);
    tombs = λ t e. ⊎_elim (λ (z : tomb ≡ suc t). let a = h.tombs t z in let c = a.2 in (a.0, a.1, omega arith))
        (λ (z : (t ≡ o.probe k i) × (v.state t ≡ 2)). (subst (λ (j : ℕ). j < o.slots) (sym z.0) (ok.within k i b), z.1, (let a = ap (o.step k) z.0 in let c = ok.step_probe k i b in omega arith))) (tombs t e);
  }

  first_of_two : (tomb s t : ℕ) → first_tombstone tomb s ≡ suc t → v.state s ≡ 2 → (tomb ≡ suc t) ⊎ ((t ≡ s) × (v.state t ≡ 2))
  first_of_two zero s t e two = let z : t ≡ s = omega arith in inr (z, ap v.state z ∙ two)
  first_of_two (suc u) s t e two = inl e

  walks : (hole : ℕ) → hole < o.slots → v.state hole ≡ 0 → (n i tomb : ℕ) → n + i ≡ o.slots → IsPassed i tomb → Says o v k (walk o v k n i tomb)
  walks hole b e zero i tomb sum h = absurd (h.filled hole b (let z = ok.step_within k hole b in omega arith) e)
  walks hole b e (suc n) i tomb sum h = let s : ℕ = o.probe k i in let P : Bool → Type 0 = λ z. Says o v k (cond z (fresh_plan tomb s) (cond (holds_test o v k s) (met_plan tomb s) (walk o v k n (suc i) (cond (v.state s == 2) (first_tombstone tomb s) tomb)))) in
      dite (ℕ_discrete (v.state s) 0)
      (λ (z : v.state s ≡ 0). subst P (sym (eq-eqb (v.state s) 0 z)) (at_empty i tomb (omega arith) z h))
      (λ (z : v.state s ≢ 0). subst P (sym (ne_eqb (v.state s) 0 z)) (tested o v (λ y. Says o v k (cond y (met_plan tomb s) (walk o v k n (suc i) (cond (v.state s == 2) (first_tombstone tomb s) tomb)))) k s (ok.within k i (omega arith))
      (λ x. at_met i tomb (omega arith) x h)
      (λ y. dite (ℕ_discrete (v.state s) 2)
      (λ (u : v.state s ≡ 2). subst (λ (c : Bool). Says o v k (walk o v k n (suc i) (cond c (first_tombstone tomb s) tomb))) (sym (eq-eqb (v.state s) 2 u))
      (walks hole b e n (suc i) (first_tombstone tomb s) (omega arith) (on i tomb (first_tombstone tomb s) (omega arith) z y h (λ t d. first_of_two tomb s t d u))))
      (λ (u : v.state s ≢ 2). subst (λ (c : Bool). Says o v k (walk o v k n (suc i) (cond c (first_tombstone tomb s) tomb))) (sym (ne_eqb (v.state s) 2 u))
      (walks hole b e n (suc i) tomb (omega arith) (on i tomb tomb (omega arith) z y h (λ t d. inl d)))))))

  pub says : (hole : ℕ) → hole < o.slots → v.state hole ≡ 0 → Says o v k (plan_of o v k)
  says hole b e = walks hole b e o.slots 0 0 (omega arith) record { filled = λ t l u. absurd (omega arith); other = λ t x. omega arith; tombs = λ t z. absurd (omega arith) }
