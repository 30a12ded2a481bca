-- The plan that is computed along a key's probe order is the right one.
use Rattle.std.proofs.Common.{◌≡◌, ◌≢◌, ℕ, zero, suc, ◌+◌, ◌<◌, sym, ap, ◌∙◌, subst, refl, arith, Bool, cond, ◌==◌, eq-eqb, ne_eqb}
use mathlib.Core.Logic.{dite}
use native.Mathlib.Decide.{ℕ_discrete}
use Rattle.ck_slots.specs.Slots.{Order, IsOrder, SlotsView, Holds, HasState, IsBefore, IsFirst}
use Rattle.ck_slots.specs.Keeping.{holds_test}
use Rattle.ck_slots.proofs.Slots.{tested}
use Rattle.ck_slots.proofs.Firsts.{first_with}
use Rattle.ck_htplan.specs.declared.cases.Plan.{Plan}
use Rattle.ck_htplan.specs.Plans.{IsEnd, IsPlan}
use Rattle.ck_htplan.specs.Planning.{fresh_plan, met_plan, first_tombstone, walk, plan_of}
use Rattle.ck_htplan.proofs.OnePlan.{one_plan}

module _ (o : Order) (ok : IsOrder o) (v : SlotsView) (k : ℕ) where
  -- What is known of the slots of the steps below i. The first tombstone among them is the slot t, where `tomb` is t + 1
  record IsPassed (i tomb : ℕ) : Type 0 where
    filled : (t : ℕ) → t < o.slots → o.step k t < i → v.state t ≢ 0
    other : (t : ℕ) → t < o.slots → o.step k t < i → Holds o v k t → ⊥
    tomb_is : (t : ℕ) → tomb ≡ suc t → IsFirst o k (HasState v 2) t × (o.step k t < i)
    no_tomb : tomb ≡ 0 → (t : ℕ) → t < o.slots → o.step k t < i → v.state t ≢ 2

  -- what holds of the steps below i and of the slot of step i holds of the steps below i + 1
  one_more : (P : ℕ → Type 0) (i : ℕ) → ((t : ℕ) → t < o.slots → o.step k t < i → P t) → P (o.probe k i) → (t : ℕ) → t < o.slots → o.step k t < suc i → P t
  one_more P i before here t inside l = dite (ℕ_discrete (o.step k t) i)
      (λ (e : o.step k t ≡ i). subst P (ap (o.probe k) (sym e) ∙ ok.probe_step k t inside) here)
      (λ (n : o.step k t ≢ i). before t inside (omega arith))

  at_empty : (i tomb : ℕ) → i < o.slots → v.state (o.probe k i) ≡ 0 → IsPassed i tomb → IsPlan o v k (fresh_plan tomb (o.probe k i))
  at_empty i tomb b e h = by tomb h
    where
      at : o.step k (o.probe k i) ≡ i
      at = ok.step_probe k i b

      end : IsEnd o v k (o.probe k i)
      end = record { inside = ok.within k i b; here = e; none_before = λ t f z. (let l = f.earlier in h.filled t f.inside (omega (arith, at)) z) }

      by : (tomb : ℕ) → IsPassed i tomb → IsPlan o v k (fresh_plan tomb (o.probe k i))
      by zero h = (
        o.probe k i,
        end,
        (
          refl,
          (λ t f x. let l = f.earlier in h.other t f.inside (omega (arith, at)) x),
          λ t f z. (let l = f.earlier in h.no_tomb refl t f.inside (omega (arith, at)) z),
        ),
      )
      by (suc s) h = let first = h.tomb_is s refl in let low = first.1 in (
        o.probe k i,
        end,
        ((λ t f x. let l = f.earlier in h.other t f.inside (omega (arith, at)) x), (first.0, record { inside = first.0.inside; earlier = omega (arith, at) })),
      )

  module _ (hole : ℕ) (there : hole < o.slots) (empty : v.state hole ≡ 0) where
    at_met : (i tomb : ℕ) → i < o.slots → Holds o v k (o.probe k i) → IsPassed i tomb → IsPlan o v k (met_plan tomb (o.probe k i))
    at_met i tomb b x h = by tomb h
      where
        at : o.step k (o.probe k i) ≡ i
        at = ok.step_probe k i b

        end : (t : ℕ) × IsFirst o k (HasState v 0) t
        end = first_with o ok v k 0 hole there empty

        -- the end is at a later step
        later : o.step k (o.probe k i) < o.step k end.0
        later =
            let not_before : (o.step k end.0 < i) → ⊥ = λ l. h.filled end.0 end.1.inside l end.1.here in
            let not_here : o.step k end.0 ≢ i = λ e. (let same = ap v.state (sym (ok.probe_step k end.0 end.1.inside) ∙ ap (o.probe k) e) in let full = x.full in let z = end.1.here in absurd (omega arith)) in
            omega (arith, at)

        first : IsFirst o k (Holds o v k) (o.probe k i)
        first = record { inside = x.inside; here = x; none_before = λ t f y. (let l = f.earlier in h.other t f.inside (omega (arith, at)) y) }

        before : IsBefore o k (o.probe k i) end.0
        before = record { inside = x.inside; earlier = later }

        by : (tomb : ℕ) → IsPassed i tomb → IsPlan o v k (met_plan tomb (o.probe k i))
        by zero h = (end.0, end.1, ((first, before), λ t f z. (let l = f.earlier in h.no_tomb refl t f.inside (omega (arith, at)) z)))
        by (suc s) h = let tomb = h.tomb_is s refl in let low = tomb.1 in (end.0, end.1, ((first, before), (tomb.0, record { inside = tomb.0.inside; earlier = omega (arith, at) })))

    -- the slot of step i is passed
    past : (i tomb tomb' : ℕ) → v.state (o.probe k i) ≢ 0 → (Holds o v k (o.probe k i) → ⊥) → IsPassed i tomb
        → ((t : ℕ) → tomb' ≡ suc t → IsFirst o k (HasState v 2) t × (o.step k t < suc i))
        → (tomb' ≡ 0 → (t : ℕ) → t < o.slots → o.step k t < suc i → v.state t ≢ 2) → IsPassed (suc i) tomb'
    past i tomb tomb' full other h is none = record {
      filled = one_more (λ t. v.state t ≢ 0) i h.filled full;
      other = one_more (λ t. Holds o v k t → ⊥) i h.other other;
      tomb_is = is;
      no_tomb = none;
    }

    past_tombstone : (i tomb : ℕ) → i < o.slots → v.state (o.probe k i) ≡ 2 → (Holds o v k (o.probe k i) → ⊥) → IsPassed i tomb → IsPassed (suc i) (first_tombstone tomb (o.probe k i))
    past_tombstone i zero b two other h =
        let at = ok.step_probe k i b in
        let first : IsFirst o k (HasState v 2) (o.probe k i) = record { inside = ok.within k i b; here = two; none_before = λ t f z. (let l = f.earlier in h.no_tomb refl t f.inside (omega (arith, at)) z) } in
        past i zero (suc (o.probe k i)) (λ e. absurd (omega arith)) other h
        (λ t e. let same : o.probe k i ≡ t = omega arith in subst (λ (s : ℕ). IsFirst o k (HasState v 2) s × (o.step k s < suc i)) same (first, omega (arith, at)))
        (λ e. absurd (omega arith))
    past_tombstone i (suc s) b two other h = past i (suc s) (suc s) (λ e. absurd (omega arith)) other h (λ t e. let f = h.tomb_is t e in let l = f.1 in (f.0, omega arith)) (λ e. absurd (omega arith))

    past_other : (i tomb : ℕ) → v.state (o.probe k i) ≢ 0 → v.state (o.probe k i) ≢ 2 → (Holds o v k (o.probe k i) → ⊥) → IsPassed i tomb → IsPassed (suc i) tomb
    past_other i tomb full not_two other h = past i tomb tomb full other h (λ t e. let f = h.tomb_is t e in let l = f.1 in (f.0, omega arith)) (λ e. one_more (λ t. v.state t ≢ 2) i (h.no_tomb e) not_two)

    walks : (n i tomb : ℕ) → n + i ≡ o.slots → IsPassed i tomb → IsPlan o v k (walk o v k n i tomb)
    walks zero i tomb sum h = absurd (h.filled hole there (let z = ok.step_within k hole there in omega arith) empty)
    walks (suc n) i tomb sum h =
        let s : ℕ = o.probe k i in
        let further : Bool → Plan = λ c. walk o v k n (suc i) (cond c (first_tombstone tomb s) tomb) in
        dite (ℕ_discrete (v.state s) 0)
        (λ (z : v.state s ≡ 0). subst (λ (c : Bool). IsPlan o v k (cond c (fresh_plan tomb s) (cond (holds_test o v k s) (met_plan tomb s) (further (v.state s == 2))))) (sym (eq-eqb (v.state s) 0 z)) (at_empty i tomb (omega arith) z h))
        (λ (z : v.state s ≢ 0). subst (λ (c : Bool). IsPlan o v k (cond c (fresh_plan tomb s) (cond (holds_test o v k s) (met_plan tomb s) (further (v.state s == 2))))) (sym (ne_eqb (v.state s) 0 z))
        (tested o v (λ c. IsPlan o v k (cond c (met_plan tomb s) (further (v.state s == 2)))) k s (ok.within k i (omega arith))
        (λ x. at_met i tomb (omega arith) x h)
        (λ other. dite (ℕ_discrete (v.state s) 2)
        (λ (two : v.state s ≡ 2). subst (λ (c : Bool). IsPlan o v k (further c)) (sym (eq-eqb (v.state s) 2 two)) (walks n (suc i) (first_tombstone tomb s) (omega arith) (past_tombstone i tomb (omega arith) two other h)))
        (λ (not_two : v.state s ≢ 2). subst (λ (c : Bool). IsPlan o v k (further c)) (sym (ne_eqb (v.state s) 2 not_two)) (walks n (suc i) tomb (omega arith) (past_other i tomb z not_two other h))))))

    pub plan_of_is : IsPlan o v k (plan_of o v k)
    plan_of_is = walks o.slots 0 0 (omega arith) record { filled = λ t l u. absurd (omega arith); other = λ t l u x. absurd (omega arith); tomb_is = λ t e. absurd (omega arith); no_tomb = λ e t l u. absurd (omega arith) }

    -- so it is each right plan
    pub plan_is : (p : Plan) → IsPlan o v k p → p ≡ plan_of o v k
    plan_is p right = one_plan o ok v k p (plan_of o v k) right plan_of_is
