-- Each step of a look keeps what holds of its reader, and its last one gives an answer that the map gave.
use Rattle.std.proofs.Common.{◌≡◌, ◌≢◌, ℕ, suc, ◌<◌, ◌≤◌, inl, inr, sym, ap, ◌∙◌, subst, arith, Bool, true, false, cond, ◌==◌, eq-eqb, ne_eqb}
use mathlib.Core.Logic.{dite}
use native.Mathlib.Decide.{ℕ_discrete}
use Rattle.ck_slots.specs.Slots.{Order, IsOrder, SlotsView, Holds}
use Rattle.ck_htlaw.specs.Stages.{Stage, with_bump, with_value, with_low, with_high, IsApart, Maps, Knows, IsMap}
use Rattle.ck_htlaw.specs.Look.{LookState, at_version, at_state, at_low, at_high, at_value, checking_value, checking_absence, IsSince, IsAhead, counted, LookInvariant, passed, after_state, after_high}
use Rattle.ck_slots.specs.Looks.{StandAt}
use Rattle.ck_slots.proofs.Looks.{goes_on as goes_on_at, absent_at as absent_at_empty, absent_end as absent_at_end, comes as comes_to}
use Rattle.ck_htlaw.proofs.Maps.{not_one}
use Rattle.ck_htlaw.proofs.Bridge.{history, moving_of, stands, since_found, since_absent, ahead_is, ahead_back}

module _ (o : Order) (ok : IsOrder o) (v : SlotsView) (maps : Maps) (q : ℕ) (g : Stage) (h : IsMap o v maps q g) (r : ℕ) where
  st : StandAt o v (history maps) q (moving_of g)
  st = stands o v maps q g h

  goes_on : (k i : ℕ) → (Holds o v k (o.probe k i) → ⊥) → IsAhead o v maps q g r k i → IsAhead o v maps q g r k (suc i)
  goes_on k i other a = ahead_back o v maps q r k g (suc i) (goes_on_at o ok v (history maps) q (moving_of g) st r k i other (ahead_is o v maps q r k g i a))

  absent_at : r ≤ q → (k i : ℕ) → i < o.slots → v.state (o.probe k i) ≡ 0 → IsAhead o v maps q g r k i → IsSince maps r q k 0
  absent_at le k i l e a = since_absent o v maps q r k (absent_at_empty o ok v (history maps) q (moving_of g) st r k le i l e (ahead_is o v maps q r k g i a))

  absent_end : r ≤ q → (k i : ℕ) → suc i ≡ o.slots → (Holds o v k (o.probe k i) → ⊥) → IsAhead o v maps q g r k i → IsSince maps r q k 0
  absent_end le k i e other a = since_absent o v maps q r k (absent_at_end o ok v (history maps) q (moving_of g) st r k le (suc i) (omega arith) (ahead_is o v maps q r k g (suc i) (goes_on k i other a)))

  -- the reader of a slot goes on to the next one
  pub passes : (now k c i : ℕ) → r ≤ q → c ≤ now → i < o.slots → (c ≡ now → (Holds o v k (o.probe k i) → ⊥) × IsAhead o v maps q g r k i) → LookInvariant o v maps q g now r (passed o k c i)
  passes now k c i le risen l a = let P : Bool → Type 0 = λ b. LookInvariant o v maps q g now r (cond b (checking_absence k c) (at_state k c (suc i))) in dite (ℕ_discrete (suc i) o.slots)
      (λ (e : suc i ≡ o.slots). subst P (sym (eq-eqb (suc i) o.slots e)) record { since = le; risen = risen; within = tt; facts = λ z. absent_end le k i e (a z).0 (a z).1 })
      (λ (n : suc i ≢ o.slots). subst P (sym (ne_eqb (suc i) o.slots n)) record { since = le; risen = risen; within = omega arith; facts = λ z. goes_on k i (a z).0 (a z).1 })

  -- what stands at the slot that the reader comes to is lawful
  comes : r ≤ q → (k i : ℕ) → i < o.slots → Holds o v k (o.probe k i) → IsAhead o v maps q g r k i → IsSince maps r q k (suc (v.value (o.probe k i)))
  comes le k i l x a = since_found o v maps q r k (v.value (o.probe k i)) (comes_to o ok v (history maps) q (moving_of g) st r k le i l x (ahead_is o v maps q r k g i a))

  apart_one : (g' : Stage) → Knows o v maps q g' → (s : ℕ) → v.state s ≡ 1 → IsApart g' s
  apart_one (with_bump c w) t s e = λ u. not_one o v (maps q) c w t (ap v.state u ∙ e)
  apart_one (with_value c w) t s e = λ u. not_one o v (maps q) c w t.0 (ap v.state u ∙ e)
  apart_one (with_low c w) t s e = λ u. not_one o v (maps q) c w t.0 (ap v.state u ∙ e)
  apart_one (with_high c w) t s e = λ u. not_one o v (maps q) c w t.0 (ap v.state u ∙ e)
  apart_one g' t s e = tt

  module _ (now : ℕ) where
    -- the load of the root, where r is the number of updates that were placed by then
    pub root_step : (k : ℕ) → r ≡ q → LookInvariant o v maps q g now r (at_version k)
    root_step k e = record { since = omega arith; risen = omega arith; within = tt; facts = λ z. tt }

    pub count_step : (k : ℕ) → 0 < o.slots → LookInvariant o v maps q g now r (at_version k) → LookInvariant o v maps q g now r (at_state k now 0)
    count_step k l z = record { since = z.since; risen = omega arith; within = l; facts = λ e. inr (inl (λ s x. omega arith)) }

    pub state_step : (k c i x : ℕ) → x ≡ v.state (o.probe k i) → LookInvariant o v maps q g now r (at_state k c i) → LookInvariant o v maps q g now r (after_state o k c i x)
    state_step k c i x fits z = let P : Bool → Bool → Type 0 = λ a b. LookInvariant o v maps q g now r (cond a (checking_absence k c) (cond b (at_low k c i) (passed o k c i))) in
        dite (ℕ_discrete x 0)
        (λ (e : x ≡ 0). subst (λ (a : Bool). P a (x == 1)) (sym (eq-eqb x 0 e)) record { since = z.since; risen = z.risen; within = tt; facts = λ u. absent_at z.since k i z.within (sym fits ∙ e) (z.facts u) })
        (λ (n : x ≢ 0). subst (λ (a : Bool). P a (x == 1)) (sym (ne_eqb x 0 n)) (dite (ℕ_discrete x 1)
        (λ (e : x ≡ 1). subst (P false) (sym (eq-eqb x 1 e)) (let full : v.state (o.probe k i) ≡ 1 = sym fits ∙ e in record {
          since = z.since;
          risen = z.risen;
          within = z.within;
          facts = λ u. record {
            ahead = z.facts u;
            stable = record { state = λ y. absurd (omega arith); apart = apart_one g h.knows (o.probe k i) full };
            justified = λ a b. comes z.since k i z.within record { inside = ok.within k i z.within; full = full; is_low = a; is_high = b } (z.facts u);
          };
        }))
        (λ (d : x ≢ 1). subst (P false) (sym (ne_eqb x 1 d)) (passes now k c i z.since z.risen z.within (λ u. ((λ y. d (fits ∙ y.full)), z.facts u))))))

    pub low_step : (k c i l : ℕ) → l ≡ v.low (o.probe k i) → LookInvariant o v maps q g now r (at_low k c i) → LookInvariant o v maps q g now r (at_high k c i l)
    low_step k c i l fits z = record { since = z.since; risen = z.risen; within = z.within; facts = λ u. (z.facts u, fits) }

    pub high_step : (k c i l x : ℕ) → x ≡ v.high (o.probe k i) → LookInvariant o v maps q g now r (at_high k c i l) → LookInvariant o v maps q g now r (after_high o k c i l x)
    high_step k c i l x fits z = let P : Bool → Bool → Type 0 = λ a b. LookInvariant o v maps q g now r (cond a (cond b (at_value k c i) (passed o k c i)) (passed o k c i)) in
        dite (ℕ_discrete l (o.low_of k))
        (λ (e : l ≡ o.low_of k). subst (λ (a : Bool). P a (x == o.high_of k)) (sym (eq-eqb l (o.low_of k) e)) (dite (ℕ_discrete x (o.high_of k))
        (λ (d : x ≡ o.high_of k). subst (P true) (sym (eq-eqb x (o.high_of k) d)) record {
          since = z.since;
          risen = z.risen;
          within = z.within;
          facts = λ u. let y = z.facts u in let a = sym y.1 ∙ e in let b = sym fits ∙ d in record { stable = y.0.stable; is_low = a; is_high = b; justified = y.0.justified a b };
        })
        (λ (d : x ≢ o.high_of k). subst (P true) (sym (ne_eqb x (o.high_of k) d)) (passes now k c i z.since z.risen z.within (λ u. ((λ y. d (fits ∙ y.is_high)), (z.facts u).0.ahead))))))
        (λ (n : l ≢ o.low_of k). subst (λ (a : Bool). P a (x == o.high_of k)) (sym (ne_eqb l (o.low_of k) n)) (passes now k c i z.since z.risen z.within (λ u. ((λ y. n ((z.facts u).1 ∙ y.is_low)), (z.facts u).0.ahead))))

    pub value_step : (k c i x : ℕ) → x ≡ v.value (o.probe k i) → LookInvariant o v maps q g now r (at_value k c i) → LookInvariant o v maps q g now r (checking_value k c x)
    value_step k c i x fits z = record { since = z.since; risen = z.risen; within = tt; facts = λ u. subst (λ (y : ℕ). IsSince maps r q k (suc y)) (sym fits) (z.facts u).justified }

    -- where the second load of the counter gives the number of the first, the map gave the answer at a moment since the root was loaded
    pub answers_found : (k c x : ℕ) → LookInvariant o v maps q g now r (checking_value k c x) → c ≡ now → IsSince maps r q k (suc x)
    answers_found k c x z e = z.facts e

    pub answers_absent : (k c : ℕ) → LookInvariant o v maps q g now r (checking_absence k c) → c ≡ now → IsSince maps r q k 0
    answers_absent k c z e = z.facts e

    -- and else the number is a greater one
    pub again : (look_state : LookState) → LookInvariant o v maps q g now r look_state → counted now look_state ≢ now → counted now look_state < now
    again look_state z n = let a = z.risen in omega arith
