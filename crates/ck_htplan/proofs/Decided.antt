-- What is decided by the plan is right of slots that stand for a map.
use Rattle.std.proofs.Common.{◌≡◌, ◌≢◌, ℕ, zero, suc, ◌+◌, ◌*◌, ◌<◌, ◌≤◌, Bool, true, false, cond, nat_le, nat_lt, ◌==◌, refl, sym, ap, ◌∙◌, arith, eq-eqb, ne_eqb}
use mathlib.Core.Logic.{dite}
use native.Mathlib.Decide.{ℕ_discrete}
use Rattle.std.proofs.lemmas.Bool.Decides.{nat_tests}
use Rattle.std.specs.Prelude.{Option, Some, None}
use Rattle.ck_history.specs.declared.update.Update.{Update}
use Rattle.ck_history.specs.declared.update.Update.TheVariants.{Set, Put, Del, Tidy}
use Rattle.ck_slots.specs.Slots.{Order, IsOrder, SlotsView, Holds}
use Rattle.ck_slots.specs.Standing.{single, Pairs}
use Rattle.ck_slots.specs.Holding.{IsHeld}
use Rattle.ck_slots.specs.Counting.{rebuilt_log}
use Rattle.ck_slots.proofs.Counts.{another_empty, used_parts}
use Rattle.ck_htplan.specs.declared.cases.Plan.{Plan}
use Rattle.ck_htplan.specs.declared.cases.Plan.TheVariants.{Empty, Reuse, Stand, Move}
use Rattle.ck_htplan.specs.Planning.{plan_of}
use Rattle.ck_htplan.specs.Deciding.{Decision, adds, moves, stays, rebuilds, next_full, keys, tombstones, into_empty, to_set, to_put, to_remove, decide, key_of, IsDecided}
use Rattle.ck_htplan.proofs.Says.{Says, says}

yes_le : (a b : ℕ) → nat_le a b ≡ true → a ≤ b
yes_le a b h = grind (arith, nat_tests)

module _ (o : Order) (ok : IsOrder o) (v : SlotsView) (m : Pairs) (h : IsHeld o v single m) (states : (s : ℕ) → s < o.slots → v.state s ≤ 2) where
  pub absent : (k : ℕ) → ((t : ℕ) → Holds o v k t → ⊥) → m k ≡ None
  absent k none = go (m k) refl
    where
      go : (r : Option ℕ) → m k ≡ r → m k ≡ None
      go None e = e
      go (Some x) e = let y = h.stands k x e in absurd (none y.0 y.1)

  pub plan_says : (k : ℕ) → Says o v k (plan_of o v k)
  plan_says k = says o ok v k (λ s t x b l. h.way k s t x record { inside = b; earlier = l }) h.hole.0 h.hole.1 h.hole.2

  other_hole : (s : ℕ) → v.state s ≡ 2 → (e : ℕ) × (e < o.slots) × (e ≢ s) × (v.state e ≡ 0)
  other_hole s two = (h.hole.0, h.hole.1, (λ e. let a = ap v.state e in let b = h.hole.2 in absurd (omega arith)), h.hole.2)

  module _ (most c k : ℕ) where
    if : (b : Bool) (a d : Decision) → (b ≡ true → IsDecided o v m k a) → (b ≡ false → IsDecided o v m k d) → IsDecided o v m k (cond b a d)
    if true a d x y = x refl
    if false a d x y = y refl

    -- where no rebuild is due, another slot is empty
    empties : (s : ℕ) → Says o v k (Empty s) → IsDecided o v m k (into_empty most c o v s)
    empties s x = if (nat_le (4 * (keys most c o v + tombstones most c o v + 1)) (3 * o.slots)) (adds s) (rebuilds (rebuilt_log c (keys most c o v)))
        (λ rule. let r = yes_le (4 * (keys most c o v + tombstones most c o v + 1)) (3 * o.slots) rule in let u = used_parts v.state o.slots states in let b = x.1 in
        (record { inside = x.0; not_full = λ e. absurd (omega arith); way = λ t p z. x.2 t p.inside p.earlier z; other = another_empty v.state s o.slots (omega arith) }, absent k x.3))
        (λ _. tt)

    reuses : (s : ℕ) → Says o v k (Reuse s) → IsDecided o v m k (adds s)
    reuses s x = let b = x.1 in (record { inside = x.0; not_full = λ e. absurd (omega arith); way = λ t p z. x.2 t p.inside p.earlier z; other = other_hole s x.1 }, absent k x.3)

    moving : (t s : ℕ) → Says o v k (Move t s) → IsDecided o v m k (moves t s)
    moving t s x = let b = x.1 in (
      record { inside = x.0; not_full = λ e. absurd (omega arith); way = λ u p z. h.way k s u x.2 record { inside = p.inside; earlier = let a = p.earlier in let d = x.3 in omega arith } z; other = other_hole t x.1 },
      x.2,
      x.3,
    )

    sets : (p : Plan) → Says o v k p → IsDecided o v m k (to_set most c o v p)
    sets (Empty s) x = if (nat_lt (keys most c o v) most) (into_empty most c o v s) stays (λ _. empties s x) (λ _. tt)
    sets (Reuse s) x = if (nat_lt (keys most c o v) most) (adds s) stays (λ _. reuses s x) (λ _. tt)
    sets (Stand s) x = x
    sets (Move t s) x = moving t s x

    puts : (p : Plan) → Says o v k p → IsDecided o v m k (to_put most c o v p)
    puts (Empty s) x = if (nat_lt (keys most c o v) most) (into_empty most c o v s) stays (λ _. empties s x) (λ _. tt)
    puts (Reuse s) x = if (nat_lt (keys most c o v) most) (adds s) stays (λ _. reuses s x) (λ _. tt)
    puts (Stand s) x = tt
    puts (Move t s) x = tt

    takes : (p : Plan) → Says o v k p → IsDecided o v m k (to_remove most c o v p)
    takes (Empty s) x = tt
    takes (Reuse s) x = tt
    takes (Stand s) x = x
    takes (Move t s) x = x.2

  pub decided : (most c : ℕ) (u : Update ℕ) → IsDecided o v m (key_of u) (decide most c o v u)
  decided most c (Set key value) = sets most c key (plan_of o v key) (plan_says key)
  decided most c (Put key value) = puts most c key (plan_of o v key) (plan_says key)
  decided most c (Del key) = takes most c key (plan_of o v key) (plan_says key)
  decided most c Tidy = if most c 0 (tombstones most c o v == 0) stays (rebuilds c) (λ _. tt) (λ _. tt)

-- the first full slot
pub record IsNext (f : ℕ → ℕ) (j i : ℕ) : Type 0 where
  pub from : j ≤ i
  pub full : f i ≡ 1
  pub none : (s : ℕ) → j ≤ s → s < i → f s ≢ 1

pub next_is : (f : ℕ → ℕ) (n j i : ℕ) → next_full f n j ≡ Some i → IsNext f j i × (i < n + j)
next_is f zero j i e = absurd (let z : None ≡ Some i = e in cc)
next_is f (suc n) j i e = dite (ℕ_discrete (f j) 1)
    (λ (y : f j ≡ 1). let z : Some j ≡ Some i = sym (ap (λ (b : Bool). cond b (Some j) (next_full f n (suc j))) (eq-eqb (f j) 1 y)) ∙ e in
    let same : j ≡ i = cc in (record { from = omega arith; full = ap f (sym same) ∙ y; none = λ s a b. absurd (omega arith) }, omega arith))
    (λ (y : f j ≢ 1). let r = next_is f n (suc j) i (sym (ap (λ (b : Bool). cond b (Some j) (next_full f n (suc j))) (ne_eqb (f j) 1 y)) ∙ e) in let a = r.0.from in let low = r.1 in
    (record { from = omega arith; full = r.0.full; none = λ s b c. dite (ℕ_discrete s j) (λ (z : s ≡ j). λ d. y (ap f (sym z) ∙ d)) (λ (z : s ≢ j). r.0.none s (omega arith) c) }, omega arith))

pub next_none : (f : ℕ → ℕ) (n j : ℕ) → next_full f n j ≡ None → (s : ℕ) → j ≤ s → s < n + j → f s ≢ 1
next_none f zero j e s a b = absurd (omega arith)
next_none f (suc n) j e s a b = dite (ℕ_discrete (f j) 1)
    (λ (y : f j ≡ 1). absurd (let z : Some j ≡ None = sym (ap (λ (b : Bool). cond b (Some j) (next_full f n (suc j))) (eq-eqb (f j) 1 y)) ∙ e in cc))
    (λ (y : f j ≢ 1). dite (ℕ_discrete s j) (λ (z : s ≡ j). λ d. y (ap f (sym z) ∙ d))
    (λ (z : s ≢ j). next_none f n (suc j) (sym (ap (λ (b : Bool). cond b (Some j) (next_full f n (suc j))) (ne_eqb (f j) 1 y)) ∙ e) s (omega arith) (omega arith)))
