-- Where a pair goes in a region that is being built, and what the writer is about to do then.
use Rattle.std.proofs.Common.{◌≡◌, ◌≢◌, ℕ, zero, suc, ◌+◌, ◌-◌, ◌*◌, ◌/◌, ◌%◌, ◌^◌, ◌<◌, ◌≤◌, Bool, true, cond, nat_le, eq-eqb, ne_eqb, refl, sym, ap, ◌∙◌, subst, arith}
use Rattle.std.specs.Prelude.{Some, None}
use Rattle.std.proofs.lemmas.Bool.Decides.{nat_tests}
use Rattle.std.proofs.Math.Nat.{pow-le-pow_right}
use mathlib.Core.Logic.{dite}
use native.Mathlib.Decide.{ℕ_discrete}
use Rattle.ck_slots.specs.Slots.{Order, IsOrder, SlotsView, Holds, HasState, IsFirst}
use Rattle.ck_slots.specs.Counting.{count as how_many, used}
use Rattle.ck_slots.proofs.Counts.{count_mono, one_empty}
use Rattle.ck_htplan.specs.declared.cases.Plan.TheVariants.{Empty}
use Rattle.ck_htplan.specs.Planning.{plan_of}
use Rattle.ck_htplan.proofs.Walking.{plan_is}
use Rattle.ck_htplan.specs.Deciding.{next_full}

-- the plan of a key that no slot holds, where there is no tombstone
pub plan_empty : (o : Order) → IsOrder o → (v : SlotsView) (k at : ℕ) → IsFirst o k (HasState v 0) at → ((t : ℕ) → Holds o v k t → ⊥) → ((t : ℕ) → t < o.slots → v.state t ≢ 2) → plan_of o v k ≡ Empty at
plan_empty o ok v k at first absent no_tombstone = sym (plan_is o ok v k at first.inside first.here (Empty at) (at, first, (refl, (λ t b x. absent t x), (λ t b z. no_tombstone t b.inside z))))

-- the next full slot
pub next_is : (f : ℕ → ℕ) (n j i : ℕ) → j ≤ i → i < j + n → ((s : ℕ) → j ≤ s → s < i → f s ≢ 1) → f i ≡ 1 → next_full f n j ≡ Some i
next_is f zero j i from to none full = absurd (omega arith)
next_is f (suc n) j i from to none full = dite (ℕ_discrete j i)
    (λ (e : j ≡ i). ap (λ (b : Bool). cond b (Some j) (next_full f n (suc j))) (eq-eqb (f j) 1 (ap f e ∙ full)) ∙ ap (λ (k : ℕ). Some k) e)
    (λ (d : j ≢ i). ap (λ (b : Bool). cond b (Some j) (next_full f n (suc j))) (ne_eqb (f j) 1 (none j (omega arith) (omega arith)))
    ∙ next_is f n (suc j) i (omega arith) (omega arith) (λ s a b. none s (omega arith) b) full)

-- no further one is full
pub next_none : (f : ℕ → ℕ) (n j : ℕ) → ((s : ℕ) → j ≤ s → s < j + n → f s ≢ 1) → next_full f n j ≡ None
next_none f zero j none = refl
next_none f (suc n) j none = ap (λ (b : Bool). cond b (Some j) (next_full f n (suc j))) (ne_eqb (f j) 1 (none j (omega arith) (omega arith))) ∙ next_none f n (suc j) (λ s a b. none s (omega arith) (omega arith))

-- the key of two words
pub key_low : (low high : ℕ) → low < 2 ^ 64 → (low + 2 ^ 64 * high) % 2 ^ 64 ≡ low
key_low low high small = omega arith

pub key_high : (low high : ℕ) → low < 2 ^ 64 → (low + 2 ^ 64 * high) / 2 ^ 64 ≡ high
key_high low high small = omega arith

pub le_true : (m n : ℕ) → m ≤ n → nat_le m n ≡ true
le_true m n h = grind (arith, nat_tests)

-- some slot of the new region is empty still
pub some_empty : (f h : ℕ → ℕ) (i m n : ℕ) → i < m → used h n ≡ how_many f 1 i → how_many f 1 m + 2 ≤ n → (e : ℕ) × (e < n) × (h e ≡ 0)
some_empty f h i m n few many room =
    let a : how_many f 1 i ≤ how_many f 1 m = subst (λ (k : ℕ). how_many f 1 i ≤ how_many f 1 k) (let z : m - i + i ≡ m = omega arith in z) (count_mono f 1 (m - i) i) in
    one_empty h n (omega arith)

pub small_slot : (at c : ℕ) → at < 2 ^ c → c ≤ 19 → at < 524288
small_slot at c low few = let two : 0 < 2 = omega arith in let p : 2 ^ c ≤ 2 ^ 19 = pow-le-pow_right two few in omega arith
