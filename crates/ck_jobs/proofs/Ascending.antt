-- How many numbers in ascending order there are from one number to another.
use Rattle.std.proofs.Common.{◌≡◌, ℕ, suc, ◌-◌, ◌<◌, ◌≤◌, List, [], ◌∷◌, length, subst, arith}
use Rattle.std.specs.Prelude.{All}
use Rattle.std.proofs.lemmas.List.Elements.{All-head, All-tail, All-nil, All-cons}
use Rattle.std.proofs.lemmas.Map.Views.{All-after_first}
use Rattle.std.proofs.lemmas.Map.Keys.{sorted_tail}
use Rattle.std.specs.Ordering.{nat_cmp, MatchOrdering}
use Rattle.std.specs.declared.cmp.Ordering.{Ordering}
use Rattle.std.specs.declared.cmp.Ordering.TheVariants.{Less}
use Rattle.std.specs.Cmp.{ranks}
use Rattle.std.specs.List.Sorted.{IsStrictlySortedBy}

Less-lt : (x y : ℕ) → nat_cmp x y ≡ Less → x < y
Less-lt x y less = subst (λ (r : Ordering). MatchOrdering r (x < y) (x ≡ y) (y < x)) less (ranks x y)

abbrev IsBetween : ℕ → ℕ → ℕ → Type 0
IsBetween low high k = (low ≤ k) × (k ≤ high)

all_above : (low high x : ℕ) (ks : List ℕ) → All (λ y. nat_cmp x y ≡ Less) ks → All (IsBetween low high) ks → All (IsBetween (suc x) high) ks
all_above low high x [] less within = All-nil (IsBetween (suc x) high)
all_above low high x (k ∷ ks) less within =
    let lt = Less-lt x k (All-head (λ y. nat_cmp x y ≡ Less) k ks less) in
    let here = All-head (IsBetween low high) k ks within in
    let to = here.1 in
    All-cons (IsBetween (suc x) high) k ks (omega arith, to) (all_above low high x ks (All-tail (λ y. nat_cmp x y ≡ Less) k ks less) (All-tail (IsBetween low high) k ks within))

pub length_ascending : (low high : ℕ) (ks : List ℕ) → IsStrictlySortedBy nat_cmp ks → All (λ k. (low ≤ k) × (k ≤ high)) ks → length ks ≤ suc high - low
length_ascending low high [] sorted within = omega arith
length_ascending low high (k ∷ ks) sorted within =
    let more = length_ascending (suc k) high ks (sorted_tail nat_cmp k ks sorted) (all_above low high k ks (All-after_first nat_cmp k ks sorted) (All-tail (IsBetween low high) k ks within)) in
    let here = All-head (IsBetween low high) k ks within in
    let from = here.0 in
    let to = here.1 in
    omega arith
