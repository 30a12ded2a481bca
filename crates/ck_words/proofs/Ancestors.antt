-- The nodes above a node, and a node that is free whole.
use Rattle.std.proofs.Common.{◌≡◌, ◌≢◌, ℕ, zero, suc, ◌+◌, ◌*◌, ◌/◌, ◌%◌, ◌^◌, ◌<◌, ◌≤◌, inl, inr, List, length, slice_index, arith, sym, ap, subst, ◌∙◌}
use Rattle.std.proofs.lemmas.Bool.{cases_eq}
use Rattle.std.proofs.lemmas.Bool.Decides.{nat_tests}
use Rattle.std.proofs.Math.Nat.{pow-suc}
use Rattle.ck_words.specs.Tree.{joined_halvings, IsConsistentAt, IsConsistent, NoneOutFrom, ancestor}

pub ancestor-le : (up i : ℕ) → ancestor up i ≤ i
ancestor-le zero i = omega arith
ancestor-le (suc up) i = let above = ancestor-le up (i / 2) in omega arith

pub ancestor-ancestor : (more up i : ℕ) → ancestor more (ancestor up i) ≡ ancestor (up + more) i
ancestor-ancestor more zero i =
    let same : more ≡ 0 + more = omega arith in
    ap (λ n. ancestor n i) same
ancestor-ancestor more (suc up) i =
    let same : suc (up + more) ≡ suc up + more = omega arith in
    ancestor-ancestor more up (i / 2) ∙ ap (λ n. ancestor n i) same

twice_from : (a p i : ℕ) → a * p ≤ i / 2 → a * (p * 2) ≤ i
twice_from a p i h = omega arith

half_from : (a p i : ℕ) → a * (p * 2) ≤ i → a * p ≤ i / 2
half_from a p i h = omega arith

twice_to : (a p i : ℕ) → i / 2 < (a + 1) * p → i < (a + 1) * (p * 2)
twice_to a p i h = omega arith

half_to : (a p i : ℕ) → i < (a + 1) * (p * 2) → i / 2 < (a + 1) * p
half_to a p i h = omega arith

-- a node stands at or below another where its number lies in the other's range
pub ancestor-from : (up i : ℕ) → ancestor up i * 2 ^ up ≤ i
ancestor-from zero i = omega arith
ancestor-from (suc up) i = rw (pow-suc 2 up) (twice_from (ancestor up (i / 2)) (2 ^ up) i (ancestor-from up (i / 2)))

pub ancestor-to : (up i : ℕ) → i < (ancestor up i + 1) * 2 ^ up
ancestor-to zero i = omega arith
ancestor-to (suc up) i = rw (pow-suc 2 up) (twice_to (ancestor up (i / 2)) (2 ^ up) i (ancestor-to up (i / 2)))

pub ancestor-is : (up i above : ℕ) → above * 2 ^ up ≤ i → i < (above + 1) * 2 ^ up → ancestor up i ≡ above
ancestor-is zero i above from to = omega arith
ancestor-is (suc up) i above from to =
    ancestor-is up (i / 2) above (half_from above (2 ^ up) i (rw (pow-suc 2 up) at from)) (half_to above (2 ^ up) i (rw (pow-suc 2 up) at to))

pub joined_whole : (left right : ℕ) → joined_halvings left right ≡ 0 → (left ≡ 0) × (right ≡ 0)
joined_whole left right whole = (grind (arith, nat_tests), grind (arith, nat_tests))

pub halves_whole : (h : List ℕ) (i : ℕ) → IsConsistentAt h i → 2 * i + 1 < length h → slice_index h i ≡ 0 → (slice_index h (2 * i) ≡ 0) × (slice_index h (2 * i + 1) ≡ 0)
halves_whole h i at inner whole = joined_whole _ _ (sym (at.joined inner (λ e. omega (arith, e, whole))) ∙ whole)

-- a half of a node is one of its two halves
half_of : (h : List ℕ) (i : ℕ) → slice_index h (2 * (i / 2)) ≡ 0 → slice_index h (2 * (i / 2) + 1) ≡ 0 → slice_index h i ≡ 0
half_of h i left right =
    elim (cases_eq (i % 2) 0) [
      | inl is_even ↦ let same : i ≡ 2 * (i / 2) = omega arith in ap (slice_index h) same ∙ left
      | inr is_odd ↦ let same : i ≡ 2 * (i / 2) + 1 = omega arith in ap (slice_index h) same ∙ right
    ]

-- the node above a node is the last of its ancestors
pub ancestor-last : (up i : ℕ) → ancestor up i / 2 ≡ ancestor (suc up) i
ancestor-last up i = let same : up + 1 ≡ suc up = omega arith in ancestor-ancestor 1 up i ∙ ap (λ n. ancestor n i) same

module _ (h : List ℕ) (consistent : IsConsistent h) (even : length h % 2 ≡ 0) where
  -- the halves of a node that is free whole are free whole
  pub whole_half : (i : ℕ) → 1 < i → i < length h → slice_index h (i / 2) ≡ 0 → slice_index h i ≡ 0
  whole_half i below_root within whole =
      let halves = halves_whole h (i / 2) (consistent (i / 2) (omega arith) (omega arith)) (omega arith) whole in
      half_of h i halves.0 halves.1

  -- and those of a node that is out are as if free
  pub out_half : (i : ℕ) → 1 < i → i < length h → slice_index h (i / 2) ≡ 26 → slice_index h i ≡ 0
  out_half i below_root within is_out =
      let at = consistent (i / 2) (omega arith) (omega arith) in
      let halves = at.out (omega arith) is_out in
      half_of h i halves.0 halves.1

  -- all nodes below a node that is free whole are free whole
  pub whole_below : (up i : ℕ) → 1 ≤ ancestor up i → i < length h → slice_index h (ancestor up i) ≡ 0 → slice_index h i ≡ 0
  whole_below zero i positive within whole = whole
  whole_below (suc up) i positive within whole =
      let above_le = ancestor-le up (i / 2) in
      let positive' : 1 ≤ ancestor up (i / 2) = positive in
      whole_half i (omega arith) within (whole_below up (i / 2) positive (omega arith) whole)

  -- no node below one that is out is out
  pub none_below_out : (up i : ℕ) → 1 ≤ ancestor (suc up) i → i < length h → slice_index h (ancestor (suc up) i) ≡ 26 → slice_index h i ≢ 26
  none_below_out up i positive within above is_out =
      let last = ancestor-last up i in
      let least = ancestor-le up i in
      let parent_positive : 1 ≤ ancestor up i / 2 = subst (λ n. 1 ≤ n) (sym last) positive in
      let below_root : 1 < ancestor up i = omega arith in
      let half = out_half (ancestor up i) below_root (omega arith) (ap (slice_index h) last ∙ above) in
      let whole = whole_below up i (omega arith) within half in
      omega (arith, whole, is_out)

  -- so no node above one that is out is out
  pub none_above_out : (i : ℕ) → i < length h → slice_index h i ≡ 26 → NoneOutFrom h (i / 2)
  none_above_out i within is_out up positive above = none_below_out up i positive within above is_out
