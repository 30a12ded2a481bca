-- The way from the root down to a node that is free whole.
use Rattle.std.proofs.Common.{◌≡◌, ◌≢◌, ℕ, zero, suc, ◌+◌, ◌-◌, ◌*◌, ◌/◌, ◌%◌, ◌^◌, ◌<◌, ◌≤◌, List, length, slice_index, arith, sym, ap, subst, ◌∙◌, refl}
use Rattle.std.proofs.lemmas.Bool.Decides.{nat_tests}
use Rattle.std.proofs.lemmas.Nat.{pow_pos}
use Rattle.std.proofs.Math.Nat.{pow-suc, mul-le-mul_right, le-mul_of_pos_right, pow-le-pow_right, mod-eq_of_lt}
use Rattle.ck_words.specs.Tree.{joined_halvings, IsConsistentAt, IsConsistent, NoneOutFrom}
use Rattle.ck_words.proofs.Ancestors.{ancestor-le, whole_half}

-- what holds each time the loop begins: the node has a free range of the length in question, and neither it nor any above it is out
pub record IsDescending (h : List ℕ) (depth node spare : ℕ) : Type 0 where
  pub positive : 1 ≤ node
  pub spare_le : spare ≤ depth
  pub from : 2 ^ depth ≤ node * 2 ^ spare
  pub to : (node + 1) * 2 ^ spare ≤ 2 * 2 ^ depth
  pub fits : slice_index h node ≤ spare
  pub path : NoneOutFrom h node
  -- where the whole arena is free, it has gone nowhere
  pub stays : slice_index h 1 ≡ 0 → (node ≡ 1) × (spare ≡ depth)

pub joined_fits : (left right spare : ℕ) → spare < 24 → joined_halvings left right ≢ 0 → joined_halvings left right ≤ spare + 1 → spare < left → right ≤ spare
joined_fits left right spare small cut fits over = grind (arith, nat_tests)

-- where a node that isn't free whole has room and its left half hasn't, its right half has
pub right_fits : (h : List ℕ) (i spare : ℕ) → IsConsistentAt h i → 2 * i + 1 < length h → spare < 24 → slice_index h i ≢ 0 → slice_index h i ≤ spare + 1 → spare < slice_index h (2 * i) → slice_index h (2 * i + 1) ≤ spare
right_fits h i spare at inner small cut fits over =
    let ne_out : slice_index h i ≢ 26 = λ e. omega (arith, e, fits, small) in
    let is = at.joined inner ne_out in
    joined_fits (slice_index h (2 * i)) _ spare small (λ e. cut (is ∙ e)) (subst (λ n. n ≤ spare + 1) is fits) over

pub descending-init : (h : List ℕ) (depth : ℕ) → depth ≤ 24 → slice_index h 1 ≤ depth → IsDescending h depth 1 depth
descending-init h depth deep fits =
    record {
      positive = omega arith;
      spare_le = omega arith;
      from = omega arith;
      to = omega arith;
      fits = fits;
      path = path;
      stays = λ _. (refl, refl);
    }
  where
    path : NoneOutFrom h 1
    path zero positive is_out = omega (arith, is_out, fits, deep)
    path (suc up) positive is_out = absurd (let le = ancestor-le up 0 in omega (arith, le, positive))

path_next : (h : List ℕ) (next : ℕ) → slice_index h next ≢ 26 → NoneOutFrom h (next / 2) → NoneOutFrom h next
path_next h next is path zero in_tree = is
path_next h next is path (suc up) in_tree = path up in_tree

wide_enough : (n p : ℕ) → 0 < p → n + 1 ≤ (n + 1) * p
wide_enough n p positive = le-mul_of_pos_right (n + 1) positive

module _ (h : List ℕ) (depth node spare : ℕ) (was : IsDescending h depth node spare) (more : 0 < spare) (tall : 2 * 2 ^ depth ≤ length h) where
  halved : 2 ^ spare ≡ 2 ^ (spare - 1) * 2
  halved = let e : spare ≡ suc (spare - 1) = omega arith in ap (λ n. 2 ^ n) e ∙ pow-suc 2 (spare - 1)

  pub descending-inner : 2 * node + 1 < length h
  descending-inner =
      let to = was.to in
      let half = halved in
      let positive = pow_pos (spare - 1) in
      let wide = wide_enough node (2 ^ (spare - 1)) positive in
      let whole : (node + 1) * (2 ^ (spare - 1) * 2) ≤ 2 * 2 ^ depth = rw half at to in
      omega (arith, wide, whole, tall)

  pub descending-step : (next : ℕ) → next / 2 ≡ node → slice_index h node ≢ 0 → slice_index h next ≤ spare - 1 → depth ≤ 24 → IsDescending h depth next (spare - 1)
  descending-step next half_is cut fits deep =
      let positive = was.positive in
      let spare_le = was.spare_le in
      let from : 2 ^ depth ≤ node * (2 ^ (spare - 1) * 2) = rw halved at was.from in
      let to : (node + 1) * (2 ^ (spare - 1) * 2) ≤ 2 * 2 ^ depth = rw halved at was.to in
      let least : (2 * node) * 2 ^ (spare - 1) ≤ next * 2 ^ (spare - 1) = mul-le-mul_right (2 ^ (spare - 1)) (omega arith) in
      let most : (next + 1) * 2 ^ (spare - 1) ≤ (2 * node + 2) * 2 ^ (spare - 1) = mul-le-mul_right (2 ^ (spare - 1)) (omega arith) in
      record {
        positive = omega arith;
        spare_le = omega arith;
        from = omega arith;
        to = omega arith;
        fits = fits;
        path = path_next h next (λ e. omega (arith, e, fits, spare_le, deep)) (subst (NoneOutFrom h) (sym half_is) was.path);
        stays = λ whole. absurd (cut (ap (slice_index h) (was.stays whole).0 ∙ whole));
      }

doubled_node : (node p : ℕ) → (2 * node) * p ≡ node * (p * 2)
doubled_node node p = omega arith

half_of_double : (node : ℕ) → (2 * node) / 2 ≡ node
half_of_double node = omega arith

-- the first of the nodes a number of levels below a node that is free whole
pub first_below : (h : List ℕ) (below node : ℕ) → IsConsistent h → length h % 2 ≡ 0 → 1 ≤ node → (node + 1) * 2 ^ below ≤ length h → slice_index h node ≡ 0 → NoneOutFrom h node → (slice_index h (node * 2 ^ below) ≡ 0) × NoneOutFrom h (node * 2 ^ below)
first_below h zero node consistent even positive within whole path =
    let same : node ≡ node * 2 ^ 0 = omega arith in
    subst (λ i. (slice_index h i ≡ 0) × NoneOutFrom h i) same (whole, path)
first_below h (suc below) node consistent even positive within whole path =
    let wide = wide_enough node (2 ^ below) (pow_pos below) in
    let within' : (node + 1) * (2 ^ below * 2) ≤ length h = rw (pow-suc 2 below) at within in
    let in_tree : 2 * node < length h = omega arith in
    let room : (2 * node + 1) * 2 ^ below ≤ length h = omega arith in
    let above : slice_index h (2 * node / 2) ≡ 0 = ap (slice_index h) (half_of_double node) ∙ whole in
    let is = whole_half h consistent even (2 * node) (omega arith) in_tree above in
    let on_path = path_next h (2 * node) (λ e. omega (arith, e, is)) (subst (NoneOutFrom h) (sym (half_of_double node)) path) in
    let same : (2 * node) * 2 ^ below ≡ node * 2 ^ suc below = doubled_node node (2 ^ below) ∙ ap (λ p. node * p) (sym (pow-suc 2 below)) in
    subst (λ i. (slice_index h i ≡ 0) × NoneOutFrom h i) same (first_below h below (2 * node) consistent even (omega arith) room is on_path)

-- where the loop ends, the first of the nodes below in the row in question is free whole
pub descending-end : (h : List ℕ) (depth node spare : ℕ) → IsDescending h depth node spare → IsConsistent h → length h % 2 ≡ 0 → depth ≤ 24 → 2 * 2 ^ depth ≤ length h → slice_index h node ≡ 0 → (slice_index h (node * 2 ^ spare % 2 ^ 64) ≡ 0) × NoneOutFrom h (node * 2 ^ spare % 2 ^ 64)
descending-end h depth node spare was consistent even deep tall whole =
    let to = was.to in
    let positive = pow_pos spare in
    let bound : 2 ^ depth ≤ 2 ^ 24 = pow-le-pow_right {n = 2} (omega arith) deep in
    let small : node * 2 ^ spare < 2 ^ 64 = omega arith in
    let room : (node + 1) * 2 ^ spare ≤ length h = omega arith in
    rw (mod-eq_of_lt small) (first_below h spare node consistent even was.positive room whole was.path)

-- and where the whole arena is free, it is the first of that row
pub descending-stays : (h : List ℕ) (depth node spare : ℕ) → IsDescending h depth node spare → depth ≤ 24 → slice_index h 1 ≡ 0 → node * 2 ^ spare % 2 ^ 64 ≡ 2 ^ depth
descending-stays h depth node spare was deep whole =
    let at = was.stays whole in
    let bound : 2 ^ depth ≤ 2 ^ 24 = pow-le-pow_right {n = 2} (omega arith) deep in
    let small : 1 * 2 ^ depth < 2 ^ 64 = omega arith in
    (λ i. at.0 i * 2 ^ at.1 i % 2 ^ 64) ∙ (mod-eq_of_lt small ∙ one (2 ^ depth))
  where
    one : (n : ℕ) → 1 * n ≡ n
    one n = omega arith
