-- The loop that counts the nodes above a changed node anew.
use Rattle.std.proofs.Common.{◌≡◌, ◌≢◌, ℕ, zero, suc, ◌+◌, ◌-◌, ◌*◌, ◌/◌, ◌%◌, ◌<◌, ◌≤◌, inl, inr, List, length, set, slice_index, arith, sym, ap, subst, ◌∙◌, length-set, get_or-set_other, get_or-set_same}
use Rattle.std.proofs.lemmas.Grind.{get_or-set_at}
use Rattle.std.proofs.lemmas.Bool.{cases_eq}
use Rattle.std.proofs.lemmas.Bool.Decides.{nat_tests}
use Rattle.ck_words.specs.Tree.{joined_halvings, IsConsistentAt, IsConsistentBut, IsConsistent, NoneOutFrom, SameOut, ancestor}
use Rattle.ck_words.proofs.Ancestors.{ancestor-le}

-- what holds each time the loop begins: the node has the value, and all nodes but the one above it are consistent
pub record IsRising (old halvings : List ℕ) (node known : ℕ) : Type 0 where
  pub above_root : 1 ≤ node
  pub in_tree : node < length halvings
  pub even : length halvings % 2 ≡ 0
  pub value : known ≡ slice_index halvings node
  pub others : IsConsistentBut halvings (node / 2)
  pub path : NoneOutFrom halvings (node / 2)
  pub out : SameOut old halvings

pub joined-ne_out : (left right : ℕ) → joined_halvings left right ≢ 26
joined-ne_out left right = grind (arith, nat_tests)

pub joined_comm : (left right : ℕ) → joined_halvings left right ≡ joined_halvings right left
joined_comm left right = grind (arith, nat_tests)

pub consistent_aside : (h : List ℕ) (p v j : ℕ) → IsConsistentAt h j → j ≢ p → 2 * j ≢ p → 2 * j + 1 ≢ p → IsConsistentAt (set h p v) j
consistent_aside h p v j was own left right =
    let same : slice_index (set h p v) j ≡ slice_index h j = get_or-set_other h p j v 0 own in
    let same_left : slice_index (set h p v) (2 * j) ≡ slice_index h (2 * j) = get_or-set_other h p (2 * j) v 0 left in
    let same_right : slice_index (set h p v) (2 * j + 1) ≡ slice_index h (2 * j + 1) = get_or-set_other h p (2 * j + 1) v 0 right in
    let long : length (set h p v) ≡ length h = length-set h p v in
    record {
      out = λ inner is. rw (same_left, same_right) (was.out (rw long at inner) (rw same at is));
      joined = λ inner is. rw (same, same_left, same_right) (was.joined (rw long at inner) (rw same at is));
      leaf = λ outer is. rw same (was.leaf (rw long at outer) (rw same at is));
    }

pub consistent_joined : (h : List ℕ) (p v : ℕ) → 1 ≤ p → 2 * p + 1 < length h → v ≡ joined_halvings (slice_index h (2 * p)) (slice_index h (2 * p + 1)) → IsConsistentAt (set h p v) p
consistent_joined h p v positive inner is =
    let left : 2 * p ≢ p = omega arith in
    let right : 2 * p + 1 ≢ p = omega arith in
    let within : p < length h = omega arith in
    let here : slice_index (set h p v) p ≡ v = get_or-set_same h p v 0 within in
    let same_left : slice_index (set h p v) (2 * p) ≡ slice_index h (2 * p) = get_or-set_other h p (2 * p) v 0 left in
    let same_right : slice_index (set h p v) (2 * p + 1) ≡ slice_index h (2 * p + 1) = get_or-set_other h p (2 * p + 1) v 0 right in
    let long : length (set h p v) ≡ length h = length-set h p v in
    record {
      out = λ _ e. absurd (joined-ne_out _ _ (sym is ∙ sym here ∙ e));
      joined = λ _ _. rw (here, same_left, same_right) is;
      leaf = λ outer _. absurd (omega (arith, long, outer));
    }

-- none above a node is out, also after a write to it
pub path_kept : (h : List ℕ) (p v : ℕ) → 1 ≤ p → NoneOutFrom h (p / 2) → NoneOutFrom (set h p v) (p / 2)
path_kept h p v positive path up in_tree =
    let below = ancestor-le up (p / 2) in
    let other : ancestor up (p / 2) ≢ p = omega arith in
    rw get_or-set_other (path up in_tree)

-- a write of what isn't out to a node that isn't out
pub same_out-set : (old h : List ℕ) (p v : ℕ) → p < length h → SameOut old h → slice_index h p ≢ 26 → v ≢ 26 → SameOut old (set h p v)
same_out-set old h p v within same was is i =
    elim (cases_eq i p) [
      | inl e ↦ (λ is_out. absurd (is (sym (get_or-set_at h p i v 0 e within) ∙ is_out)), λ was_out. absurd (was (sym (ap (slice_index h) e) ∙ (same i).1 was_out)))
      | inr ne ↦ (λ is_out. (same i).0 (sym (get_or-set_other h p i v 0 ne) ∙ is_out), λ was_out. get_or-set_other h p i v 0 ne ∙ (same i).1 was_out)
    ]

joined_same : (l r a b : ℕ) → l ≡ a → r ≡ b → joined_halvings l r ≡ joined_halvings a b
joined_same l r a b left right = λ i. joined_halvings (left i) (right i)

consistent_here : (h : List ℕ) (p : ℕ) → 2 * p + 1 < length h → slice_index h p ≡ joined_halvings (slice_index h (2 * p)) (slice_index h (2 * p + 1)) → IsConsistentAt h p
consistent_here h p inner is =
    record {
      out = λ _ e. absurd (joined-ne_out _ _ (sym is ∙ e));
      joined = λ _ _. is;
      leaf = λ outer _. absurd (omega (arith, inner, outer));
    }

-- the sibling of a node below the root is the other half of the node above them
module _ (old h : List ℕ) (node known : ℕ) (was : IsRising old h node known) (below_root : 1 < node) (p v : ℕ) (is_parent : p ≡ node / 2) (is : v ≡ joined_halvings known (slice_index h (node + 1 - 2 * (node % 2)))) where
  parent_joined : v ≡ joined_halvings (slice_index h (2 * p)) (slice_index h (2 * p + 1))
  parent_joined =
      elim (cases_eq (node % 2) 0) [
        | inl even ↦
            let left : node ≡ 2 * p = omega arith in
            let right : node + 1 - 2 * (node % 2) ≡ 2 * p + 1 = omega arith in
            is ∙ joined_same _ _ _ _ (was.value ∙ ap (slice_index h) left) (ap (slice_index h) right)
        | inr odd ↦
            let right : node ≡ 2 * p + 1 = omega arith in
            let left : node + 1 - 2 * (node % 2) ≡ 2 * p = omega arith in
            is ∙ joined_comm _ _ ∙ joined_same _ _ _ _ (ap (slice_index h) left) (was.value ∙ ap (slice_index h) right)
      ]

  ne_out : v ≢ 26
  ne_out e = joined-ne_out _ _ (sym is ∙ e)

  parent_positive : 1 ≤ p
  parent_positive = omega arith

  parent_inner : 2 * p + 1 < length h
  parent_inner = let even = was.even in let within = was.in_tree in omega arith

  parent_within : p < length h
  parent_within = let inner = parent_inner in omega arith

  others_than_parent : (j : ℕ) → 1 ≤ j → j < length h → j ≢ p → IsConsistentAt h j
  others_than_parent j positive within ne = was.others j positive within (λ e. ne (e ∙ sym is_parent))

  path_from_parent : NoneOutFrom h p
  path_from_parent = subst (NoneOutFrom h) (sym is_parent) was.path

  consistent_but : IsConsistentBut (set h p v) (p / 2)
  consistent_but j positive within ne =
      let long = length-set h p v in
      let within' : j < length h = omega arith in
      elim (cases_eq j p) [
        | inl e ↦ subst (IsConsistentAt (set h p v)) (sym e) (consistent_joined h p v parent_positive parent_inner parent_joined)
        | inr ne' ↦ consistent_aside h p v j (others_than_parent j positive within' ne') ne' (λ e. ne (omega arith)) (λ e. ne (omega arith))
      ]

  -- the node above gets its halves' value
  pub rising-step : IsRising old (set h p v) p v
  rising-step =
      record {
        above_root = parent_positive;
        in_tree = let within = parent_within in rw length-set within;
        even = rw length-set was.even;
        value = sym (get_or-set_same h p v 0 parent_within);
        others = consistent_but;
        path = path_kept h p v parent_positive (λ up in_tree. path_from_parent (suc up) in_tree);
        out = same_out-set old h p v parent_within was.out (path_from_parent zero parent_positive) ne_out;
      }

  -- the node above has its halves' value already
  pub rising-end : slice_index h p ≡ v → IsConsistent h
  rising-end same j positive within =
      elim (cases_eq j p) [
        | inl e ↦ subst (IsConsistentAt h) (sym e) (consistent_here h p parent_inner (same ∙ parent_joined))
        | inr ne ↦ others_than_parent j positive within ne
      ]
