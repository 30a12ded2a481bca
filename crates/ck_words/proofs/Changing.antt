-- A node that is taken out or put back, before the nodes above it are counted anew.
use Rattle.std.proofs.Common.{◌≡◌, ◌≢◌, ℕ, suc, inl, inr, ◌+◌, ◌*◌, ◌/◌, ◌%◌, ◌<◌, ◌≤◌, List, length, set, slice_index, arith, sym, subst, ◌∙◌, length-set, get_or-set_other, get_or-set_same}
use Rattle.std.proofs.lemmas.Bool.{cases_eq}
use Rattle.ck_words.specs.Tree.{joined_halvings, IsConsistentAt, IsConsistentBut, IsConsistent, NoneOutFrom}
use Rattle.ck_words.proofs.Ancestors.{halves_whole, none_above_out}
use Rattle.ck_words.proofs.Rising.{consistent_aside, path_kept}

module _ (h : List ℕ) (node v : ℕ) (positive : 1 ≤ node) (within : node < length h) (consistent : IsConsistent h) where
  here : slice_index (set h node v) node ≡ v
  here = get_or-set_same h node v 0 within

  left : slice_index (set h node v) (2 * node) ≡ slice_index h (2 * node)
  left = let other : 2 * node ≢ node = omega arith in get_or-set_other h node (2 * node) v 0 other

  right : slice_index (set h node v) (2 * node + 1) ≡ slice_index h (2 * node + 1)
  right = let other : 2 * node + 1 ≢ node = omega arith in get_or-set_other h node (2 * node + 1) v 0 other

  -- a write to a node leaves all but it and the one above it consistent
  pub consistent_but : IsConsistentAt (set h node v) node → IsConsistentBut (set h node v) (node / 2)
  consistent_but at j j_positive j_within ne =
      let long = length-set h node v in
      elim (cases_eq j node) [
        | inl same ↦ subst (IsConsistentAt (set h node v)) (sym same) at
        | inr other ↦ consistent_aside h node v j (consistent j j_positive (omega arith)) other (λ e. ne (omega arith)) (λ e. ne (omega arith))
      ]

-- a node that was free whole and is out
pub taken : (h : List ℕ) (node : ℕ) → 1 ≤ node → node < length h → IsConsistent h → slice_index h node ≡ 0 → IsConsistentBut (set h node 26) (node / 2)
taken h node positive within consistent whole =
    let long = length-set h node 26 in
    consistent_but h node 26 positive within consistent (record {
      out = λ inner _.
          let halves = halves_whole h node (consistent node positive within) (omega (arith, long, inner)) whole in
          (left h node 26 positive within consistent ∙ halves.0, right h node 26 positive within consistent ∙ halves.1);
      joined = λ _ ne. absurd (ne (here h node 26 positive within consistent));
      leaf = λ _ _. here h node 26 positive within consistent;
    })

-- a node that was out and is free whole
pub put : (h : List ℕ) (node : ℕ) → 1 ≤ node → node < length h → IsConsistent h → slice_index h node ≡ 26 → IsConsistentBut (set h node 0) (node / 2)
put h node positive within consistent is_out =
    let long = length-set h node 0 in
    let is = here h node 0 positive within consistent in
    consistent_but h node 0 positive within consistent (record {
      out = λ _ e. absurd (omega (arith, is, e));
      joined = λ inner _.
          let halves = (consistent node positive within).out (omega (arith, long, inner)) is_out in
          is ∙ (λ i. joined_halvings (sym (left h node 0 positive within consistent ∙ halves.0) i) (sym (right h node 0 positive within consistent ∙ halves.1) i));
      leaf = λ _ ne. absurd (ne is);
    })

pub put_path : (h : List ℕ) (node : ℕ) → 1 ≤ node → node < length h → IsConsistent h → length h % 2 ≡ 0 → slice_index h node ≡ 26 → NoneOutFrom (set h node 0) (node / 2)
put_path h node positive within consistent even is_out = path_kept h node 0 positive (none_above_out h consistent even node within is_out)

pub taken_path : (h : List ℕ) (node : ℕ) → 1 ≤ node → NoneOutFrom h node → NoneOutFrom (set h node 26) (node / 2)
taken_path h node positive path = path_kept h node 26 positive (λ up in_tree. path (suc up) in_tree)
