-- The words of an arena: which are out, and where a range is free.
use Rattle.std.proofs.Common.{◌≡◌, ◌≢◌, ℕ, suc, ◌⊎◌, inl, inr, ◌+◌, ◌-◌, ◌*◌, ◌%◌, ◌^◌, ◌<◌, ◌≤◌, List, length, slice_index, arith, sym, ap, subst, ◌∙◌}
use Rattle.std.proofs.lemmas.Bool.{cases_eq}
use Rattle.std.proofs.lemmas.Nat.{pow_pos}
use Rattle.std.proofs.Math.Nat.{mul-le-mul_right, pow-le-pow_right}
use Rattle.ck_words.specs.Tree.{IsConsistent, NoneOutFrom, ancestor}
use Rattle.ck_words.specs.Buddies.{Piece, Arena, IsPieceOut, PieceCovers, IsFree, ArePiecesApart, arena_of}
use Rattle.ck_words.proofs.Ancestors.{ancestor-ancestor, ancestor-is, whole_below, none_below_out}
use Rattle.ck_words.proofs.Pieces.{IsRangeOf, place_of_range, row_size, one_piece, out_node}

pub lt_or_ge : (a b : ℕ) → (a < b) ⊎ (b ≤ a)
lt_or_ge a b = grind (arith, cases_eq)

module _ (first log_len log_min : ℕ) where
  abbrev range_of : Piece → ℕ → Type 0
  range_of p node = IsRangeOf first log_len log_min p node

  -- the number of a word among the nodes that lie one below the other down to single words
  abbrev leaf_of : ℕ → ℕ
  leaf_of w = w + 2 ^ log_len - first

  covered : (p : Piece) (node w : ℕ) → range_of p node → PieceCovers p w → ancestor p.log (leaf_of w) ≡ node
  covered p node w range covers =
      let place = range.place in
      let from = range.from in
      let low = covers.0 in
      let high = covers.1 in
      ancestor-is p.log (leaf_of w) node (omega arith) (omega arith)

  -- of two pieces with a word in common the longer one's node is above the other's
  chain : (p q : Piece) (i j w : ℕ) → range_of p i → range_of q j → PieceCovers p w → PieceCovers q w → p.log ≤ q.log → ancestor (q.log - p.log) i ≡ j
  chain p q i j w range_p range_q covers_p covers_q shorter =
      let sum : p.log + (q.log - p.log) ≡ q.log = omega arith in
      ap (ancestor (q.log - p.log)) (sym (covered p i w range_p covers_p))
      ∙ ancestor-ancestor (q.log - p.log) p.log (leaf_of w)
      ∙ ap (λ n. ancestor n (leaf_of w)) sum
      ∙ covered q j w range_q covers_q

  -- the m-th piece of a row lies within the arena
  pub placed : (p : Piece) (node : ℕ) → range_of p node → (n : ℕ) × ((p.at ≡ first + n * 2 ^ p.log) × (p.at + 2 ^ p.log ≤ first + 2 ^ log_len))
  placed p node range =
      let at = place_of_range first log_len log_min p range.least range.most node range in
      let size = row_size log_len p.log range.most in
      let below : (at.0 + 1) * 2 ^ p.log ≤ 2 ^ (log_len - p.log) * 2 ^ p.log = mul-le-mul_right (2 ^ p.log) (let m = at.1.0 in omega arith) in
      let start = at.1.1.0 in
      (at.0, (start, omega arith))

  module _ (h : List ℕ) (consistent : IsConsistent h) (nodes : length h ≡ 2 * 2 ^ (log_len - log_min)) (shortest : log_min ≤ log_len) where
    pub even : length h % 2 ≡ 0
    even = omega arith

    abbrev arena : Arena
    arena = arena_of first log_len log_min h

    pub in_tree : (p : Piece) (node : ℕ) → range_of p node → (1 ≤ node) × (node < length h)
    in_tree p node range =
        let at = place_of_range first log_len log_min p range.least range.most node range in
        let within = at.1.0 in
        let is = at.1.1.1 in
        let positive = pow_pos (log_len - p.log) in
        let least = range.least in
        let rows : 2 ^ (log_len - p.log) ≤ 2 ^ (log_len - log_min) = pow-le-pow_right {n = 2} (omega arith) (omega arith) in
        (omega arith, omega arith)

    longer : (p q : Piece) (i j w : ℕ) → range_of p i → range_of q j → PieceCovers p w → PieceCovers q w → p.log < q.log → slice_index h i ≡ 26 → slice_index h j ≢ 26
    longer p q i j w range_p range_q covers_p covers_q shorter out_i out_j =
        let above : ancestor (q.log - p.log) i ≡ j = chain p q i j w range_p range_q covers_p covers_q (omega arith) in
        let up : q.log - p.log ≡ suc (q.log - p.log - 1) = omega arith in
        let above' : ancestor (suc (q.log - p.log - 1)) i ≡ j = ap (λ n. ancestor n i) (sym up) ∙ above in
        none_below_out h consistent even (q.log - p.log - 1) i (subst (λ n. 1 ≤ n) (sym above') (in_tree q j range_q).0) (in_tree p i range_p).1 (ap (slice_index h) above' ∙ out_j) out_i

    -- no word is in two pieces that are out
    one : (w : ℕ) (p q : Piece) → IsPieceOut arena p → IsPieceOut arena q → PieceCovers p w → PieceCovers q w → p ≡ q
    one w p q out_p out_q covers_p covers_q =
        let at_p = out_node h first log_len log_min p out_p shortest in
        let at_q = out_node h first log_len log_min q out_q shortest in
        let no_longer : p.log < q.log → ⊥ = λ less. longer p q at_p.0 at_q.0 w at_p.1.range at_q.1.range covers_p covers_q less at_p.1.out at_q.1.out in
        let no_shorter : q.log < p.log → ⊥ = λ less. longer q p at_q.0 at_p.0 w at_q.1.range at_p.1.range covers_q covers_p less at_q.1.out at_p.1.out in
        let log : p.log ≡ q.log = omega arith in
        let same : at_p.0 ≡ at_q.0 = sym (covered p at_p.0 w at_p.1.range covers_p) ∙ ap (λ n. ancestor n (leaf_of w)) log ∙ covered q at_q.0 w at_q.1.range covers_q in
        one_piece first log_len log_min p q at_q.0 (subst (range_of p) same at_p.1.range) at_q.1.range

    pub apart : ArePiecesApart arena
    unfolding arena_of
    apart = record {
      placed = λ p out. let at = out_node h first log_len log_min p out shortest in (at.1.range.least, (at.1.range.most, placed p at.0 at.1.range));
      one = one;
    }

    -- no word of a node that is free whole is out, if no node above it is
    pub free_of_whole : (p : Piece) (node : ℕ) → range_of p node → slice_index h node ≡ 0 → NoneOutFrom h node → IsFree arena p
    free_of_whole p node range whole path w covers word_out =
        let q = word_out.0 in
        let at = out_node h first log_len log_min q word_out.1.0 shortest in
        elim (lt_or_ge q.log p.log) [
          | inl shorter ↦
              let above = chain q p at.0 node w at.1.range range word_out.1.1 covers (omega arith) in
              let zero_below = whole_below h consistent even (p.log - q.log) at.0 (subst (λ n. 1 ≤ n) (sym above) (in_tree p node range).0) (in_tree q at.0 at.1.range).1 (ap (slice_index h) above ∙ whole) in
              let out = at.1.out in
              omega (arith, zero_below, out)
          | inr longer_or_same ↦
              let above = chain p q node at.0 w range at.1.range covers word_out.1.1 longer_or_same in
              path (q.log - p.log) (subst (λ n. 1 ≤ n) (sym above) (in_tree q at.0 at.1.range).0) (ap (slice_index h) above ∙ at.1.out)
        ]
