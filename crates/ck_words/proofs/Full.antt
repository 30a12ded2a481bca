-- Where the root has no free range of a length, each range of that length has a word that is out.
use Rattle.std.proofs.Common.{◌≡◌, ◌≢◌, ℕ, zero, suc, ◌⊎◌, inl, inr, ◌+◌, ◌-◌, ◌*◌, ◌/◌, ◌%◌, ◌^◌, ◌<◌, ◌≤◌, List, length, slice_index, arith, refl, ap, subst, ◌∙◌}
use Rattle.std.proofs.lemmas.Bool.{cases_eq}
use Rattle.std.proofs.lemmas.Bool.Decides.{nat_tests}
use Rattle.std.proofs.lemmas.Nat.{pow_pos}
use Rattle.std.proofs.Math.Nat.{pow-suc, mul-le-mul_right, le_of_mul-le-mul_right}
use Rattle.ck_words.specs.Tree.{joined_halvings, IsConsistent}
use Rattle.ck_words.specs.Buddies.{Piece, piece, Arena, HasWordOut, IsAlignedIn, arena_of}
use Rattle.ck_words.proofs.Pieces.{IsRangeOf, range_of_place, place_of_range, row_size, node_out}
use Rattle.ck_words.proofs.Words.{in_tree, even}

joined_cut : (left right : ℕ) → joined_halvings left right ≢ 0 → (left ≢ 0) ⊎ (right ≢ 0)
joined_cut left right cut = grind (arith, nat_tests, cases_eq)

joined-le_left : (left right : ℕ) → joined_halvings left right ≤ left + 1
joined-le_left left right = grind (arith, nat_tests)

joined-le_right : (left right : ℕ) → joined_halvings left right ≤ right + 1
joined-le_right left right = grind (arith, nat_tests)

module _ (first log_len log_min : ℕ) where
  abbrev range_of : Piece → ℕ → Type 0
  range_of p node = IsRangeOf first log_len log_min p node

  -- where a piece with halves lies, by the length of a half
  in_halves : (p : Piece) (node log : ℕ) → p.log ≡ suc log → range_of p node
      → (p.at + 2 ^ log_len ≡ first + node * (2 ^ log * 2)) × (2 ^ log_len ≤ node * (2 ^ log * 2)) × ((node + 1) * (2 ^ log * 2) ≤ 2 * 2 ^ log_len)
  in_halves p node log is range =
      let length : 2 ^ p.log ≡ 2 ^ log * 2 = ap (λ n. 2 ^ n) is ∙ pow-suc 2 log in
      (rw length at range.place, rw length at range.from, rw length at range.to)

  -- the two halves of a piece
  left_half : (p : Piece) (node log : ℕ) → p.log ≡ suc log → log_min ≤ log → range_of p node → range_of (piece p.at log) (2 * node)
  left_half p node log is least range =
      let lies = in_halves p node log is range in let most = range.most in
      record { least = least; most = omega arith; place = omega arith; from = omega arith; to = omega arith }

  right_half : (p : Piece) (node log : ℕ) → p.log ≡ suc log → log_min ≤ log → range_of p node → range_of (piece (p.at + 2 ^ log) log) (2 * node + 1)
  right_half p node log is least range =
      let lies = in_halves p node log is range in let most = range.most in
      record { least = least; most = omega arith; place = omega arith; from = omega arith; to = omega arith }

  -- the piece that a piece is a half of
  record IsHalfOf (q : Piece) (node : ℕ) (whole : Piece) : Type 0 where
    is : whole.log ≡ suc q.log
    range : range_of whole (node / 2)
    from : whole.at ≤ q.at
    to : q.at + 2 ^ q.log ≤ whole.at + 2 ^ whole.log

  whole_of : (q : Piece) (node : ℕ) → range_of q node → q.log < log_len → (whole : Piece) × IsHalfOf q node whole
  whole_of q node range less =
      let at = place_of_range first log_len log_min q range.least range.most node range in
      let m = at.0 in
      let within = at.1.0 in
      let start = at.1.1.0 in
      let number = at.1.1.1 in
      let up : log_len - q.log ≡ suc (log_len - suc q.log) = omega arith in
      let row : 2 ^ (log_len - q.log) ≡ 2 ^ (log_len - suc q.log) * 2 = ap (λ n. 2 ^ n) up ∙ pow-suc 2 (log_len - suc q.log) in
      let whole = piece (first + m / 2 * 2 ^ suc q.log) (suc q.log) in
      let least = range.least in
      let node_is : 2 ^ (log_len - suc q.log) + m / 2 ≡ node / 2 = omega arith in
      let range' : range_of whole (2 ^ (log_len - suc q.log) + m / 2) = range_of_place first log_len log_min whole (omega arith) (omega arith) (m / 2) (omega arith) refl in
      let length = pow-suc 2 q.log in
      let below : (m / 2 * 2) * 2 ^ q.log ≤ m * 2 ^ q.log = mul-le-mul_right (2 ^ q.log) (omega arith) in
      let above : (m + 1) * 2 ^ q.log ≤ (m / 2 * 2 + 2) * 2 ^ q.log = mul-le-mul_right (2 ^ q.log) (omega arith) in
      let spread : m / 2 * 2 ^ suc q.log ≡ (m / 2 * 2) * 2 ^ q.log = ap (λ n. m / 2 * n) length ∙ (omega arith) in
      (whole, record { is = refl; range = subst (range_of whole) node_is range'; from = omega arith; to = omega arith })

  module _ (h : List ℕ) (consistent : IsConsistent h) (nodes : length h ≡ 2 * 2 ^ (log_len - log_min)) (shortest : log_min ≤ log_len) where
    abbrev arena : Arena
    arena = arena_of first log_len log_min h

    wider : (p q : Piece) → q.at ≤ p.at → p.at + 2 ^ p.log ≤ q.at + 2 ^ q.log → HasWordOut arena p → HasWordOut arena q
    wider p q from to has = let low = has.1.0.0 in let high = has.1.0.1 in (has.0, ((omega arith, omega arith), has.1.1))

    out_itself : (p : Piece) (node : ℕ) → range_of p node → slice_index h node ≡ 26 → HasWordOut arena p
    out_itself p node range out =
        let positive = pow_pos p.log in
        (p.at, ((omega arith, omega arith), (p, (node_out h first log_len log_min p node (record { range = range; out = out }), (omega arith, omega arith)))))

    -- a node that isn't free whole has a word that is out
    not_whole : (above : ℕ) (p : Piece) (node : ℕ) → p.log ≡ log_min + above → range_of p node → slice_index h node ≢ 0 → HasWordOut arena p
    not_whole zero p node level range cut =
        elim (cases_eq (slice_index h node) 26) [
          | inl out ↦ out_itself p node range out
          | inr ne ↦
              let tree = in_tree first log_len log_min h consistent nodes shortest p node range in
              let at = place_of_range first log_len log_min p range.least range.most node range in
              let is = at.1.1.1 in
              let row : 2 ^ (log_len - p.log) ≡ 2 ^ (log_len - log_min) = let e : p.log ≡ log_min = omega arith in ap (λ n. 2 ^ (log_len - n)) e in
              absurd (ne ((consistent node tree.0 tree.1).leaf (omega arith) cut))
        ]
    not_whole (suc above) p node level range cut =
        elim (cases_eq (slice_index h node) 26) [
          | inl out ↦ out_itself p node range out
          | inr ne ↦
              let tree = in_tree first log_len log_min h consistent nodes shortest p node range in
              let log = log_min + above in
              let is : p.log ≡ suc log = omega arith in
              let length : 2 ^ p.log ≡ 2 ^ log * 2 = ap (λ n. 2 ^ n) is ∙ pow-suc 2 log in
              let left = left_half p node log is (omega arith) range in
              let right = right_half p node log is (omega arith) range in
              let inner = (in_tree first log_len log_min h consistent nodes shortest (piece (p.at + 2 ^ log) log) (2 * node + 1) right).1 in
              let joined = (consistent node tree.0 tree.1).joined inner ne in
              elim (joined_cut (slice_index h (2 * node)) (slice_index h (2 * node + 1)) (λ e. cut (joined ∙ e))) [
                | inl left_cut ↦ wider (piece p.at log) p (omega arith) (omega arith) (not_whole above (piece p.at log) (2 * node) refl left left_cut)
                | inr right_cut ↦ wider (piece (p.at + 2 ^ log) log) p (omega arith) (omega arith) (not_whole above (piece (p.at + 2 ^ log) log) (2 * node + 1) refl right right_cut)
              ]
        ]

    -- a node that isn't out has at most one halving more than each of its halves
    one_more : (node : ℕ) → 1 < node → node < length h → slice_index h (node / 2) ≢ 26 → slice_index h (node / 2) ≤ slice_index h node + 1
    one_more node below_root within ne =
        let is_even = even first log_len log_min h consistent nodes shortest in
        let b = node / 2 in
        let inner : 2 * b + 1 < length h = omega arith in
        let joined = (consistent b (omega arith) (omega arith)).joined inner ne in
        let left = joined-le_left (slice_index h (2 * b)) (slice_index h (2 * b + 1)) in
        let right = joined-le_right (slice_index h (2 * b)) (slice_index h (2 * b + 1)) in
        elim (cases_eq (node % 2) 0) [
          | inl is_left ↦
              let e : 2 * b ≡ node = omega arith in
              let value = ap (slice_index h) e in
              omega (arith, joined, left, value)
          | inr is_right ↦
              let e : 2 * b + 1 ≡ node = omega arith in
              let value = ap (slice_index h) e in
              omega (arith, joined, right, value)
        ]

    -- from a node with no word out upwards: the root has a free range of the length, or some word is out
    climb : (up : ℕ) (p q : Piece) (node : ℕ) → q.log + up ≡ log_len → range_of q node → q.at ≤ p.at → p.at + 2 ^ p.log ≤ q.at + 2 ^ q.log → slice_index h node + p.log ≤ q.log → (slice_index h 1 + p.log ≤ log_len) ⊎ HasWordOut arena p
    climb zero p q node level range from to fits =
        let at = place_of_range first log_len log_min q range.least range.most node range in
        let within = at.1.0 in
        let is = at.1.1.1 in
        let row : 2 ^ (log_len - q.log) ≡ 2 ^ 0 = let e : log_len - q.log ≡ 0 = omega arith in ap (λ n. 2 ^ n) e in
        let root : node ≡ 1 = omega arith in
        let value = ap (slice_index h) root in
        inl (omega arith)
    climb (suc up) p q node level range from to fits =
        let half = whole_of q node range (omega arith) in
        let whole = half.0 in
        let is = half.1.is in
        let from' = half.1.from in
        let to' = half.1.to in
        elim (cases_eq (slice_index h (node / 2)) 26) [
          | inl out ↦
              let positive = pow_pos p.log in
              inr (p.at, ((omega arith, omega arith), (whole, (node_out h first log_len log_min whole (node / 2) (record { range = half.1.range; out = out }), (omega arith, omega arith)))))
          | inr ne ↦
              let tree = in_tree first log_len log_min h consistent nodes shortest q node range in
              let tree' = in_tree first log_len log_min h consistent nodes shortest whole (node / 2) half.1.range in
              let positive = tree'.0 in
              let more = one_more node (omega arith) tree.1 ne in
              climb up p whole (node / 2) (omega arith) half.1.range (omega arith) (omega arith) (omega arith)
        ]

    -- where the root has no free range of the length, each range of that length has a word that is out
    pub none_free : (log : ℕ) → log_min ≤ log → log ≤ log_len → log_len - log < slice_index h 1 → (at : ℕ) → IsAlignedIn arena (piece at log) → HasWordOut arena (piece at log)
    unfolding arena_of
    none_free log least most full at is_placed =
        let n = is_placed.0 in
        let start = is_placed.1.0 in
        let end = is_placed.1.1 in
        let size = row_size log_len log most in
        let within : n + 1 ≤ 2 ^ (log_len - log) = le_of_mul-le-mul_right {k = 2 ^ log} (omega arith) (pow_pos log) in
        let p = piece at log in
        let range : range_of p (2 ^ (log_len - log) + n) = range_of_place first log_len log_min p least most n (omega arith) start in
        elim (cases_eq (slice_index h (2 ^ (log_len - log) + n)) 0) [
          | inl whole ↦ elim (climb (log_len - log) p p (2 ^ (log_len - log) + n) (omega arith) range (omega arith) (omega arith) (omega arith)) [
            | inl fits ↦ absurd (omega (arith, fits, full))
            | inr has ↦ has
          ]
          | inr cut ↦ not_whole (log - log_min) p (2 ^ (log_len - log) + n) (omega arith) range cut
        ]
