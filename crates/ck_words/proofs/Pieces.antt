-- The pieces that are out, by the nodes of the tree.
use Rattle.std.proofs.Common.{◌≡◌, ℕ, zero, suc, Bool, true, false, ◌⊎◌, inl, inr, ◌+◌, ◌-◌, ◌*◌, ◌^◌, ◌<◌, ◌≤◌, List, ◌∷◌, length, get_or, slice_index, nat_eq, if◌then◌else◌, arith, refl, sym, ap, subst, ◌∙◌, true≢false, eq-eqb}
use Rattle.std.proofs.lemmas.Map.Views.{exact_unsigned_eq}
use Rattle.std.proofs.lemmas.Bool.{cases_eq}
use Rattle.std.proofs.lemmas.List.Elements.{Contains-append_left, Contains-append_right, Contains-append_cases}
use Rattle.std.proofs.lemmas.Nat.{pow_pos, pow-add}
use Rattle.std.proofs.Math.Nat.{pow-suc, mul-le-mul_right, mul-le-mul_left, le_of_mul-le-mul_right, eq_of_mul-eq-mul_right, pow-le-pow_right}
use Rattle.std.specs.List.{Contains}
use Rattle.std.specs.FinSet as set
use Rattle.ck_words.specs.Tree.{TakesOut, PutsBack}
use Rattle.ck_words.specs.Buddies.{Piece, piece, piece_cmp, with_pieces_out, IsPieceOut, out_in_row, out_in_rows, arena_of}
use Rattle.ck_words.proofs.Members.{same_piece, same_members, listed, lists, out_insert, insert_itself, insert_keeps, out_remove, remove_keeps}

-- the piece is the range of the node
pub record IsRangeOf (first log_len log_min : ℕ) (p : Piece) (node : ℕ) : Type 0 where
  pub least : log_min ≤ p.log
  pub most : p.log ≤ log_len
  pub place : p.at + 2 ^ log_len ≡ first + node * 2 ^ p.log
  pub from : 2 ^ log_len ≤ node * 2 ^ p.log
  pub to : (node + 1) * 2 ^ p.log ≤ 2 * 2 ^ log_len

contains_head : {X : Type 0} (xs : List X) (x y : X) → y ≡ x → Contains (x ∷ xs) y
contains_head xs x y e = (0, omega arith, sym e)

contains_tail : {X : Type 0} (xs : List X) (x y : X) → Contains xs y → Contains (x ∷ xs) y
contains_tail xs x y h = (suc h.0, let within = h.1 in omega arith, h.2)

contains_cases : {X : Type 0} (xs : List X) (x y : X) → Contains (x ∷ xs) y → (y ≡ x) ⊎ Contains xs y
contains_cases xs x y h =
    let at : (k : ℕ) → k < length (x ∷ xs) → get_or (x ∷ xs) k y ≡ y → (y ≡ x) ⊎ Contains xs y = λ k. elim k as (λ n. n < length (x ∷ xs) → get_or (x ∷ xs) n y ≡ y → (y ≡ x) ⊎ Contains xs y) [ zero ↦ λ _ e. inl (sym e) | suc n ↦ λ within e. inr (n, omega arith, e) ] in
    at h.0 h.1 h.2

module _ (h : List ℕ) (first log_len log : ℕ) where
  -- the piece is the m-th of a row, one of the first n, and out
  pub record IsInRow (n : ℕ) (p : Piece) (m : ℕ) : Type 0 where
    within : m < n
    is : p ≡ piece (first + m * 2 ^ log) log
    out : slice_index h (2 ^ (log_len - log) + m) ≡ 26

  more_in_row : (n : ℕ) (p : Piece) → (m : ℕ) × IsInRow n p m → (m : ℕ) × IsInRow (suc n) p m
  more_in_row n p was = let within = was.1.within in (was.0, record { within = omega arith; is = was.1.is; out = was.1.out })

  row_out : (n : ℕ) (p : Piece) → Contains (out_in_row h first log_len log n) p → (m : ℕ) × IsInRow n p m
  row_out zero p c = absurd (let within = c.1 in omega arith)
  row_out (suc n) p c =
      let here = piece (first + n * 2 ^ log) log in
      let rest = out_in_row h first log_len log n in
      let value = slice_index h (2 ^ (log_len - log) + n) in
      let cases : (b : Bool) → nat_eq value 26 ≡ b → Contains (if b then here ∷ rest else rest) p → (m : ℕ) × IsInRow (suc n) p m =
      λ b. elim b as (λ t. nat_eq value 26 ≡ t → Contains (if t then here ∷ rest else rest) p → (m : ℕ) × IsInRow (suc n) p m) [
        | true ↦ λ e c. elim (contains_cases rest here p c) [
          | inl same ↦ (n, record { within = omega arith; is = same; out = exact_unsigned_eq value 26 e })
          | inr other ↦ more_in_row n p (row_out n p other)
        ]
        | false ↦ λ e c. more_in_row n p (row_out n p c)
      ] in
      cases _ refl c

  out_row : (n : ℕ) (p : Piece) (m : ℕ) → IsInRow n p m → Contains (out_in_row h first log_len log n) p
  out_row zero p m is = absurd (let within = is.within in omega arith)
  out_row (suc n) p m is =
      let here = piece (first + n * 2 ^ log) log in
      let rest = out_in_row h first log_len log n in
      let value = slice_index h (2 ^ (log_len - log) + n) in
      let cases : (b : Bool) → nat_eq value 26 ≡ b → Contains (if b then here ∷ rest else rest) p =
      λ b. elim b as (λ t. nat_eq value 26 ≡ t → Contains (if t then here ∷ rest else rest) p) [
        | true ↦ λ e. elim (cases_eq m n) [
          | inl same ↦ contains_head rest here p (is.is ∙ ap (λ k. piece (first + k * 2 ^ log) log) same)
          | inr other ↦ contains_tail rest here p (out_row n p m (record { within = let within = is.within in omega arith; is = is.is; out = is.out }))
        ]
        | false ↦ λ e. elim (cases_eq m n) [
          | inl same ↦ absurd (true≢false (sym (eq-eqb value 26 (ap (λ k. slice_index h (2 ^ (log_len - log) + k)) (sym same) ∙ is.out)) ∙ e))
          | inr other ↦ out_row n p m (record { within = let within = is.within in omega arith; is = is.is; out = is.out })
        ]
      ] in
      cases _ refl

pub row_size : (log_len log : ℕ) → log ≤ log_len → 2 ^ (log_len - log) * 2 ^ log ≡ 2 ^ log_len
row_size log_len log most = let e : (log_len - log) + log ≡ log_len = omega arith in sym (pow-add 2 (log_len - log) log) ∙ ap (λ n. 2 ^ n) e

-- the node of the m-th piece of a row
module _ (first log_len log_min : ℕ) (p : Piece) (least : log_min ≤ p.log) (most : p.log ≤ log_len) where
  pub range_of_place : (m : ℕ) → m < 2 ^ (log_len - p.log) → p.at ≡ first + m * 2 ^ p.log → IsRangeOf first log_len log_min p (2 ^ (log_len - p.log) + m)
  range_of_place m within at =
      let size = row_size log_len p.log most in
      let below : (m + 1) * 2 ^ p.log ≤ 2 ^ (log_len - p.log) * 2 ^ p.log = mul-le-mul_right (2 ^ p.log) (omega arith) in
      record { least = least; most = most; place = omega arith; from = omega arith; to = omega arith }

  pub place_of_range : (node : ℕ) → IsRangeOf first log_len log_min p node → (m : ℕ) × ((m < 2 ^ (log_len - p.log)) × ((p.at ≡ first + m * 2 ^ p.log) × (2 ^ (log_len - p.log) + m ≡ node)))
  place_of_range node range =
      let size = row_size log_len p.log most in
      let positive = pow_pos p.log in
      let from = range.from in
      let to = range.to in
      let place = range.place in
      let above : 2 ^ (log_len - p.log) ≤ node = le_of_mul-le-mul_right (subst (λ n. n ≤ node * 2 ^ p.log) (sym size) from) positive in
      let sum : 2 ^ (log_len - p.log) + (node - 2 ^ (log_len - p.log)) ≡ node = omega arith in
      let spread : (2 ^ (log_len - p.log) + (node - 2 ^ (log_len - p.log))) * 2 ^ p.log ≡ node * 2 ^ p.log = ap (λ n. n * 2 ^ p.log) sum in
      let twice : (2 * 2 ^ (log_len - p.log)) * 2 ^ p.log ≡ 2 * 2 ^ log_len = omega arith in
      let below : node + 1 ≤ 2 * 2 ^ (log_len - p.log) = le_of_mul-le-mul_right (subst (λ n. (node + 1) * 2 ^ p.log ≤ n) (sym twice) to) positive in
      (node - 2 ^ (log_len - p.log), (omega arith, (omega arith, sum)))

not_longer : (first log_len log_min : ℕ) (p q : Piece) (node : ℕ) → IsRangeOf first log_len log_min p node → IsRangeOf first log_len log_min q node → p.log < q.log → ⊥
not_longer first log_len log_min p q node at_p at_q longer =
    let from = at_p.from in
    let to = at_q.to in
    let positive = pow_pos q.log in
    let twice : 2 ^ suc p.log ≤ 2 ^ q.log = pow-le-pow_right {n = 2} (omega arith) (omega arith) in
    let above : node * 2 ^ suc p.log ≤ node * 2 ^ q.log = mul-le-mul_left node twice in
    let above' : node * (2 ^ p.log * 2) ≤ node * 2 ^ q.log = rw (pow-suc 2 p.log) at above in
    omega arith

-- a node is the range of one piece
pub one_piece : (first log_len log_min : ℕ) (p q : Piece) (node : ℕ) → IsRangeOf first log_len log_min p node → IsRangeOf first log_len log_min q node → p ≡ q
one_piece first log_len log_min p q node at_p at_q =
    let no_longer : p.log < q.log → ⊥ = not_longer first log_len log_min p q node at_p at_q in
    let no_shorter : q.log < p.log → ⊥ = not_longer first log_len log_min q p node at_q at_p in
    let log : p.log ≡ q.log = omega arith in
    let length : node * 2 ^ p.log ≡ node * 2 ^ q.log = ap (λ n. node * 2 ^ n) log in
    let place_p = at_p.place in
    let place_q = at_q.place in
    same_piece p q (omega arith) log

-- and a piece the range of one node
pub one_node : (first log_len log_min : ℕ) (p : Piece) (node other : ℕ) → IsRangeOf first log_len log_min p node → IsRangeOf first log_len log_min p other → node ≡ other
one_node first log_len log_min p node other at_node at_other = eq_of_mul-eq-mul_right (2 ^ p.log) (pow_pos p.log) node other (let a = at_node.place in let b = at_other.place in omega arith)

module _ (h : List ℕ) (first log_len log_min : ℕ) where
  -- the piece is the range of a node that is out
  pub record IsNodeOut (p : Piece) (node : ℕ) : Type 0 where
    pub range : IsRangeOf first log_len log_min p node
    pub out : slice_index h node ≡ 26

  rows_out : (rows : ℕ) → log_min + rows ≤ suc log_len → (p : Piece) → Contains (out_in_rows h first log_len log_min rows) p → (node : ℕ) × IsNodeOut p node
  rows_out zero fit p c = absurd (let within = c.1 in omega arith)
  rows_out (suc rows) fit p c =
      elim (Contains-append_cases (out_in_row h first log_len (log_min + rows) (2 ^ (log_len - (log_min + rows)))) _ p c) [
        | inl here ↦
            let at = row_out h first log_len (log_min + rows) _ p here in
            let q = piece (first + at.0 * 2 ^ (log_min + rows)) (log_min + rows) in
            let range : IsRangeOf first log_len log_min q (2 ^ (log_len - (log_min + rows)) + at.0) = range_of_place first log_len log_min q (omega arith) (omega arith) at.0 at.1.within refl in
            subst (λ x. (node : ℕ) × IsNodeOut x node) (sym at.1.is) (_, record { range = range; out = at.1.out })
        | inr other ↦ rows_out rows (omega arith) p other
      ]

  out_rows : (rows : ℕ) → (p : Piece) → p.log < log_min + rows → (node : ℕ) → IsNodeOut p node → Contains (out_in_rows h first log_len log_min rows) p
  out_rows zero p in_rows node is = absurd (let least = is.range.least in omega arith)
  out_rows (suc rows) p in_rows node is =
      elim (cases_eq p.log (log_min + rows)) [
        | inl same ↦
            let at = place_of_range first log_len log_min p is.range.least is.range.most node is.range in
            let in_row : Contains (out_in_row h first log_len p.log (2 ^ (log_len - p.log))) p = out_row h first log_len p.log _ p at.0 (record { within = at.1.0; is = same_piece p (piece (first + at.0 * 2 ^ p.log) p.log) at.1.1.0 refl; out = ap (slice_index h) at.1.1.1 ∙ is.out }) in
            Contains-append_left _ _ p (subst (λ n. Contains (out_in_row h first log_len n (2 ^ (log_len - n))) p) same in_row)
        | inr other ↦ Contains-append_right _ _ p (out_rows rows p (omega arith) node is)
      ]

  -- what is out of the arena is what is out of the tree
  pub out_node : (p : Piece) → IsPieceOut (arena_of first log_len log_min h) p → log_min ≤ log_len → (node : ℕ) × IsNodeOut p node
  unfolding arena_of
  out_node p is_out shortest = rows_out (suc log_len - log_min) (omega arith) p (listed _ p is_out)

  pub node_out : (p : Piece) (node : ℕ) → IsNodeOut p node → IsPieceOut (arena_of first log_len log_min h) p
  unfolding arena_of
  node_out p node is =
      let most = is.range.most in
      let least = is.range.least in
      lists _ p (out_rows (suc log_len - log_min) p (omega arith) node is)

-- a node that wasn't out is now
pub out_more : (old new : List ℕ) (first log_len log_min : ℕ) (p : Piece) (node : ℕ) → log_min ≤ log_len → IsRangeOf first log_len log_min p node → TakesOut old new node → arena_of first log_len log_min new ≡ with_pieces_out (arena_of first log_len log_min old) (set.insert ((arena_of first log_len log_min old).out) p)
unfolding arena_of
out_more old new first log_len log_min p node shortest range change = ap (with_pieces_out (arena_of first log_len log_min old)) (same_members _ _ to from)
  where
    set_of : List ℕ → set.FinSet piece_cmp
    set_of h = (arena_of first log_len log_min h).out

    to : (q : Piece) → set.contains (set_of new) q ≡ true → set.contains (set.insert (set_of old) p) q ≡ true
    to q is_out =
        let at = out_node new first log_len log_min q is_out shortest in
        elim (change.now at.0 at.1.out) [
          | inl same ↦ subst (λ x. set.contains (set.insert (set_of old) p) x ≡ true) (one_piece first log_len log_min p q at.0 (subst (IsRangeOf first log_len log_min p) (sym same) range) at.1.range) (insert_itself (set_of old) p)
          | inr out ↦ insert_keeps (set_of old) p q (node_out old first log_len log_min q at.0 (record { range = at.1.range; out = out }))
        ]

    from : (q : Piece) → set.contains (set.insert (set_of old) p) q ≡ true → set.contains (set_of new) q ≡ true
    from q is_out =
        elim (out_insert (set_of old) p q is_out) [
          | inl same ↦ subst (λ x. set.contains (set_of new) x ≡ true) (sym same) (node_out new first log_len log_min p node (record { range = range; out = change.was node (inl refl) }))
          | inr out ↦ let at = out_node old first log_len log_min q out shortest in node_out new first log_len log_min q at.0 (record { range = at.1.range; out = change.was at.0 (inr at.1.out) })
        ]

-- a node that was out isn't now
pub out_less : (old new : List ℕ) (first log_len log_min : ℕ) (p : Piece) (node : ℕ) → log_min ≤ log_len → IsRangeOf first log_len log_min p node → PutsBack old new node → arena_of first log_len log_min new ≡ with_pieces_out (arena_of first log_len log_min old) (set.remove ((arena_of first log_len log_min old).out) p)
unfolding arena_of
out_less old new first log_len log_min p node shortest range change = ap (with_pieces_out (arena_of first log_len log_min old)) (same_members _ _ to from)
  where
    set_of : List ℕ → set.FinSet piece_cmp
    set_of h = (arena_of first log_len log_min h).out

    to : (q : Piece) → set.contains (set_of new) q ≡ true → set.contains (set.remove (set_of old) p) q ≡ true
    to q is_out =
        let at = out_node new first log_len log_min q is_out shortest in
        let out = change.now at.0 at.1.out in
        remove_keeps (set_of old) p q
        (λ same. out.0 (one_node first log_len log_min q at.0 node at.1.range (subst (λ x. IsRangeOf first log_len log_min x node) (sym same) range)))
        (node_out old first log_len log_min q at.0 (record { range = at.1.range; out = out.1 }))

    from : (q : Piece) → set.contains (set.remove (set_of old) p) q ≡ true → set.contains (set_of new) q ≡ true
    from q is_out =
        let out = out_remove (set_of old) p q is_out in
        let at = out_node old first log_len log_min q out.1 shortest in
        node_out new first log_len log_min q at.0 (record { range = at.1.range; out = change.was at.0 (λ same. out.0 (one_piece first log_len log_min q p node (subst (IsRangeOf first log_len log_min q) same at.1.range) range)) at.1.out })
