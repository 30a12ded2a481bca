-- What taking and giving change of an arena.
use Rattle.std.proofs.Common.{◌≡◌, ℕ, ◌+◌, ◌-◌, ◌*◌, ◌/◌, ◌%◌, ◌^◌, ◌<◌, ◌≤◌, List, length, slice_index, inl, inr, le_refl, pow-add, arith, sym, ap, subst, ◌∙◌, true≢false}
use Rattle.std.proofs.lemmas.Nat.{pow_pos}
use Rattle.std.proofs.Math.Nat.{pow-le-pow_right, mul-le-mul_right, div-eq_of_eq-mul_right}
use Rattle.std.specs.FinSet as set
use Rattle.ck_words.specs.Tree.{IsConsistent, NoneOutFrom, TakesOut, PutsBack}
use Rattle.ck_words.specs.Buddies.{Piece, piece, piece_cmp, Arena, with_pieces_out, IsPieceOut, IsAlignedIn, IsFree, ArePiecesApart, HasWordOut, free_words, arena_of, IsArenaOf}
use Rattle.ck_words.proofs.Pieces.{IsRangeOf, IsNodeOut, row_size, out_node, out_more, out_less}
use Rattle.ck_words.proofs.Words.{placed, in_tree, even, apart, free_of_whole, lt_or_ge}
use Rattle.ck_words.proofs.Full.{none_free}
use Rattle.ck_words.proofs.Counting.{free_words-insert, free_words-remove, free_words-le}

-- an arena as it is seen has the fields of the struct
pub at_least : (first log_len log_min : ℕ) (h : List ℕ) (a : Arena) → arena_of first log_len log_min h ≡ a → (log : ℕ) → a.log_min ≤ log → log_min ≤ log
unfolding arena_of
at_least first log_len log_min h a view log least = subst (λ x. x.log_min ≤ log) (sym view) least

pub at_most : (first log_len log_min : ℕ) (h : List ℕ) (a : Arena) → arena_of first log_len log_min h ≡ a → (log : ℕ) → log ≤ a.log_len → log ≤ log_len
unfolding arena_of
at_most first log_len log_min h a view log most = subst (λ x. log ≤ x.log_len) (sym view) most

module _ (first log_len log_min free : ℕ) (h : List ℕ) (is : IsArenaOf first log_len log_min free h) where
  abbrev arena : List ℕ → Arena
  arena halvings = arena_of first log_len log_min halvings

  pub arena_apart : ArePiecesApart (arena h)
  arena_apart = apart first log_len log_min h is.consistent is.nodes is.shortest

  -- the nodes' number is even
  pub arena_even : length h % 2 ≡ 0
  arena_even = even first log_len log_min h is.consistent is.nodes is.shortest

  pub row_tall : (log : ℕ) → log_min ≤ log → log ≤ log_len → 2 * 2 ^ (log_len - log) ≤ length h
  row_tall log least most =
      let nodes = is.nodes in
      let rows : 2 ^ (log_len - log) ≤ 2 ^ (log_len - log_min) = pow-le-pow_right {n = 2} (omega arith) (omega arith) in
      omega (arith, nodes, rows)

  -- a row of the tree
  module _ (log node : ℕ) (least : log_min ≤ log) (most : log ≤ log_len) (from : 2 ^ (log_len - log) ≤ node) (to : node < 2 * 2 ^ (log_len - log)) where
    pub row_from : 2 ^ log_len ≤ node * 2 ^ log
    row_from = let size = row_size log_len log most in let more = mul-le-mul_right (2 ^ log) from in omega (arith, size, more)

    pub row_to : (node + 1) * 2 ^ log ≤ 2 * 2 ^ log_len
    row_to =
        let size = row_size log_len log most in
        let more : (node + 1) * 2 ^ log ≤ (2 * 2 ^ (log_len - log)) * 2 ^ log = mul-le-mul_right (2 ^ log) (omega arith) in
        omega (arith, size, more)

    pub row_range : (at : ℕ) → at + 2 ^ log_len ≡ first + node * 2 ^ log → IsRangeOf first log_len log_min (piece at log) node
    row_range at place = record { least = least; most = most; place = place; from = row_from; to = row_to }

    pub row_in_tree : node < length h
    row_in_tree = let tall = row_tall log least most in omega arith

  placed_in : (p : Piece) (node : ℕ) → IsRangeOf first log_len log_min p node → IsAlignedIn (arena h) p
  unfolding arena_of
  placed_in p node range = placed first log_len log_min p node range

  -- the arena after a piece was taken out
  pub record IsTaken (new : List ℕ) (p : Piece) : Type 0 where
    pub placed : IsAlignedIn (arena h) p
    pub was_free : IsFree (arena h) p
    pub is_out : arena new ≡ with_pieces_out (arena h) (set.insert ((arena h).out) p)
    pub enough : 2 ^ p.log ≤ free
    pub is_arena : IsArenaOf first log_len log_min (free - 2 ^ p.log) new

  pub taken : (p : Piece) (node : ℕ) (new : List ℕ) → IsRangeOf first log_len log_min p node → slice_index h node ≡ 0 → NoneOutFrom h node → IsConsistent new → length new ≡ length h → TakesOut h new node → IsTaken new p
  taken p node new range whole path consistent long change =
      let is_placed = placed_in p node range in
      let is_free = free_of_whole first log_len log_min h is.consistent is.nodes is.shortest p node range whole path in
      let out = out_more h new first log_len log_min p node is.shortest range change in
      let counted : free ≡ free_words (arena new) + 2 ^ p.log = is.free_is ∙ free_words-insert (arena h) p is_placed is_free ∙ ap (λ a. free_words a + 2 ^ p.log) (sym out) in
      record {
        placed = is_placed;
        was_free = is_free;
        is_out = out;
        enough = omega (arith, counted);
        is_arena = record { least = is.least; shortest = is.shortest; most = is.most; place = is.place; nodes = long ∙ is.nodes; consistent = consistent; free_is = omega (arith, counted) };
      }

  -- the same of a row's node, as the code reads and writes the tree
  pub taken_row : (log node at : ℕ) (read written new : List ℕ) → log_min ≤ log → log ≤ log_len → 2 ^ (log_len - log) ≤ node → node < 2 * 2 ^ (log_len - log) → at + 2 ^ log_len ≡ first + node * 2 ^ log → read ≡ h → slice_index read node ≡ 0 → NoneOutFrom read node → written ≡ h → IsConsistent new → length new ≡ length written → TakesOut written new node → IsTaken new (piece at log)
  taken_row log node at read written new least most from to place reads whole path writes consistent long change =
      taken (piece at log) node new
      (row_range log node least most from to at place)
      (subst (λ x. slice_index x node ≡ 0) reads whole)
      (subst (λ x. NoneOutFrom x node) reads path)
      consistent
      (long ∙ ap length writes)
      (subst (λ x. TakesOut x new node) writes change)

  -- there is room for a piece in a row's node
  pub row_enough : (log node : ℕ) (read written new : List ℕ) → log_min ≤ log → log ≤ log_len → 2 ^ (log_len - log) ≤ node → node < 2 * 2 ^ (log_len - log) → read ≡ h → slice_index read node ≡ 0 → NoneOutFrom read node → written ≡ h → IsConsistent new → length new ≡ length written → TakesOut written new node → 2 ^ log ≤ free
  row_enough log node read written new least most from to reads whole path writes consistent long change =
      let above = row_from log node least most from to in
      (taken_row log node (first + node * 2 ^ log - 2 ^ log_len) read written new least most from to (omega arith) reads whole path writes consistent long change).enough

  -- the arena after a piece was given back
  pub record IsGiven (new : List ℕ) (p : Piece) : Type 0 where
    pub is_out : arena new ≡ with_pieces_out (arena h) (set.remove ((arena h).out) p)
    pub is_arena : IsArenaOf first log_len log_min (free + 2 ^ p.log) new

  pub given : (p : Piece) (node : ℕ) (new : List ℕ) → IsPieceOut (arena h) p → IsRangeOf first log_len log_min p node → IsConsistent new → length new ≡ length h → PutsBack h new node → IsGiven new p
  given p node new out range consistent long change =
      let is_out = out_less h new first log_len log_min p node is.shortest range change in
      let counted : free_words (arena new) ≡ free + 2 ^ p.log = ap free_words is_out ∙ free_words-remove (arena h) p arena_apart out ∙ ap (λ n. n + 2 ^ p.log) (sym is.free_is) in
      record {
        is_out = is_out;
        is_arena = record { least = is.least; shortest = is.shortest; most = is.most; place = is.place; nodes = long ∙ is.nodes; consistent = consistent; free_is = sym counted };
      }

  free_in : free_words (arena h) ≤ 2 ^ log_len
  unfolding arena_of
  free_in = free_words-le (arena h)

  -- the words that are free and those of a piece fit a word
  pub free_fits : (log : ℕ) → log ≤ log_len → free + 2 ^ log < 2 ^ 64
  free_fits log most =
      let all = free_in in
      let free_is = is.free_is in
      let length : 2 ^ log ≤ 2 ^ log_len = pow-le-pow_right {n = 2} (omega arith) most in
      let bound : 2 ^ log_len ≤ 2 ^ 24 = pow-le-pow_right {n = 2} (omega arith) is.most in
      omega (arith, all, free_is, length, bound)

  -- the node of a piece
  pub node_of_range : (p : Piece) (node : ℕ) → IsRangeOf first log_len log_min p node → (2 ^ log_len + (p.at - first)) / 2 ^ p.log ≡ node
  node_of_range p node range =
      let place = range.place in
      let from = range.from in
      div-eq_of_eq-mul_right (pow_pos p.log) (omega arith)

  -- a piece that is out is the range of a node that is out
  pub piece_of_out : (p : Piece) → IsPieceOut (arena h) p → (node : ℕ) × IsNodeOut h first log_len log_min p node
  piece_of_out p out = out_node h first log_len log_min p out is.shortest

  -- the node that the code reckons for a piece that is out
  pub record IsNodeOfOut (p : Piece) (node : ℕ) : Type 0 where
    pub most : p.log ≤ log_len
    pub from : first ≤ p.at
    pub to : p.at < first + 2 ^ log_len
    pub positive : 1 ≤ node
    pub within : node < length h
    pub out : slice_index h node ≡ 26
    pub range : IsRangeOf first log_len log_min p node

  pub node_of_out : (p : Piece) (node : ℕ) → IsPieceOut (arena h) p → node ≡ (2 ^ log_len + (p.at - first)) / 2 ^ p.log → IsNodeOfOut p node
  node_of_out p node is_out reckoned =
      let at = piece_of_out p is_out in
      let range = at.1.range in
      let same : at.0 ≡ node = sym (reckoned ∙ node_of_range p at.0 range) in
      let tree = in_tree first log_len log_min h is.consistent is.nodes is.shortest p at.0 range in
      let place = range.place in
      let from = range.from in
      let to = range.to in
      let positive = pow_pos p.log in
      record {
        most = range.most;
        from = omega arith;
        to = omega arith;
        positive = subst (λ n. 1 ≤ n) same tree.0;
        within = subst (λ n. n < length h) same tree.1;
        out = subst (λ n. slice_index h n ≡ 26) same at.1.out;
        range = subst (IsRangeOf first log_len log_min p) same range;
      }

  pub none_where_full : (log : ℕ) → log_min ≤ log → log ≤ log_len → log_len - log < slice_index h 1 → (at : ℕ) → IsAlignedIn (arena h) (piece at log) → HasWordOut (arena h) (piece at log)
  none_where_full = none_free first log_len log_min h is.consistent is.nodes is.shortest

pub out_seen : (first log_len log_min : ℕ) (h : List ℕ) (a : Arena) → arena_of first log_len log_min h ≡ a → (p : Piece) → IsPieceOut a p → IsPieceOut (arena_of first log_len log_min h) p
out_seen first log_len log_min h a view p is_out = subst (λ x. IsPieceOut x p) (sym view) is_out

-- where nothing is out, the first range of a length has no word that is out
pub none_where_empty : (a : Arena) (log : ℕ) → log ≤ a.log_len → a.out ≡ set.empty → ((at : ℕ) → IsAlignedIn a (piece at log) → HasWordOut a (piece at log)) → ⊥
none_where_empty a log most empty has_out =
    let length : 2 ^ log ≤ 2 ^ a.log_len = pow-le-pow_right {n = 2} (omega arith) most in
    let has = has_out a.first (0, (omega arith, omega arith)) in
    true≢false (sym has.1.1.1.0 ∙ ap (λ s. set.contains s has.1.1.0) empty ∙ set.contains-empty piece_cmp has.1.1.0)

none_at_once : (n x : ℕ) → 0 < x → n - n < x
none_at_once n x some = omega arith

-- where nothing is out, the root is free whole
pub whole_where_empty : (first log_len log_min free : ℕ) (h : List ℕ) → IsArenaOf first log_len log_min free h → (arena_of first log_len log_min h).out ≡ set.empty → slice_index h 1 ≡ 0
unfolding arena_of
whole_where_empty first log_len log_min free h is empty =
    elim (lt_or_ge 0 (slice_index h 1)) [
      | inl some ↦ absurd (none_where_empty (arena_of first log_len log_min h) log_len (le_refl log_len) empty (none_where_full first log_len log_min free h is log_len is.shortest (le_refl log_len) (none_at_once log_len (slice_index h 1) some)))
      | inr none ↦ omega arith
    ]

-- and the first node of a row begins where the arena does
pub leftmost_place : (first log_len log at node : ℕ) → log ≤ log_len → node ≡ 2 ^ (log_len - log) → at + 2 ^ log_len ≡ first + node * 2 ^ log → at ≡ first
leftmost_place first log_len log at node less is place =
    let whole : 2 ^ (log_len - log) * 2 ^ log ≡ 2 ^ log_len = sym (pow-add 2 (log_len - log) log) ∙ ap (λ n. 2 ^ n) (let z : log_len - log + log ≡ log_len = omega arith in z) in
    let here : node * 2 ^ log ≡ 2 ^ log_len = ap (λ n. n * 2 ^ log) is ∙ whole in
    omega arith

-- a piece of which no word is out isn't out
pub not_out_of_free : (a : Arena) (p : Piece) → IsFree a p → ¬ IsPieceOut a p
not_out_of_free a p free out =
    let positive = pow_pos p.log in
    free p.at (omega arith, omega arith) (p, (out, (omega arith, omega arith)))
