-- An arena in which nothing is out.
use Rattle.std.proofs.Common.{◌≡◌, ℕ, true, ◌+◌, ◌-◌, ◌*◌, ◌%◌, ◌^◌, ◌<◌, ◌≤◌, inl, inr, List, length, slice_index, arith, sym, ap, ◌∙◌, true≢false}
use Rattle.std.proofs.lemmas.Bool.Decides.{nat_tests}
use Rattle.std.proofs.Math.Nat.{pow-le-pow_right, mod-eq_of_lt}
use Rattle.std.proofs.Math.ListN.{replicate, get_or-eq_default}
use Rattle.std.proofs.lemmas.List.{get_or-replicate, length-replicate}
use Rattle.std.specs.FinSet as set
use Rattle.ck_words.specs.Tree.{joined_halvings, IsConsistent}
use Rattle.ck_words.specs.Buddies.{Piece, piece_cmp, with_pieces_out, IsPieceOut, arena_of, IsArenaOf}
use Rattle.ck_words.proofs.Members.{same_members}
use Rattle.ck_words.proofs.Pieces.{out_node}
use Rattle.ck_words.proofs.Words.{lt_or_ge}
use Rattle.ck_words.proofs.Counting.{free_words-empty}

zero_at : (n i : ℕ) → slice_index (replicate n 0) i ≡ 0
zero_at n i =
    elim (lt_or_ge i n) [
      | inl within ↦ get_or-replicate n i 0 0 within
      | inr behind ↦ let long = length-replicate n (let z : ℕ = 0 in z) in get_or-eq_default (replicate n 0) 0 (omega arith)
    ]

-- a list of zeros, as the code makes it
pub zeros_at : (log_len log_min : ℕ) (h : List ℕ) → log_len ≤ 24 → h ≡ replicate (2 * 2 ^ (log_len - log_min) % 2 ^ 64) 0 → (i : ℕ) → slice_index h i ≡ 0
zeros_at log_len log_min h most is i = ap (λ x. slice_index x i) is ∙ zero_at _ i

pub zeros_long : (log_len log_min : ℕ) (h : List ℕ) → log_len ≤ 24 → h ≡ replicate (2 * 2 ^ (log_len - log_min) % 2 ^ 64) 0 → length h ≡ 2 * 2 ^ (log_len - log_min)
zeros_long log_len log_min h most is =
    let less : log_len - log_min ≤ 24 = omega arith in
    let bound : 2 ^ (log_len - log_min) ≤ 2 ^ 24 = pow-le-pow_right {n = 2} (omega arith) less in
    let small : 2 * 2 ^ (log_len - log_min) < 2 ^ 64 = omega arith in
    ap length is ∙ length-replicate _ _ ∙ mod-eq_of_lt small

joined_zeros : (here left right : ℕ) → here ≡ 0 → left ≡ 0 → right ≡ 0 → here ≡ joined_halvings left right
joined_zeros here left right h l r = grind (arith, nat_tests)

module _ (h : List ℕ) (zeros : (i : ℕ) → slice_index h i ≡ 0) where
  all_whole : IsConsistent h
  all_whole i positive within = record {
    out = λ _ e. absurd (omega (arith, zeros i, e));
    joined = λ _ _. joined_zeros (slice_index h i) (slice_index h (2 * i)) (slice_index h (2 * i + 1)) (zeros i) (zeros (2 * i)) (zeros (2 * i + 1));
    leaf = λ _ ne. absurd (ne (zeros i));
  }

  module _ (first log_len log_min : ℕ) (shortest : log_min ≤ log_len) where
    none_out : (p : Piece) → IsPieceOut (arena_of first log_len log_min h) p → set.contains (set.empty {R = piece_cmp}) p ≡ true
    none_out p is_out =
        let at = out_node h first log_len log_min p is_out shortest in
        let out = at.1.out in
        absurd (omega (arith, zeros at.0, out))

    nothing : (p : Piece) → set.contains (set.empty {R = piece_cmp}) p ≡ true → IsPieceOut (arena_of first log_len log_min h) p
    nothing p in_empty = absurd (true≢false (sym in_empty ∙ set.contains-empty piece_cmp p))

    empty : (arena_of first log_len log_min h).out ≡ set.empty {R = piece_cmp}
    empty = same_members _ _ none_out nothing

    pub opened : arena_of first log_len log_min h ≡ record { first = first; log_len = log_len; log_min = log_min; out = set.empty }
    unfolding arena_of
    opened = ap (with_pieces_out (arena_of first log_len log_min h)) empty

    pub opening : (free : ℕ) → 3 ≤ log_min → log_len ≤ 24 → first ≤ 2 ^ 32 → length h ≡ 2 * 2 ^ (log_len - log_min) → free ≡ 2 ^ log_len → IsArenaOf first log_len log_min free h
    unfolding arena_of
    opening free least most place nodes all_free = record {
      least = least;
      shortest = shortest;
      most = most;
      place = place;
      nodes = nodes;
      consistent = all_whole;
      free_is = all_free ∙ sym (free_words-empty (arena_of first log_len log_min h) empty);
    }
