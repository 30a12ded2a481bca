-- The lists at opening.
use Rattle.std.proofs.Common.{◌≡◌, ℕ, ◌+◌, ◌-◌, ◌*◌, ◌%◌, ◌^◌, ◌<◌, ◌≤◌, inl, [], length, ap, sym, ◌∙◌, subst, refl, arith, pow-add, mul_comm}
use Rattle.std.specs.Prelude.{max, vec_capacity}
use Rattle.std.specs.FinSet as set
use Rattle.std.proofs.lemmas.List.Elements.{All-nil}
use Rattle.std.proofs.Math.Nat.{pow-le-pow_right}
use Rattle.ck_words.specs.Buddies.{Arena, Piece, piece, piece_cmp, with_pieces_out, IsPieceOut}
use Rattle.ck_htlaw.specs.Layout.{arena, arena_words, at_of, log_of, IsTableItem}
use Rattle.ck_htlaw.specs.Known.{IsRoot}
use Rattle.ck_htwrite.specs.declared.state.HtState.{HtState}
use Rattle.ck_arena.specs.Arena.{IsOutBeside}
use Rattle.ck_htwrite.specs.Arena.{region_piece, IsArenaOfTable, IsKept}
use Rattle.ck_htwrite.specs.State.{IsShaped, most_words}

module _ (n : ℕ) where
  abbrev pub opening_root : ℕ
  opening_root = 32 * arena n + 3

  at_is : at_of opening_root ≡ arena n
  at_is = omega arith

  log_is : log_of opening_root ≡ 3
  log_is = omega arith

  words_are : 4 * 2 ^ log_of opening_root ≡ 32
  words_are = ap (λ (k : ℕ). 4 * 2 ^ k) log_is

  pub opening_is_root : 1 ≤ n → IsRoot n opening_root
  opening_is_root some = record {
    piece = record { some_lines = omega (arith, log_is); low = omega (arith, at_is); high = omega (arith, at_is, words_are); aligned = omega (arith, at_is) };
    few = omega (arith, log_is);
  }

  pub opening_long : 32 ≡ 2 ^ (log_of opening_root + 2)
  opening_long = sym (ap (λ (k : ℕ). 2 ^ (k + 2)) log_is)

  -- the region at the arena's start is out, and nothing was retired
  pub opening_kept : (place at : ℕ) (a : Arena) → IsArenaOfTable n a → at ≡ arena n → IsPieceOut a (piece at 5) → ((p : Piece) → IsPieceOut a p → p ≡ piece at 5) → IsKept n place (32 * at + 3) [] a
  opening_kept place at a of_table is out alone = subst (λ (k : ℕ). IsKept n place (32 * k + 3) [] a) (sym is) record {
    of_table = of_table;
    pieces = record {
      current = subst (λ (p : ℕ × ℕ). IsPieceOut a (piece p.0 p.1)) (λ i. ((is ∙ sym at_is) i, sym (ap (λ (k : ℕ). k + 2) log_is) i)) out;
      retired = All-nil (IsOutBeside (IsTableItem n place) place a (region_piece opening_root));
      once = tt;
      only = λ p h. inl (alone p h ∙ (λ i. piece ((is ∙ sym at_is) i) (sym (ap (λ (k : ℕ). k + 2) log_is) i)));
    };
  }

  pub opening_shape : (s : HtState) → 1 ≤ n → n ≤ 524288 → s.root ≡ opening_root → length s.words.items ≡ 32 → length s.counters.items ≡ n → most_words n ≤ vec_capacity s.words → most_words n ≤ vec_capacity s.spare → IsShaped n s
  opening_shape s some small root long many room other = record {
    is_root = subst (IsRoot n) (sym root) (opening_is_root some);
    long = long ∙ (opening_long ∙ sym (ap (λ (r : ℕ). 2 ^ (log_of r + 2)) root));
    many = many;
    small = small;
    room = room;
    other_room = other;
  }

-- the arena is that of the table, whichever pieces are out
pub still_of_table : (n : ℕ) (a b : Arena) (out : set.FinSet piece_cmp) → b ≡ with_pieces_out a out → IsArenaOfTable n a → IsArenaOfTable n b
still_of_table n a b out is h = subst (IsArenaOfTable n) (sym is) record { first = h.first; long = h.long; log_min = h.log_min }

pub new_of_table : (n count log : ℕ) (a : Arena) → a ≡ record { first = 1 + count; log_len = log; log_min = 5; out = set.empty } → count ≡ n → 2 ^ log ≡ arena_words n → IsArenaOfTable n a
new_of_table n count log a is many long = subst (IsArenaOfTable n) (sym is) record { first = ap (λ (k : ℕ). 1 + k) many; long = long; log_min = refl }

-- an arena of 2 ^ log words or, where that is less, of 32, has a counter for each 32 words
pub arena_long : (log most : ℕ) → most ≡ max log 5 → 2 ^ most ≡ 32 * 2 ^ (log - 5)
arena_long log most is = let e : most ≡ log - 5 + 5 = omega arith in ap (λ (k : ℕ). 2 ^ k) e ∙ (pow-add 2 (log - 5) 5 ∙ mul_comm (2 ^ (log - 5)) 32)

pub few_counters : (log : ℕ) → log ≤ 24 → 1 * 2 ^ (log - 5) % 18446744073709551616 ≤ 524288
few_counters log most = let two : 0 < 2 = omega arith in let less : log - 5 ≤ 19 = omega arith in let b : 2 ^ (log - 5) ≤ 2 ^ 19 = pow-le-pow_right two less in omega arith
