-- What the writer's arena hands out is free by the account, and what it takes back is free then.
use Rattle.std.proofs.Common.{◌≡◌, ℕ, ◌+◌, ◌-◌, ◌*◌, ◌^◌, ◌<◌, ◌≤◌, ⊎_elim, inl, inr, List, [], ◌∷◌, ◌++◌, sym, ap, ◌∙◌, pow-add, arith}
use Rattle.std.specs.Prelude.{All}
use Rattle.std.proofs.lemmas.Bool.{cases_lt}
use Rattle.std.proofs.lemmas.Nat.{pow_pos}
use Rattle.std.proofs.Math.Nat.{pow-le-pow_right}
use Rattle.std.proofs.lemmas.List.Elements.{All-tail, All-weaker}
use Rattle.ck_words.specs.Buddies.{Arena, Piece, piece, IsPieceOut, IsFree, IsAlignedIn, ArePiecesApart, AddsPiece, DropsPiece}
use Rattle.ck_epoch.specs.declared.item.Item.{Item}
use Rattle.ck_epoch.specs.declared.item.Retired.{Retired}
use Rattle.ck_reclaim.specs.Pieces.{AreApart}
use Rattle.ck_htplan.proofs.Orders.{four}
use Rattle.ck_htlaw.specs.Layout.{at_of, log_of, region_item, IsTableItem}
use Rattle.ck_htlaw.specs.Known.{IsRoot}
use Rattle.ck_arena.specs.Arena.{retired_piece, HasNoneFree, IsOutBeside}
use Rattle.ck_arena.proofs.Taking.{apart, kept_then}
use Rattle.ck_htwrite.specs.Arena.{region_piece, IsArenaOfTable, IsKept}

-- a piece that went back is free
pub freed : (a b : Arena) (p : Piece) → ArePiecesApart a → IsPieceOut a p → DropsPiece a b p → IsFree b p
freed a b p one is_out drops w covers word = let q = word.0 in let was = (drops q).0 word.1.0 in was.0 (one.one w q p was.1 is_out word.1.1 covers)

-- no piece of the arena is longer than it
pub log_le : (a b : ℕ) → 2 ^ a ≤ 2 ^ b → a ≤ b
log_le a b le = ⊎_elim
    (λ (l : b < a). let two : 0 < 2 = omega arith in let p : 2 ^ (b + 1) ≤ 2 ^ a = pow-le-pow_right two (let z : b + 1 ≤ a = omega arith in z) in let d = pow-add 2 b 1 in let some = pow_pos b in absurd (omega arith))
    (λ (l : a ≤ b). l)
    (cases_lt b a)

pub none_longer : (n log : ℕ) (a : Arena) → IsArenaOfTable n a → 32 * n < 2 ^ log → HasNoneFree a log
none_longer n log a table long at aligned = absurd (let e = aligned.1.0 in let f = aligned.1.1 in let g = table.long in omega arith)

pub log_fits : (n log : ℕ) (a : Arena) → IsArenaOfTable n a → 2 ^ log ≤ 32 * n → log ≤ a.log_len
log_fits n log a table short = log_le log a.log_len (let g = table.long in omega arith)

module _ (n at c : ℕ) (low : 3 ≤ c) (high : c ≤ 19) where
  abbrev pub taken_root : ℕ
  taken_root = 32 * at + c

  place_is : at_of taken_root ≡ at
  place_is = omega arith

  pub log_is : log_of taken_root ≡ c
  log_is = omega arith

  -- its piece is the one that was taken
  pub piece_is : region_piece taken_root ≡ piece at (c + 2)
  piece_is i = piece (place_is i) (log_is i + 2)

  words_are : 4 * 2 ^ log_of taken_root ≡ 2 ^ (c + 2)
  words_are = ap (λ (k : ℕ). 4 * 2 ^ k) log_is ∙ sym (four c)

  -- a multiple of the length is one of 32
  multiple : (k : ℕ) → (m : ℕ) × (k * 2 ^ (c + 2) ≡ 32 * m)
  multiple k = (k * 2 ^ (c - 3), ap (λ (j : ℕ). k * 2 ^ j) (let z : c + 2 ≡ c - 3 + 5 = omega arith in z) ∙ (ap (λ (j : ℕ). k * j) (pow-add 2 (c - 3) 5) ∙ shift k (2 ^ (c - 3))))
    where
      shift : (k j : ℕ) → k * (j * 32) ≡ 32 * (k * j)
      shift k j = omega arith

  pub is_root : (a : Arena) → IsArenaOfTable n a → IsAlignedIn a (piece at (c + 2)) → IsRoot n taken_root
  is_root a table placed = record {
    piece = record {
      some_lines = omega (arith, log_is);
      low = (let f = table.first in let e = placed.1.0 in omega (arith, place_is));
      high = (let f = table.first in let e = placed.1.1 in let k = table.long in omega (arith, place_is, words_are));
      aligned = (let f = table.first in let e = placed.1.0 in let m = multiple placed.0 in let d = m.1 in omega (arith, place_is));
    };
    few = omega (arith, log_is);
  }

  pub taken_small : (a : Arena) → n ≤ 524288 → IsArenaOfTable n a → IsAlignedIn a (piece at (c + 2)) → at ≤ 2 ^ 32
  taken_small a few table placed = let f = table.first in let e = placed.1.1 in let k = table.long in omega arith

-- the part of a list behind another
pub behind : {X : Type 0} (P : X → Type 0) (xs ys : List X) → All P (xs ++ ys) → All P ys
behind P [] ys h = h
behind P (x ∷ xs) ys h = behind P xs ys (All-tail P x (xs ++ ys) h)

-- a free piece is apart from the present region and from each item that isn't given back
module _ (n place current root : ℕ) (items : List Retired) (a : Arena) (kept : IsKept n place current items a) (free : IsFree a (region_piece root)) where
  pub apart_current : AreApart (region_item place current) (region_item place root)
  apart_current = ⊎_elim (λ (l : at_of current + 2 ^ (log_of current + 2) ≤ at_of root). inl (omega arith)) (λ (l : at_of root + 2 ^ (log_of root + 2) ≤ at_of current). inr (omega arith))
      (apart a (region_piece root) (region_piece current) free kept.pieces.current)

  pub apart_items : All (λ (k : Retired). IsTableItem n place k.item → AreApart k.item (region_item place root)) items
  apart_items = All-weaker (IsOutBeside (IsTableItem n place) place a (region_piece current)) (λ (k : Retired). IsTableItem n place k.item → AreApart k.item (region_item place root))
      (λ k out mine. let from = mine.0 in ⊎_elim (λ (l : k.item.at - place + 2 ^ k.item.log ≤ at_of root). inl (omega arith)) (λ (l : at_of root + 2 ^ (log_of root + 2) ≤ k.item.at - place). inr (omega arith))
      (apart a (region_piece root) (retired_piece place k) free (out mine).0)) items kept.pieces.retired

-- the arena once the region of this root is taken and is the present one, and the old one is retired
module _ (n place old root : ℕ) (items : List Retired) (a b : Arena) (k : Retired) (is : k.item ≡ region_item place old) (kept : IsKept n place old items a) (new : ¬ IsPieceOut a (region_piece root))
    (adds : AddsPiece a b (region_piece root)) (table : IsArenaOfTable n b) where
  piece_of : retired_piece place k ≡ region_piece old
  piece_of = ap (λ (i : Item). piece (i.at - place) i.log) is ∙ ap (λ (m : ℕ). piece m (log_of old + 2)) (let z : place + at_of old - place ≡ at_of old = omega arith in z)

  pub table_kept_then : IsKept n place root (items ++ k ∷ []) b
  table_kept_then = record {
    of_table = table;
    pieces = kept_then (IsTableItem n place) place (region_piece old) (region_piece root) items a b k piece_of kept.pieces new adds;
  }
