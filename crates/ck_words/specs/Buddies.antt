-- What is seen of an arena of buddies: where it lies, and the pieces that are out.
use Rattle.std.specs.Prelude.{◌≡◌, ℕ, zero, suc, ◌+◌, ◌-◌, ◌*◌, ◌^◌, ◌<◌, ◌≤◌, ◌⊎◌, ◌≢◌, ◌↔◌, ◌&&◌, Bool, true, List, [], ◌∷◌, ◌++◌, length, slice_index, nat_eq, nat_le, nat_lt, if◌then◌else◌, refl}
use Rattle.std.specs.declared.cmp.Ordering.{Ordering}
use Rattle.std.specs.Ordering.{nat_cmp}
use Rattle.std.specs.Cmp.Lexicographic.{slice_cmp}
use Rattle.std.specs.List.{list_any}
use Rattle.std.specs.Coded.{Coded, code_by, coded×, coded_ℕ}
use Rattle.std.specs.FinSet as set
use Rattle.ck_words.specs.Tree.{IsConsistent}

-- a piece: the place of its first word, and the log of its length
pub record Piece : Type 0 where
  pub at : ℕ
  pub log : ℕ

-- the piece of 2 ^ log words at a place
abbrev pub piece : ℕ → ℕ → Piece
piece at log = record { at = at; log = log }

-- pieces in the order of their places, then of their lengths
abbrev pub piece_cmp : Piece → Piece → Ordering
piece_cmp p q = slice_cmp nat_cmp (p.at ∷ p.log ∷ []) (q.at ∷ q.log ∷ [])

-- an arena of 2 ^ log_len words from the word first on, in pieces of 2 ^ log_min words and more, of which some are out
pub record Arena : Type 0 where
  pub first : ℕ
  pub log_len : ℕ
  pub log_min : ℕ
  pub out : set.FinSet piece_cmp

-- a piece is stored as its two numbers
abbrev pub piece_code : Coded Piece
piece_code = code_by (ℕ × ℕ) (coded× coded_ℕ coded_ℕ) (λ p. (p.at, p.log)) (λ p. piece p.0 p.1) (λ _. refl)

-- an arena is stored as its fields
abbrev pub arena_code : Coded Arena
arena_code =
    code_by
    (ℕ × (ℕ × (ℕ × set.FinSet piece_cmp)))
    (coded× coded_ℕ (coded× coded_ℕ (coded× coded_ℕ (set.code piece_code))))
    (λ a. (a.first, (a.log_len, (a.log_min, a.out))))
    (λ a. record { first = a.0; log_len = a.1.0; log_min = a.1.1.0; out = a.1.1.1 })
    (λ _. refl)

-- the arena with these pieces out, and no others
abbrev pub with_pieces_out : Arena → set.FinSet piece_cmp → Arena
with_pieces_out a out = record a { out = out }

-- the piece is out
abbrev pub IsPieceOut : Arena → Piece → Type 0
IsPieceOut a p = set.contains a.out p ≡ true

-- the word is one of the piece's
abbrev pub PieceCovers : Piece → ℕ → Type 0
PieceCovers p w = (p.at ≤ w) × (w < p.at + 2 ^ p.log)

-- the word is in a piece that is out
abbrev pub IsWordOut : Arena → ℕ → Type 0
IsWordOut a w = (p : Piece) × (IsPieceOut a p × PieceCovers p w)

-- some word of the piece is out
abbrev pub HasWordOut : Arena → Piece → Type 0
HasWordOut a p = (w : ℕ) × (PieceCovers p w × IsWordOut a w)

-- no word of the piece is out
abbrev pub IsFree : Arena → Piece → Type 0
IsFree a p = (w : ℕ) → PieceCovers p w → ¬ IsWordOut a w

-- the piece lies within the arena, and its distance from the arena's start is a multiple of its length
abbrev pub IsAlignedIn : Arena → Piece → Type 0
IsAlignedIn a p = (n : ℕ) × ((p.at ≡ a.first + n * 2 ^ p.log) × (p.at + 2 ^ p.log ≤ a.first + 2 ^ a.log_len))

-- the pieces that are out are of the arena's, and no word is in two of them
pub record ArePiecesApart (a : Arena) : Type 0 where
  pub placed : (p : Piece) → IsPieceOut a p → (a.log_min ≤ p.log) × ((p.log ≤ a.log_len) × IsAlignedIn a p)
  pub one : (w : ℕ) (p q : Piece) → IsPieceOut a p → IsPieceOut a q → PieceCovers p w → PieceCovers q w → p ≡ q

-- a piece is out of the new arena exactly where it is this one or was out of the old one
abbrev pub AddsPiece : Arena → Arena → Piece → Type 0
AddsPiece old new p = (q : Piece) → IsPieceOut new q ↔ ((q ≡ p) ⊎ IsPieceOut old q)

-- a piece is out of the new arena exactly where it isn't this one and was out of the old one
abbrev pub DropsPiece : Arena → Arena → Piece → Type 0
DropsPiece old new p = (q : Piece) → IsPieceOut new q ↔ ((q ≢ p) × IsPieceOut old q)

-- whether the word is in a piece that is out
abbrev pub is_word_out : Arena → ℕ → Bool
is_word_out a w = list_any (λ p. nat_le p.at w && nat_lt w (p.at + 2 ^ p.log)) (set.items a.out)

-- how many of an arena's first n words are free
abbrev pub free_below : Arena → ℕ → ℕ
free_below a zero = 0
free_below a (suc n) = free_below a n + (if is_word_out a (a.first + n) then 0 else 1)

-- how many words are free
unfoldable pub free_words : Arena → ℕ
free_words a = free_below a (2 ^ a.log_len)

-- of the first n pieces of 2 ^ log words those that are out, by the halvings of the tree's nodes
abbrev pub out_in_row : List ℕ → ℕ → ℕ → ℕ → ℕ → List Piece
out_in_row halvings first log_len log zero = []
out_in_row halvings first log_len log (suc n) =
    if nat_eq (slice_index halvings (2 ^ (log_len - log) + n)) 26
    then piece (first + n * 2 ^ log) log ∷ out_in_row halvings first log_len log n
    else out_in_row halvings first log_len log n

-- the pieces that are out, of the shortest lengths
abbrev pub out_in_rows : List ℕ → ℕ → ℕ → ℕ → ℕ → List Piece
out_in_rows halvings first log_len log_min zero = []
out_in_rows halvings first log_len log_min (suc rows) =
    out_in_row halvings first log_len (log_min + rows) (2 ^ (log_len - (log_min + rows))) ++ out_in_rows halvings first log_len log_min rows

-- the arena that the tree stands for
unfoldable pub arena_of : ℕ → ℕ → ℕ → List ℕ → Arena
arena_of first log_len log_min halvings =
    record {
      first = first;
      log_len = log_len;
      log_min = log_min;
      out = set.from_list (out_in_rows halvings first log_len log_min (suc log_len - log_min));
    }

-- the tree's leaves are the shortest pieces, its nodes are consistent, and the number of free words is kept
pub record IsArenaOf (first log_len log_min free : ℕ) (halvings : List ℕ) : Type 0 where
  pub least : 3 ≤ log_min
  pub shortest : log_min ≤ log_len
  pub most : log_len ≤ 24
  pub place : first ≤ 2 ^ 32
  pub nodes : length halvings ≡ 2 * 2 ^ (log_len - log_min)
  pub consistent : IsConsistent halvings
  pub free_is : free ≡ free_words (arena_of first log_len log_min halvings)
