-- What a client holds of an arena of buddies.
use Rattle.std.specs.Prelude.{◌≢◌, ℕ, ◌<◌, List, length, slice_index_or}
use Rattle.ck_words.specs.Buddies.{Piece, piece, Arena, IsPieceOut}

-- the piece at an index of a list of places and logs
abbrev pub held_at : List (ℕ × ℕ) → ℕ → Piece
held_at held i = let x = slice_index_or held i (0, 0) in piece x.0 x.1

-- the pieces of the list are out, and none stands twice
pub record HoldsPieces (a : Arena) (held : List (ℕ × ℕ)) : Type 0 where
  pub out : (i : ℕ) → i < length held → IsPieceOut a (held_at held i)
  pub once : (i j : ℕ) → i < length held → j < length held → i ≢ j → held_at held i ≢ held_at held j
