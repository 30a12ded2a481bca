-- Rows that are kept in columns.
use Rattle.std.specs.Prelude.{◌≡◌, ℕ, ◌+◌, ◌-◌, ◌<◌, ◌≤◌, ◌^◌, ◌%◌, nat_lt, nat_le, if◌then◌else◌, List, [], ◌∷◌, length, get_or, slice_get, Some}
use Rattle.ck_script.specs.declared.rows.Row.{Row}

-- by how much lines run ahead of rows at place i, where each jump is a place and a number for the places from it on, and d is that of the places before them
abbrev pub ahead_after : ℕ → List (ℕ × ℕ) → ℕ → ℕ
ahead_after d [] i = d
ahead_after d (j ∷ jumps) i = if nat_le j.0 i then ahead_after j.1 jumps i else d

-- row 0 is that of line 1, up to the first jump
abbrev pub ahead_at : List (ℕ × ℕ) → ℕ → ℕ
ahead_at jumps i = ahead_after 1 jumps i

-- a later jump isn't at an earlier place
abbrev pub AreAscending : List (ℕ × ℕ) → Type 0
AreAscending jumps = (a b : ℕ) (x y : ℕ × ℕ) → a ≤ b → slice_get jumps a ≡ Some x → slice_get jumps b ≡ Some y → x.0 ≤ y.0

-- the jumps of the rows before this place, and the number after the last one
pub record AreJumps (jumps : List (ℕ × ℕ)) (ahead : ℕ) (place : ℕ) : Type 0 where
  pub ascending : AreAscending jumps
  pub reached : (j : ℕ) (x : ℕ × ℕ) → slice_get jumps j ≡ Some x → x.0 ≤ place
  pub last : (i : ℕ) → place ≤ i → ahead_at jumps i ≡ ahead

-- the elements stand where they stood, and there may be more
abbrev pub AreMore : List ℕ → List ℕ → Type 0
AreMore old new = (length old ≤ length new) × ((p : ℕ) → p < length old → get_or new p 0 ≡ get_or old p 0)

-- the kind of a row, where this stands beside it
abbrev pub kind_of : ℕ → ℕ
kind_of k = if nat_lt k 128 then k else k - 128

-- its number, where also this stands in its cell
abbrev pub number_in : List ℕ → ℕ → ℕ → ℕ
number_in wides k low = if nat_lt k 128 then low else get_or wides low 0

module _ {R : Type 0} where
  -- the row at place i, of what stands beside it and in its cell
  abbrev pub row_at : List (ℕ × ℕ) → List ℕ → ℕ → ℕ → ℕ × R → Row R
  row_at jumps wides i k cell = record { line = (i + ahead_at jumps i) % 2 ^ 64; kind = kind_of k; number = number_in wides k cell.0; rest = cell.1 }

  -- the rows from place i on
  abbrev pub rows_of : List (ℕ × ℕ) → List ℕ → ℕ → List ℕ → List (ℕ × R) → List (Row R)
  rows_of jumps wides i (k ∷ kinds) (cell ∷ cells) = row_at jumps wides i k cell ∷ rows_of jumps wides (i + 1) kinds cells
  rows_of jumps wides i _ _ = []

  -- each place among the wide numbers is one of theirs
  abbrev pub AreWithin : List ℕ → List ℕ → List (ℕ × R) → Type 0
  AreWithin wides (k ∷ kinds) (cell ∷ cells) = (128 ≤ k → cell.0 < length wides) × AreWithin wides kinds cells
  AreWithin wides _ _ = Unit {0}

  -- columns of one length, whose jumps tell the lines of all rows
  pub record AreRowsKept (jumps : List (ℕ × ℕ)) (wides : List ℕ) (ahead : ℕ) (kinds : List ℕ) (cells : List (ℕ × R)) : Type 0 where
    pub same : length kinds ≡ length cells
    pub within : AreWithin wides kinds cells
    pub jumped : AreJumps jumps ahead (length kinds)
