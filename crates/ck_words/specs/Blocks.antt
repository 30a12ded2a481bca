-- What is seen of an arena of blocks of 8 words: where it lies, and the places of the blocks that are out.
use Rattle.std.specs.Prelude.{◌≡◌, ℕ, zero, suc, ◌+◌, ◌*◌, ◌^◌, ◌<◌, ◌≤◌, ◌⊎◌, ◌≢◌, ◌↔◌, ◌||◌, Bool, true, false, List, [], ◌∷◌, length, slice_index, nat_eq, if◌then◌else◌, refl}
use Rattle.std.specs.Ordering.{nat_cmp}
use Rattle.std.specs.Coded.{Coded, code_by, coded×, coded_ℕ}
use Rattle.std.specs.FinSet as set

-- an arena of count blocks from the word first on, of which those at some places are out
pub record BlockArena : Type 0 where
  pub first : ℕ
  pub count : ℕ
  pub out : set.FinSet nat_cmp

-- an arena is stored as its fields
abbrev pub block_arena_code : Coded BlockArena
block_arena_code =
    code_by
    (ℕ × (ℕ × set.FinSet nat_cmp))
    (coded× coded_ℕ (coded× coded_ℕ (set.code coded_ℕ)))
    (λ a. (a.first, (a.count, a.out)))
    (λ a. record { first = a.0; count = a.1.0; out = a.1.1 })
    (λ _. refl)

-- the arena with these blocks out, and no others
abbrev pub with_blocks_out : BlockArena → set.FinSet nat_cmp → BlockArena
with_blocks_out a out = record a { out = out }

-- the block at the place is out
abbrev pub IsBlockOut : BlockArena → ℕ → Type 0
IsBlockOut a at = set.contains a.out at ≡ true

-- the place is that of a block of the arena
abbrev pub IsBlock : BlockArena → ℕ → Type 0
IsBlock a at = (n : ℕ) × ((n < a.count) × (at ≡ a.first + 8 * n))

-- the word is one of the block's
abbrev pub BlockCovers : ℕ → ℕ → Type 0
BlockCovers at w = (at ≤ w) × (w < at + 8)

-- the blocks that are out are of the arena's, and no word is in two of them
pub record AreBlocksApart (a : BlockArena) : Type 0 where
  pub placed : (at : ℕ) → IsBlockOut a at → IsBlock a at
  pub one : (w at other : ℕ) → IsBlockOut a at → IsBlockOut a other → BlockCovers at w → BlockCovers other w → at ≡ other

-- a block is out of the new arena exactly where it is this one or was out of the old one
abbrev pub AddsBlock : BlockArena → BlockArena → ℕ → Type 0
AddsBlock old new at = (q : ℕ) → IsBlockOut new q ↔ ((q ≡ at) ⊎ IsBlockOut old q)

-- a block is out of the new arena exactly where it isn't this one and was out of the old one
abbrev pub DropsBlock : BlockArena → BlockArena → ℕ → Type 0
DropsBlock old new at = (q : ℕ) → IsBlockOut new q ↔ ((q ≢ at) × IsBlockOut old q)

-- whether the number is one of the first k numbers
abbrev pub among : List ℕ → ℕ → ℕ → Bool
among numbers zero n = false
among numbers (suc k) n = nat_eq (slice_index numbers k) n || among numbers k n

-- the places of those of the first blocks that aren't among the first free numbers
abbrev pub out_places : List ℕ → ℕ → ℕ → ℕ → List ℕ
out_places numbers free first zero = []
out_places numbers free first (suc n) =
    if among numbers free n
    then out_places numbers free first n
    else (first + 8 * n) ∷ out_places numbers free first n

-- the arena that the numbers of its free blocks stand for
unfoldable pub blocks_of : ℕ → ℕ → List ℕ → BlockArena
blocks_of first free numbers =
    record {
      first = first;
      count = length numbers;
      out = set.from_list (out_places numbers free first (length numbers));
    }

-- the first numbers are those of the free blocks, each once
pub record IsBlocksOf (first free : ℕ) (numbers : List ℕ) : Type 0 where
  pub place : first + 8 * length numbers ≤ 2 ^ 32
  pub free_le : free ≤ length numbers
  pub within : (i : ℕ) → i < free → slice_index numbers i < length numbers
  pub distinct : (i : ℕ) → i < free → among numbers i (slice_index numbers i) ≡ false
  pub counted : free + set.len ((blocks_of first free numbers).out) ≡ length numbers
