-- What the arena of a table says of its writer's account.
use Rattle.std.specs.Prelude.{◌≡◌, ◌⊎◌, ℕ, ◌+◌, ◌^◌, List, [], ◌∷◌, ◌++◌}
use Rattle.ck_words.specs.Buddies.{Piece, piece, Arena}
use Rattle.ck_epoch.specs.declared.item.Retired.{Retired}
use Rattle.ck_arena.specs.Arena.{AreItems, IsKept as KeepsPieces}
use Rattle.ck_htlaw.specs.Layout.{arena, arena_words, at_of, log_of, IsTableItem}

-- the piece of the region of this root
abbrev pub region_piece : ℕ → Piece
region_piece root = piece (at_of root) (log_of root + 2)

-- the arena is that of a table with so many counters, in pieces of 32 words and more
pub record IsArenaOfTable (counters : ℕ) (a : Arena) : Type 0 where
  pub first : a.first ≡ arena counters
  pub long : 2 ^ a.log_len ≡ arena_words counters
  pub log_min : a.log_min ≡ 5

-- The arena is that of the table: of it the present region is out, each region of the table that isn't given back, and nothing else
pub record IsKept (counters place root : ℕ) (items : List Retired) (a : Arena) : Type 0 where
  pub of_table : IsArenaOfTable counters a
  pub pieces : KeepsPieces (IsTableItem counters place) place (region_piece root) items a

-- all of these are items of the table
abbrev pub AreTableItems : ℕ → ℕ → List Retired → Type 0
AreTableItems counters place items = AreItems (IsTableItem counters place) items

-- a region of the table more isn't given back
abbrev pub AddsRegion : ℕ → ℕ → List Retired → List Retired → Type 0
AddsRegion counters place before after = (k : Retired) × IsTableItem counters place k.item × (after ≡ before ++ k ∷ [])

-- the same items aren't given back, or a region of the table more
abbrev pub MayAddRegion : ℕ → ℕ → List Retired → List Retired → Type 0
MayAddRegion counters place before after = (after ≡ before) ⊎ AddsRegion counters place before after
