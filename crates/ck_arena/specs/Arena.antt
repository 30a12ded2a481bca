-- What the arena of a structure says of its writer's account: which pieces are out, and why. The structure's words begin at `place` among those
-- of the domain's client.
use Rattle.std.specs.Prelude.{◌≡◌, ◌≢◌, ◌⊎◌, ℕ, ◌+◌, ◌-◌, ◌*◌, ◌^◌, ◌≤◌, List, [], ◌∷◌, ◌++◌, length, drop, All}
use Rattle.std.specs.List.{Contains}
use Rattle.ck_words.specs.declared.back.Back.{Back}
use Rattle.ck_words.specs.Buddies.{Piece, piece, Arena, PieceCovers, IsPieceOut, IsAlignedIn, HasWordOut}
use Rattle.ck_epoch.specs.declared.item.Item.{Item}
use Rattle.ck_epoch.specs.declared.item.Retired.{Retired}
use Rattle.ck_epoch.specs.Lists.{homes}
use Rattle.ck_epoch.specs.State.{TokenState, queue}

-- the piece of a retired item
abbrev pub retired_piece : ℕ → Retired → Piece
retired_piece place k = piece (k.item.at - place) k.item.log

-- The items that aren't given back: those whose answer waits, which are as many as answers wait, and those that are pending
abbrev pub unreturned : TokenState → List Back → List Retired
unreturned t waiting = drop (length t.dispatched - length waiting) (queue t.dispatched) ++ queue t.pending

-- the answers that wait are the homes of the items that were dispatched last
abbrev pub AreBacks : (Item → Back) → TokenState → List Back → Type 0
AreBacks home t waiting = waiting ≡ homes home (drop (length t.dispatched - length waiting) (queue t.dispatched))

-- `IsItem` says which items are the structure's
module _ (IsItem : Item → Type 0) (place : ℕ) where
  -- of these items no two of the structure are the same piece
  abbrev pub AreOnce : List Retired → Type 0
  AreOnce [] = Unit {0}
  AreOnce (k ∷ ks) = All (λ (j : Retired). IsItem k.item → IsItem j.item → retired_piece place k ≢ retired_piece place j) ks × AreOnce ks

  -- a piece that is out, and not the present one
  abbrev pub IsOutBeside : Arena → Piece → Retired → Type 0
  IsOutBeside a present k = IsItem k.item → IsPieceOut a (retired_piece place k) × (retired_piece place k ≢ present)

  -- The present piece is out. So is each item of the structure that isn't given back, and these are others, each once. Nothing else is out
  pub record IsKept (present : Piece) (items : List Retired) (a : Arena) : Type 0 where
    pub current : IsPieceOut a present
    pub retired : All (IsOutBeside a present) items
    pub once : AreOnce items
    pub only : (p : Piece) → IsPieceOut a p → (p ≡ present) ⊎ ((k : Retired) × Contains items k × (retired_piece place k ≡ p))

-- all of these are the structure's
abbrev pub AreItems : (Item → Type 0) → List Retired → Type 0
AreItems IsItem items = All (λ (k : Retired). IsItem k.item) items

-- the arena is kept in a domain of its own, where all items are the structure's
abbrev pub KeepsAll : (Item → Type 0) → ℕ → Piece → List Retired → Arena → Type 0
KeepsAll IsItem place present items a = IsKept IsItem place present items a × AreItems IsItem items

-- the home of each item is its own piece
abbrev pub GoHome : (Item → Back) → ℕ → Type 0
GoHome home place = (k : Retired) → piece (home k.item).at (home k.item).log ≡ retired_piece place k

-- every range of this length at a multiple of it has a word that is out
abbrev pub HasNoneFree : Arena → ℕ → Type 0
HasNoneFree a log = (at : ℕ) → IsAlignedIn a (piece at log) → HasWordOut a (piece at log)

-- the pieces share a word
abbrev pub Meet : Piece → Piece → Type 0
Meet p q = (w : ℕ) × PieceCovers p w × PieceCovers q w

-- Of so many words from `first` on, each range of 2 ^ log words, at a multiple of it from there, has a word of the present piece or of one of these
-- items
abbrev pub AreAllInUse : ℕ → ℕ → ℕ → Piece → List Retired → ℕ → Type 0
AreAllInUse first words place present items log = (n : ℕ) → (n + 1) * 2 ^ log ≤ words
    → Meet (piece (first + n * 2 ^ log) log) present ⊎ ((k : Retired) × Contains items k × Meet (piece (first + n * 2 ^ log) log) (retired_piece place k))
