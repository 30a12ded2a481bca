-- Entries: a name and a value packed into a block of eight words.
use Rattle.std.specs.Prelude.{◌≡◌, ℕ, ◌≤◌, ◌<◌, ◌^◌, List, ◌∷◌, length, take, drop, slice_index, All}
use Rattle.std.specs.Char.{IsAsciiGraphic}
use Rattle.ck_probe.specs.Names.{IsName}
use Rattle.ck_probe.specs.Words.{bytes_of, words_of}

-- the name's length, the value, and the name's bytes, filled up to 48 with zero bytes, as six words
unfoldable pub entry_of : List ℕ → ℕ → List ℕ
entry_of name value = length name ∷ value ∷ words_of 6 name

-- the block packs a name and a value
abbrev pub IsPacked : List ℕ → Type 0
IsPacked block = (name : List ℕ) × (value : ℕ) × IsName name × (value < 2 ^ 64) × (block ≡ entry_of name value)

-- word 0 is from 1 to 48; of the bytes of words 2 to 7 that many are a name's, and all later ones are zero
pub record IsEntry (block : List ℕ) : Type 0 where
  pub not_empty : 1 ≤ slice_index block 0
  pub in_limit : slice_index block 0 ≤ 48
  pub graphic : All IsAsciiGraphic (take (slice_index block 0) (bytes_of (drop 2 block)))
  pub zeros : All (λ b. b ≡ 0) (drop (slice_index block 0) (bytes_of (drop 2 block)))
