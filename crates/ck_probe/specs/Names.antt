-- Names, as the lists of their bytes.
use Rattle.std.specs.Prelude.{◌≡◌, ℕ, ◌-◌, ◌≤◌, List, ◌++◌, length, take, All, replicate}
use Rattle.std.specs.Char.{IsAsciiGraphic}

-- from 1 to 48 bytes, each printable ASCII but the space: 0x21 to 0x7E
pub record IsName (bytes : List ℕ) : Type 0 where
  pub not_empty : 1 ≤ length bytes
  pub in_limit : length bytes ≤ 48
  pub graphic : All IsAsciiGraphic bytes

-- the bytes, filled up to 48 with zero bytes
abbrev pub padded : List ℕ → List ℕ
padded bytes = bytes ++ replicate (48 - length bytes) 0

-- the first `len` bytes are a name, and zero bytes fill it up
pub record HoldsName (bytes : List ℕ) (len : ℕ) : Type 0 where
  pub name : IsName (take len bytes)
  pub len_is : length (take len bytes) ≡ len
  pub filled : bytes ≡ padded (take len bytes)
