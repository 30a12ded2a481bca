-- Which numbers are keys of a table.
use Rattle.std.specs.Prelude.{ℕ, ◌+◌, ◌*◌, ◌<◌, ◌^◌, ◌-◌}

-- 0 and the greatest number of 128 bits are reserved
abbrev pub IsKey : ℕ → Type 0
IsKey n = (0 < n) × (n < 2 ^ 128 - 1)

-- the number of 128 bits that two words of 64 bits make
abbrev pub number_of_words : ℕ → ℕ → ℕ
number_of_words high low = high * 2 ^ 64 + low

-- the two words are those of a key
pub record AreKeyWords (high low : ℕ) : Type 0 where
  pub key : IsKey (number_of_words high low)
  pub word : low < 2 ^ 64
