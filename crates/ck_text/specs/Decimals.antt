-- Words that are numbers, each in its one spelling.
use Rattle.std.specs.Prelude.{◌≡◌, ℕ, ◌<◌, ◌≤◌, ◌^◌, List, decimal}

-- a word that is a number of 64 bits, in its one spelling
abbrev pub IsNumber : List ℕ → Type 0
IsNumber w = (n : ℕ) × (n < 2 ^ 64) × (w ≡ decimal n)

-- the same of 128 bits
abbrev pub IsWideNumber : List ℕ → Type 0
IsWideNumber w = (n : ℕ) × (n < 2 ^ 128) × (w ≡ decimal n)

-- so many digits, of which this is the first, are the one spelling of a number
abbrev pub IsSpelt : ℕ → ℕ → Type 0
IsSpelt first count = (0 < count) × (first ≡ 48 → count ≤ 1)
