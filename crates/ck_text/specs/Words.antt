-- A line as words.
use Rattle.std.specs.Prelude.{◌≢◌, ℕ, List, [], ◌∷◌, ◌++◌}
use Rattle.std.specs.List.{AllByRecursion, join_with_byte}
use Rattle.ck_text.specs.Lines.{parts}

-- the words of a line: it is split at each space, so that two spaces in a row make an empty word
abbrev pub words : List ℕ → List (List ℕ)
words line = parts 32 line

-- the bytes make one word: they have no space and no line feed
abbrev pub IsWord : List ℕ → Type 0
IsWord word = AllByRecursion (λ b. (b ≢ 32) × (b ≢ 10)) word

-- the words joined by single spaces, and a line feed
abbrev pub line : List (List ℕ) → List ℕ
line words = join_with_byte 32 words ++ 10 ∷ []

-- the first byte of the first word, or 0
abbrev pub first_byte : List (List ℕ) → ℕ
first_byte [] = 0
first_byte ([] ∷ ws) = 0
first_byte ((b ∷ w) ∷ ws) = b
