-- The probe order of a map of 2 ^ c slots, which lie in lines of eight.
use Rattle.std.specs.Prelude.{◌≡◌, ℕ, ◌+◌, ◌-◌, ◌*◌, ◌/◌, ◌%◌, ◌^◌, ◌<◌, bit_or}

-- how many lines of eight slots there are
abbrev pub line_count : ℕ → ℕ
line_count c = 2 ^ (c - 3)

-- how far a hash's next line is from the one before: odd unless there is one line
abbrev pub stride_of : ℕ → ℕ → ℕ
stride_of h c = bit_or (h / 2 ^ 32) 1 % line_count c

-- the line of step i of the hash h
abbrev pub line_of : ℕ → ℕ → ℕ → ℕ
line_of h c i = (h % line_count c + i / 8 * stride_of h c) % line_count c

-- the place in its line of step i of the hash h
abbrev pub place_of : ℕ → ℕ → ℕ
place_of h i = (h / 2 ^ 17 % 8 + i % 8) % 8

-- the slot of step i of the hash h: all eight of a line come before the next line
unfoldable pub slot_of : ℕ → ℕ → ℕ → ℕ
slot_of h c i = 8 * line_of h c i + place_of h i

-- the step of the hash h that comes to slot s; a stride's inverse is its power with the exponent line_count c - 1
unfoldable pub step_of : ℕ → ℕ → ℕ → ℕ
step_of h c s =
    8 * ((s / 8 + (line_count c - h % line_count c)) * stride_of h c ^ (line_count c - 1) % line_count c)
    + (s % 8 + (8 - h / 2 ^ 17 % 8)) % 8

-- f takes the numbers below n to numbers below n, and meets each of them once
pub record IsBijectionBelow (n : ℕ) (f : ℕ → ℕ) : Type 0 where
  pub within : (i : ℕ) → i < n → f i < n
  pub injective : (i j : ℕ) → i < n → j < n → f i ≡ f j → i ≡ j
  pub onto : (s : ℕ) → s < n → (i : ℕ) × (i < n) × (f i ≡ s)

-- g finds the number below n from which f came
pub record IsInverseBelow (n : ℕ) (f g : ℕ → ℕ) : Type 0 where
  pub within : (s : ℕ) → s < n → g s < n
  pub after : (i : ℕ) → i < n → g (f i) ≡ i
  pub before : (s : ℕ) → s < n → f (g s) ≡ s
