-- What a sink has taken.
use Rattle.std.specs.Prelude.{◌≡◌, ℕ, ◌≤◌, List, ◌++◌, length, take, Option, option_map}

-- what was taken, where it is told, and then these bytes; untold it stays untold
abbrev pub appended : Option (List ℕ) → List ℕ → Option (List ℕ)
appended taken bytes = option_map (λ before. before ++ bytes) taken

-- a prefix of the bytes was appended, maybe none or all of them
abbrev pub AppendsPrefix : Option (List ℕ) → Option (List ℕ) → List ℕ → Type 0
AppendsPrefix old new bytes = (n : ℕ) × (n ≤ length bytes) × (new ≡ appended old (take n bytes))
