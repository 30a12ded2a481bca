-- What jobs come to.
use Rattle.std.specs.Prelude.{ℕ}

-- a map of this crate's tables has at most so many pairs
abbrev pub most_pairs : ℕ
most_pairs = 262144
