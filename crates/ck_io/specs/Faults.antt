-- Counts of faults: a failure of the outside is believed only where its count rose.
use Rattle.std.specs.Prelude.{ℕ, ◌+◌, ◌-◌, ◌^◌, ◌≤◌, min, List}

-- one more, but a count stands still at the end of a u64
abbrev pub next : ℕ → ℕ
next count = min (count + 1) (2 ^ 64 - 1)

-- the count rose: it is greater than before, or it stands at the end of a u64
abbrev pub Rose : ℕ → ℕ → Type 0
Rose before now = next before ≤ now

-- no name's count fell
abbrev pub NeverFall : (List ℕ → ℕ) → (List ℕ → ℕ) → Type 0
NeverFall before now = (name : List ℕ) → before name ≤ now name
