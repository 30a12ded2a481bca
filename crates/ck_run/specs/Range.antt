-- The part of an account on a range of words, for structures that share a table.
use Rattle.std.specs.Prelude.{ℕ, ◌<◌, ◌≤◌, Bool, ◌&&◌, nat_lt, nat_le, ◌⊎◌, List}
use Rattle.std.specs.List.{filter}
use Rattle.ck_run.specs.declared.account.Step.{Step}
use Rattle.ck_run.specs.declared.account.Step.TheVariants.{Load, Store, Exchange}
use Rattle.ck_run.specs.declared.account.Entry.{Entry}

-- the word of a step
abbrev pub word_of : Step → ℕ
word_of (Load at found) = at
word_of (Store at stored) = at
word_of (Exchange at expected new found) = at

-- the step is on a word from `first` to below `last`
abbrev pub IsInside : ℕ → ℕ → Entry → Type 0
IsInside first last e = (first ≤ word_of e.step) × (word_of e.step < last)

abbrev pub IsOutside : ℕ → ℕ → Entry → Type 0
IsOutside first last e = (word_of e.step < first) ⊎ (last ≤ word_of e.step)

abbrev pub is_inside : ℕ → ℕ → Entry → Bool
is_inside first last e = nat_le first (word_of e.step) && nat_lt (word_of e.step) last

-- the entries on these words
abbrev pub own : ℕ → ℕ → List Entry → List Entry
own first last entries = filter (is_inside first last) entries
