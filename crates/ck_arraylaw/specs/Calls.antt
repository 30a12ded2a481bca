-- The names of the array's calls in accounts, and how a call begins. ck_epoch's calls have the names 1 to 10, ck_signal's 11 to 14.
use Rattle.std.specs.Prelude.{ℕ, Bool, false, cond, ◌==◌, List, [], ◌∷◌}
use Rattle.ck_epoch.specs.State.{read}

abbrev pub add : ℕ
add = 25

abbrev pub drop_one : ℕ
drop_one = 26

abbrev pub commit : ℕ
commit = 27

abbrev pub all : ℕ
all = 28

-- Which call a step begins, by what it puts down: `add ∷ member ∷ []`, the same of `drop_one`, `commit ∷ []`, `all ∷ []`. All other lists,
-- the empty one among them, begin none
pub data Opening : Type 0 where
  adding : ℕ → Opening
  dropping : ℕ → Opening
  committing : Opening
  reading : Opening
  other : Opening

abbrev pub opening_of : List ℕ → Opening
opening_of (name ∷ member ∷ []) = cond (name == add) (adding member) (cond (name == drop_one) (dropping member) other)
opening_of (name ∷ []) = cond (name == commit) committing (cond (name == all) reading other)
opening_of opens = other

-- a load that a reader makes by itself, as a call of one step
abbrev pub is_single_load : List ℕ → Bool
is_single_load (name ∷ arguments) = name == read
is_single_load [] = false
