-- The names of the table's calls in accounts, and how a call begins. ck_epoch's calls have the names 1 to 10, ck_signal's 11 to 14.
use Rattle.std.specs.Prelude.{ℕ, Bool, false, cond, ◌==◌, List, [], ◌∷◌}
use Rattle.ck_epoch.specs.State.{read}

abbrev pub set : ℕ
set = 15

abbrev pub put : ℕ
put = 16

abbrev pub remove : ℕ
remove = 17

abbrev pub tidy : ℕ
tidy = 18

abbrev pub look : ℕ
look = 19

-- Which call a step begins, by what it puts down: `set ∷ key ∷ value ∷ []`, the same of `put`, `remove ∷ key ∷ []`, `tidy ∷ []`,
-- `look ∷ key ∷ []`. All other lists, the empty one among them, begin none
pub data Opening : Type 0 where
  setting : ℕ → ℕ → Opening
  putting : ℕ → ℕ → Opening
  removing : ℕ → Opening
  tidying : Opening
  looking : ℕ → Opening
  other : Opening

abbrev pub opening_of : List ℕ → Opening
opening_of (name ∷ key ∷ value ∷ []) = cond (name == set) (setting key value) (cond (name == put) (putting key value) other)
opening_of (name ∷ key ∷ []) = cond (name == remove) (removing key) (cond (name == look) (looking key) other)
opening_of (name ∷ []) = cond (name == tidy) tidying other
opening_of opens = other

-- the key of a look
abbrev pub key_in : Opening → ℕ
key_in (looking key) = key
key_in c = 0

abbrev pub key_of : List ℕ → ℕ
key_of opens = key_in (opening_of opens)

-- a load that a reader makes by itself, as a call of one step
abbrev pub is_single_load : List ℕ → Bool
is_single_load (name ∷ arguments) = name == read
is_single_load [] = false
