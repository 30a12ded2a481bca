-- A shelf in memory.
use Rattle.std.specs.Prelude.{◌≡◌, ℕ, List, Bool, ◌||◌, ◌==◌, is_none, IsTrue, IsFalse, ⊤, Option, option_map, Some, Result, Ok, Err, ◌+◌, ◌<◌, ◌≤◌, slice_get, slice_index, slice_set, length, take, replicate, ◌++◌, bytes_eq, map, String, Vec, string_bytes, unwrap_or, []}
use Rattle.std.specs.Global.{Global}
use Rattle.std.specs.List.{position_or_len, list_any}
use Rattle.ck_io.specs.declared.shelf.ShelfError.{ShelfError}
use Rattle.ck_io.specs.declared.shelf.ShelfError.TheVariants.{Failed, TooLong, Memory}
use Rattle.ck_io.specs.Faults.{next}

-- a shelf in memory, as contracts see it
pub record ShelfState : Type 0 where
  -- names with their bytes; of a name the first counts
  pub files : List (List ℕ × List ℕ)
  -- the numbers of the calls that fail, from 1
  pub fails : List ℕ
  -- how many calls there were
  pub calls : ℕ
  -- the faults of each file's name, and then those of all names that are not held
  pub counts : List ℕ

-- files as names with their bytes
abbrev pub contents : List (String Global × Vec ℕ Global) → List (List ℕ × List ℕ)
contents files = map (λ file. (string_bytes file.0, file.1.items)) files

-- the place of the first file of a name, or the number of files where none has it
abbrev pub place : List (List ℕ × List ℕ) → List ℕ → ℕ
place files name = position_or_len (λ file. bytes_eq file.0 name) files

-- the bytes of the first file of a name
abbrev pub bytes_under : List (List ℕ × List ℕ) → List ℕ → Option (List ℕ)
bytes_under files name = option_map (λ file. file.1) (slice_get files (place files name))

-- the bytes of the first file of a name, or no bytes where none has it
abbrev pub bytes_or_none : List (List ℕ × List ℕ) → List ℕ → List ℕ
bytes_or_none files name = unwrap_or (bytes_under files name) []

-- the faults of a name
abbrev pub faults_of : ShelfState → List ℕ → ℕ
faults_of shelf name = slice_index shelf.counts (place shelf.files name)

-- the next call fails: the name is not held, or the call's number is one of those that fail
abbrev pub fetch_fails : ShelfState → List ℕ → Bool
fetch_fails shelf name = is_none (bytes_under shelf.files name) || list_any (λ n. n == next shelf.calls) shelf.fails

-- the answer is `Failed` exactly where the call fails, unless memory was wanting
abbrev pub FailsExactlyWhere : {T : Type 0} → Bool → Result T ShelfError → Type 0
FailsExactlyWhere fails (Ok _) = IsFalse fails
FailsExactlyWhere fails (Err Failed) = IsTrue fails
FailsExactlyWhere fails (Err (TooLong _)) = IsFalse fails
FailsExactlyWhere fails (Err Memory) = ⊤

-- what an answer that isn't a fault says of the bytes held
abbrev pub Gives : Option (List ℕ) → ℕ → Result (Vec ℕ Global) ShelfError → Type 0
Gives held limit (Ok bytes) = (held ≡ Some bytes.items) × (length bytes.items ≤ limit)
Gives held limit (Err Failed) = ⊤
Gives held limit (Err (TooLong bytes)) = (bytes ≡ limit + 1) × ((all : List ℕ) × (held ≡ Some all) × (limit < length all))
Gives held limit (Err Memory) = ⊤

-- the shelf after one more call
abbrev pub called : ShelfState → ShelfState
called shelf = record shelf { calls = next shelf.calls }

-- counts, with the one at a place raised
abbrev pub raised : List ℕ → ℕ → List ℕ
raised counts at = slice_set counts at (next (slice_index counts at))

-- the shelf after one more call, which raised the count of this name
abbrev pub failed : ShelfState → List ℕ → ShelfState
failed shelf name = record shelf { calls = next shelf.calls; counts = raised shelf.counts (place shelf.files name) }

-- the shelf after a fetch with this answer: where memory was wanting it is as before
abbrev pub shelf_after : {T : Type 0} → ShelfState → List ℕ → Result T ShelfError → ShelfState
shelf_after shelf name (Ok _) = called shelf
shelf_after shelf name (Err Failed) = failed shelf name
shelf_after shelf name (Err (TooLong _)) = called shelf
shelf_after shelf name (Err Memory) = shelf

-- counts, with zeros for those that no fetch has made room for yet
abbrev pub padded : ℕ → List ℕ → List ℕ
padded n counts = take n (counts ++ replicate n 0)
