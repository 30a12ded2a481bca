-- What is kept of a line: a kind, a number and a rest.
use Rattle.std.specs.Prelude.{◌≡◌, ℕ, zero, suc, ◌<◌, ◌^◌, ◌/◌, ◌%◌, List, map, slice_get, Some}
use Rattle.ck_history.specs.declared.update.Update.{Update}
use Rattle.ck_history.specs.declared.update.Update.TheVariants.{Set, Put, Del, Tidy}
use Rattle.ck_history.specs.declared.edit.Edit.{Edit}
use Rattle.ck_history.specs.declared.edit.Edit.TheVariants.{Add, Drop, Commit}
use Rattle.ck_script.specs.declared.line.Numbered.{Numbered}
use Rattle.ck_script.specs.declared.line.UpLine.{UpLine}
use Rattle.ck_script.specs.declared.line.UpLine.TheVariants.{Call, Hold}
use Rattle.ck_script.specs.declared.line.AskLine.{AskLine}
use Rattle.ck_script.specs.declared.line.AskLine.TheVariants.{Ask, Wait}
use Rattle.ck_script.specs.declared.rows.Row.{Row}

-- the lines of a file, each with its number
pub record Listed (L : Type 0) : Type 0 where
  pub items : List (Numbered L)

-- what may be kept, where this may be kept of a key, or of an update
abbrev pub IsKeptUpdate : {R : Type 0} → (ℕ → R → Type 0) → ℕ → ℕ → R × ℕ → Type 0
IsKeptUpdate IsKept zero number rest = IsKept number rest.0
IsKeptUpdate IsKept (suc zero) number rest = IsKept number rest.0
IsKeptUpdate IsKept (suc (suc zero)) number rest = IsKept number rest.0
IsKeptUpdate IsKept (suc (suc (suc kind))) number rest = Unit {0}

abbrev pub IsKeptEdit : ℕ → ℕ → Type 0
IsKeptEdit kind number = number < 2 ^ 64

abbrev pub IsKeptAskLine : {R : Type 0} → (ℕ → R → Type 0) → ℕ → ℕ → R → Type 0
IsKeptAskLine IsKept zero number rest = number < 2 ^ 64
IsKeptAskLine IsKept (suc kind) number rest = IsKept number rest

abbrev pub IsKeptUpLine : {R : Type 0} → (ℕ → ℕ → R → Type 0) → ℕ → ℕ → R → Type 0
IsKeptUpLine IsKept zero number rest = number < 2 ^ 128
IsKeptUpLine IsKept (suc kind) number rest = IsKept kind number rest

-- of what it is kept
abbrev pub update_of : {K R : Type 0} → (ℕ → R → K) → ℕ → ℕ → R × ℕ → Update K
update_of key_of zero number rest = Set (key_of number rest.0) rest.1
update_of key_of (suc zero) number rest = Put (key_of number rest.0) rest.1
update_of key_of (suc (suc zero)) number rest = Del (key_of number rest.0)
update_of key_of (suc (suc (suc kind))) number rest = Tidy

abbrev pub edit_of : ℕ → ℕ → Edit
edit_of zero number = Add number
edit_of (suc zero) number = Drop number
edit_of (suc (suc kind)) number = Commit

abbrev pub ask_line_of : {K R : Type 0} → (ℕ → R → K) → ℕ → ℕ → R → AskLine K
ask_line_of key_of zero number rest = Wait number
ask_line_of key_of (suc kind) number rest = Ask (key_of number rest)

abbrev pub up_line_of : {C R : Type 0} → (ℕ → ℕ → R → C) → ℕ → ℕ → R → UpLine C
up_line_of call_of zero number rest = Hold (number / 2 ^ 64) (number % 2 ^ 64)
up_line_of call_of (suc kind) number rest = Call (call_of kind number rest)

-- what rows say
module _ {L R : Type 0} (line_of : ℕ → ℕ → R → L) where
  abbrev pub line_at : Row R → Numbered L
  line_at row = record { line = row.line; what = line_of row.kind row.number row.rest }

  abbrev pub lines_in : List (Row R) → List (Numbered L)
  lines_in rows = map line_at rows

-- each row is one that may be kept
abbrev pub AreKept : {R : Type 0} → (ℕ → ℕ → R → Type 0) → List (Row R) → Type 0
AreKept {R} IsKept rows = (i : ℕ) (row : Row R) → slice_get rows i ≡ Some row → IsKept row.kind row.number row.rest
