-- What a fetch from a shelf may answer.
use Rattle.std.specs.Prelude.{◌≡◌, ℕ, ◌+◌, ◌<◌, List, length, ⊤, Option, IfSome, Result, Ok, Err}
use Rattle.ck_io.specs.declared.shelf.ShelfError.{ShelfError}
use Rattle.ck_io.specs.declared.shelf.ShelfError.TheVariants.{Failed, TooLong, Memory}
use Rattle.ck_io.specs.Faults.{Rose}

-- Why a fetch answers this error: the name's count of faults rose; or more than the limit is held, where that is
-- told, and one byte more than the limit was read. Want of memory needs no cause.
abbrev pub HasCause : Option (List ℕ) → ℕ → ℕ → ℕ → ShelfError → Type 0
HasCause told limit before now Failed = Rose before now
HasCause told limit before now (TooLong bytes) = (bytes ≡ limit + 1) × IfSome told (λ held. limit < length held)
HasCause told limit before now Memory = ⊤

-- the answer is `TooLong`
abbrev pub IsTooLong : {T : Type 0} → Result T ShelfError → Type 0
IsTooLong (Ok _) = ⊥
IsTooLong (Err Failed) = ⊥
IsTooLong (Err (TooLong _)) = ⊤
IsTooLong (Err Memory) = ⊥

-- the answer is the bytes or `TooLong`, and neither a fault nor want of memory
abbrev pub IsSettled : {T : Type 0} → Result T ShelfError → Type 0
IsSettled (Ok _) = ⊤
IsSettled (Err Failed) = ⊥
IsSettled (Err (TooLong _)) = ⊤
IsSettled (Err Memory) = ⊥

-- the answer isn't `Failed`: it is the bytes, `TooLong` or want of memory
abbrev pub IsUnfailed : {T : Type 0} → Result T ShelfError → Type 0
IsUnfailed (Ok _) = ⊤
IsUnfailed (Err Failed) = ⊥
IsUnfailed (Err (TooLong _)) = ⊤
IsUnfailed (Err Memory) = ⊤
