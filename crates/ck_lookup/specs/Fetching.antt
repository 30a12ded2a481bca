-- What the fetching of a run's files keeps.
use Rattle.std.specs.Prelude.{◌≡◌, ℕ, List, [], ◌∷◌, ◌++◌, length, sum_by, Option, IfSome}
use Rattle.ck_io.specs.Faults.{Rose}
use Rattle.ck_lookup.specs.declared.files.NotAdded.{NotAdded}
use Rattle.ck_lookup.specs.declared.files.NotAdded.TheVariants.{TooLarge, Memory}
use Rattle.ck_lookup.specs.declared.outcome.Outcome.{Outcome}
use Rattle.ck_lookup.specs.declared.outcome.Outcome.TheVariants as outcome
use Rattle.ck_lookup.specs.Limits.{AreWithin, line_count}

-- files within the limits, and how many bytes and lines they have
pub record AreCounted (files : List (List ℕ)) (bytes lines : ℕ) : Type 0 where
  pub within : AreWithin files
  pub count_of_bytes : bytes ≡ sum_by length files
  pub count_of_lines : lines ≡ sum_by line_count files

-- why a file wasn't added to these: with it they would be past a limit, or memory was wanting
abbrev pub IsNotAdded : List (List ℕ) → List ℕ → List (List ℕ) → NotAdded → Type 0
IsNotAdded old file new TooLarge = (new ≡ old) × (AreWithin (old ++ file ∷ []) → ⊥)
IsNotAdded old file new Memory = new ≡ old

-- one more file was read, under a name that has these bytes, where they are told
pub record IsNext (told : Option (List ℕ)) (old new : List (List ℕ)) : Type 0 where
  pub file : List ℕ
  pub added : new ≡ old ++ file ∷ []
  pub read : IfSome told (λ bytes. file ≡ bytes)
  pub within : AreWithin new

-- the next file, of these bytes or of more than are told, would be past a limit
abbrev pub IsPast : Option (List ℕ) → List (List ℕ) → Type 0
IsPast told old = (bytes : List ℕ) × IfSome told (λ all. bytes ≡ all) × (AreWithin (old ++ bytes ∷ []) → ⊥)

-- the outcome where the next file, with this number, wasn't read; the counts are those of the shelf
abbrev pub IsRefusedNext : ℕ → List ℕ → Option (List ℕ) → List (List ℕ) → (List ℕ → ℕ) → (List ℕ → ℕ) → Outcome → Type 0
IsRefusedNext file name told old before after (outcome.ReadFault f) = (f ≡ file) × Rose (before name) (after name)
IsRefusedNext file name told old before after (outcome.TooLarge f) = (f ≡ file) × (after ≡ before) × IsPast told old
IsRefusedNext file name told old before after outcome.NoMemory = Unit {0}
IsRefusedNext file name told old before after _ = ⊥
