-- The rule of the desk.
use Rattle.std.specs.Prelude.{◌≡◌, ℕ, ◌+◌, ◌-◌, ◌<◌, List, [], ◌∷◌, ◌++◌, length, slice_index, slice_get, ◌==◌, cond, Option, Some, MatchBool}
use mathlib.Core.Option.{some}
use lib.ListN.{get_elem?}
use Rattle.atomic_table.specs.Table.{State, Me, rest}
use Rattle.atomic_table.specs.Seated.{TableId}
use Rattle.ck_run.specs.Rule.{total}
use Rattle.ck_pool.specs.declared.known.Known.{Known}

-- how often the number stands in the list
abbrev pub occurrences : ℕ → List ℕ → ℕ
occurrences f [] = 0
occurrences f (x ∷ xs) = cond (x == f) 1 0 + occurrences f xs

-- Who has all parts of a desk knows all files that were taken. There are so many parts: one for each worker, and more
abbrev pub all_parts : ℕ
all_parts = 64

module _ {E : Type 0} where
  -- The rule of a desk with these eyes
  pub record IsDesk (eyes : List E) (s : State (Option E) (Known E)) : Type 0 where
    -- there is a word for each eye, and each is 0 or 1
    pub words : length s.words ≡ length eyes
    pub bits : (k : ℕ) → slice_index s.words k < 2
    -- a slot whose word is 0 is at home, with the eye that was put there
    pub home : (k : ℕ) (e : E) → slice_index s.words k ≡ 0 → slice_get eyes k ≡ Some e → get_elem? s.homes k ≡ some (some (Some e))
    -- All seats together took a file as often as its word says: a word that is 1 was exchanged by exactly one seat, and one that is 0 by none
    pub once : (f : ℕ) → total (λ v. occurrences f v.took) s.views ≡ slice_index s.words f
    -- The seats share the parts. One that has some knows the eyes, and one that has none has taken nothing
    pub parts : total (λ v. v.parts) s.views ≡ all_parts
    pub same : (seat : ℕ) (v : Known E) → get_elem? s.views seat ≡ some v → 0 < v.parts → v.eyes ≡ eyes
    pub idle : (seat : ℕ) (v : Known E) → get_elem? s.views seat ≡ some v → v.parts ≡ 0 → v.took ≡ []

  -- what the first seat of a desk knows
  abbrev pub first_known : List E → Known E
  first_known eyes = record { eyes = eyes; parts = all_parts; took = [] }

  -- one part is given away ..
  abbrev pub fewer : Known E → Known E
  fewer v = record v { parts = v.parts - 1 }

  -- .. to a new seat
  abbrev pub one_part : Known E → Known E
  one_part v = record { eyes = v.eyes; parts = 1; took = [] }

  -- what a seat knows that has taken in another
  abbrev pub known_of_both : Known E → Known E → Known E
  known_of_both v w = record { eyes = v.eyes; parts = v.parts + w.parts; took = v.took ++ w.took }

  -- what is left to the other
  abbrev pub spent : Known E
  spent = record { eyes = []; parts = 0; took = [] }

  -- Where the word was 0, the slot was taken, with the eye that had been put there. Else nothing changed, and who has all parts has the file
  abbrev pub TookEye : ℕ → Me (Option E) (Known E) → ℕ → Me (Option E) (Known E) → Type 0
  TookEye file m found w = MatchBool (found == 0)
      ((e : E) × (slice_get m.0.eyes file ≡ Some e) × (w ≡ (record m.0 { took = file ∷ m.0.took }, (file, Some e) ∷ m.1)))
      ((w ≡ m) × (m.0.parts ≡ all_parts → occurrences file m.0.took ≡ 1))

  -- the slot that was taken last is at home again
  abbrev pub GaveBack : Me (Option E) (Known E) → Me (Option E) (Known E) → Type 0
  GaveBack m w = w ≡ (m.0, rest m.1)

-- what contracts see of a desk: which one it is, and the eyes that were put on it
pub record DeskView (E : Type 0) : Type 0 where
  pub id : TableId
  pub eyes : List E

-- and of a clerk: of which desk it is, and what it knows
pub record ClerkView (E : Type 0) : Type 0 where
  pub id : TableId
  pub known : Known E

-- a clerk of this desk
pub record IsClerkOf {E : Type 0} (d : DeskView E) (c : ClerkView E) : Type 0 where
  pub made : c.id ≡ d.id
  pub eyes : c.known.eyes ≡ d.eyes
  pub some_part : 0 < c.known.parts

-- one that has taken nothing, with one part
abbrev pub fresh_clerk : {E : Type 0} → DeskView E → ClerkView E
fresh_clerk d = record { id = d.id; known = record { eyes = d.eyes; parts = 1; took = [] } }
