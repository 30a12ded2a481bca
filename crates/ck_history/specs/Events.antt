-- What the events of a token tell.
use Rattle.std.specs.Prelude.{ℕ, List, [], ◌∷◌, Result, Ok, Err}
use Rattle.ck_history.specs.declared.event.WriterEvent.{WriterEvent}
use Rattle.ck_history.specs.declared.event.WriterEvent.TheVariants.{Updated, Told}
use Rattle.ck_history.specs.declared.event.ReaderEvent.{ReaderEvent}
use Rattle.ck_history.specs.declared.event.ReaderEvent.TheVariants.{Answered, Reached}

module _ {U R : Type 0} where
  -- the writer's updates, in order
  abbrev pub updates_in : List (WriterEvent U R) → List U
  updates_in [] = []
  updates_in (Updated u r ∷ es) = u ∷ updates_in es
  updates_in (Told reader k ∷ es) = updates_in es

  -- and their replies
  abbrev pub replies_in : List (WriterEvent U R) → List R
  replies_in [] = []
  replies_in (Updated u r ∷ es) = r ∷ replies_in es
  replies_in (Told reader k ∷ es) = replies_in es

-- a reader's queries with their answers, in order
abbrev pub answers_in : {Q A : Type 0} → List (ReaderEvent Q A) → List (Q × A)
answers_in [] = []
answers_in (Answered q a ∷ es) = (q, a) ∷ answers_in es
answers_in (Reached n result ∷ es) = answers_in es

-- how many updates there are at least, by what `reached` gave where it was asked for n
abbrev pub known_by : ℕ → Result (Unit {0}) ℕ → ℕ
known_by n (Ok met) = n
known_by n (Err count) = count
