-- Where answers stand among the updates of one writer. A place is the number of updates after which a query has its answer: its linearization
-- point, as an index into the writer's log.
use Rattle.std.specs.Prelude.{◌≡◌, ℕ, ◌+◌, ◌<◌, ◌≤◌, max, List, [], ◌∷◌, Some, slice_get}
use Rattle.ck_history.specs.declared.event.WriterEvent.{WriterEvent}
use Rattle.ck_history.specs.declared.event.WriterEvent.TheVariants.{Updated, Told}
use Rattle.ck_history.specs.declared.event.ReaderEvent.{ReaderEvent}
use Rattle.ck_history.specs.declared.event.ReaderEvent.TheVariants.{Answered, Reached}
use Rattle.ck_history.specs.Events.{known_by}

-- There are `count` updates, and after p of them a query q has the answer `gives p q`
module _ {Q A : Type 0} (count : ℕ) (gives : ℕ → Q → A) where
  -- the answer is the right one at this place
  pub record IsAnswerAt (q : Q) (a : A) (p : ℕ) : Type 0 where
    pub within : p ≤ count
    pub right : a ≡ gives p q

  -- A reader's answers are right at these places. Places don't fall, none is below `least` or below what a `reached` before it told, and what
  -- was told is at most the number of updates
  abbrev pub ArePlacedAt : ℕ → List (ReaderEvent Q A) → List ℕ → Type 0
  ArePlacedAt least [] [] = least ≤ count
  ArePlacedAt least [] (p ∷ ps) = ⊥
  ArePlacedAt least (Answered q a ∷ es) [] = ⊥
  ArePlacedAt least (Answered q a ∷ es) (p ∷ ps) = (least ≤ p) × IsAnswerAt q a p × ArePlacedAt p es ps
  ArePlacedAt least (Reached n result ∷ es) ps = ArePlacedAt (max least (known_by n result)) es ps

-- the first k of these places are at most m
abbrev pub AreUpTo : ℕ → ℕ → List ℕ → Type 0
AreUpTo k m ps = (i p : ℕ) → i < k → slice_get ps i ≡ Some p → p ≤ m

-- `places r` are those of reader r
module _ {U R : Type 0} (places : ℕ → List ℕ) where
  -- What `answered` told the writer bounds the readers' places from above: where it gave k for a reader, each of the reader's first k answers
  -- has a place that is at most the number of updates before that call. The argument m is the number of updates before the first of these events
  abbrev pub AreBoundedFrom : ℕ → List (WriterEvent U R) → Type 0
  AreBoundedFrom m [] = Unit {0}
  AreBoundedFrom m (Updated u r ∷ es) = AreBoundedFrom (m + 1) es
  AreBoundedFrom m (Told reader k ∷ es) = AreUpTo k m (places reader) × AreBoundedFrom m es
