-- The events that the lines of a job leave, in the order in which the lines stand.
use Rattle.std.specs.Prelude.{◌≡◌, ℕ, ◌-◌, ◌<◌, ◌≤◌, List, [], ◌∷◌, ◌++◌, map, All}
use Rattle.std.specs.declared.result.Result.TheVariants.{Ok, Err}
use Rattle.ck_history.specs.declared.event.WriterEvent.{WriterEvent}
use Rattle.ck_history.specs.declared.event.WriterEvent.TheVariants.{Updated, Told}
use Rattle.ck_history.specs.declared.event.ReaderEvent.{ReaderEvent}
use Rattle.ck_history.specs.declared.event.ReaderEvent.TheVariants.{Answered, Reached}
use Rattle.ck_script.specs.declared.line.Numbered.{Numbered}
use Rattle.ck_script.specs.declared.line.UpLine.{UpLine}
use Rattle.ck_script.specs.declared.line.UpLine.TheVariants.{Call, Hold}
use Rattle.ck_script.specs.declared.line.AskLine.{AskLine}
use Rattle.ck_script.specs.declared.line.AskLine.TheVariants.{Ask, Wait}

module _ {A B : Type 0} where
  -- loads that were asked for n updates and found fewer, each with the number that it found
  abbrev pub short_loads : ℕ → List ℕ → List (ReaderEvent A B)
  short_loads n counts = map (λ count. Reached n (Err count)) counts

  -- the load that ends a wait: it was asked for n updates and found them
  abbrev pub final_load : ℕ → ReaderEvent A B
  final_load n = Reached n (Ok tt)

  -- the events of one line of a query file, and its answers: that of a query, or none
  abbrev pub QueryLineRan : AskLine A → List (ReaderEvent A B) → List B → Type 0
  QueryLineRan (Ask a) events answers = (b : B) × (events ≡ Answered a b ∷ []) × (answers ≡ b ∷ [])
  QueryLineRan (Wait n) events answers = (counts : List ℕ) × (events ≡ short_loads n counts ++ final_load n ∷ []) × (answers ≡ [])

  -- The lines of a query file were run in order: each query was answered, and each wait was met. Between these stand only loads that weren't met
  abbrev pub QueriesRan : List (Numbered (AskLine A)) → List (ReaderEvent A B) → List B → Type 0
  QueriesRan [] events answers = (events ≡ []) × (answers ≡ [])
  QueriesRan (l ∷ ls) events answers =
      (first : List (ReaderEvent A B)) × (later : List (ReaderEvent A B)) × (b : List B) × (more : List B)
      × (events ≡ first ++ later) × (answers ≡ b ++ more) × QueryLineRan l.what first b × QueriesRan ls later more

abbrev pub HoldsReader : {C : Type 0} → ℕ → UpLine C → Type 0
HoldsReader readers (Call c) = Unit {0}
HoldsReader readers (Hold f n) = (1 ≤ f) × (f ≤ readers)

-- each `hold` line names a reader that there is
abbrev pub HoldReaders : {C : Type 0} → ℕ → List (Numbered (UpLine C)) → Type 0
HoldReaders readers [] = Unit {0}
HoldReaders readers (l ∷ ls) = HoldsReader readers l.what × HoldReaders readers ls

module _ {C R : Type 0} where
  -- loads of how many queries a reader has answered, each with the number that it found
  abbrev pub answer_loads : ℕ → List ℕ → List (WriterEvent C R)
  answer_loads reader counts = map (λ count. Told reader count) counts

  -- The events of one line of the update file, and its replies. A `hold` line for n answers loads fewer until it loads at least n
  abbrev pub UpdateLineRan : UpLine C → List (WriterEvent C R) → List R → Type 0
  UpdateLineRan (Call c) events replies = (r : R) × (events ≡ Updated c r ∷ []) × (replies ≡ r ∷ [])
  UpdateLineRan (Hold f n) events replies =
      (counts : List ℕ) × (k : ℕ) × (events ≡ answer_loads (f - 1) counts ++ answer_loads (f - 1) (k ∷ [])) × All (λ m. m < n) counts × (n ≤ k) × (replies ≡ [])

  -- the lines of the update file were run in order
  abbrev pub UpdatesRan : List (Numbered (UpLine C)) → List (WriterEvent C R) → List R → Type 0
  UpdatesRan [] events replies = (events ≡ []) × (replies ≡ [])
  UpdatesRan (l ∷ ls) events replies =
      (first : List (WriterEvent C R)) × (later : List (WriterEvent C R)) × (r : List R) × (more : List R)
      × (events ≡ first ++ later) × (replies ≡ r ++ more) × UpdateLineRan l.what first r × UpdatesRan ls later more
