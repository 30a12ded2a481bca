-- Answers that have places are legal, and what a job comes to, over whatever structure.
use Rattle.std.proofs.Common.{◌≡◌, ℕ, ◌+◌, List, [], ◌∷◌, length, map, sym, subst, ◌∙◌, zero-add}
use Rattle.std.specs.Prelude.{All}
use Rattle.std.proofs.lemmas.List.Elements.{All-head, All-tail}
use Rattle.ck_history.specs.declared.event.WriterEvent.{WriterEvent}
use Rattle.ck_history.specs.Events.{updates_in, replies_in}
use Rattle.ck_history.specs.Places.{ArePlacedAt, AreBoundedFrom}
use Rattle.ck_history.specs.Legal.{AllLegal}
use Rattle.ck_script.specs.declared.line.Numbered.{Numbered}
use Rattle.ck_script.specs.declared.line.UpLine.{UpLine}
use Rattle.ck_script.specs.declared.line.AskLine.{AskLine}
use Rattle.ck_script.specs.Script.{said_of, updates, holds, bounded_files, script_of}
use Rattle.ck_pool.specs.Meaning.{EyeMeaning}
use Rattle.ck_pool.specs.Runs.{UpdatesRan}
use Rattle.ck_pool.specs.Places.{AreUnused, AllPlaced}
use Rattle.ck_pool.specs.Served.{AreInOrder, AreServed}
use Rattle.ck_pool.specs.Results.{SequentialObject, AreResults}
use Rattle.ck_pool.proofs.Composing.{calls_ran, holds_ran, files_legal}

module _ {E A B : Type 0} (eyes : EyeMeaning E A B) (count : ℕ) (gives : ℕ → A → B) (places : ℕ → List ℕ) where
  -- the answers of this eye are right at the places of its number
  abbrev pub IsPlacedEye : E → Type 0
  IsPlacedEye e = ArePlacedAt count gives 0 (eyes.done e) (places (eyes.number e))

  placed_in_order : (f : ℕ) (es : List E) → AreInOrder eyes f es → All IsPlacedEye es → AllPlaced eyes count gives places f es
  placed_in_order f [] order each = tt
  placed_in_order f (e ∷ es) order each = (
    subst (λ (n : ℕ). ArePlacedAt count gives 0 (eyes.done e) (places n)) order.0 (All-head IsPlacedEye e es each),
    placed_in_order (f + 1) es order.1 (All-tail IsPlacedEye e es each),
  )

  -- Where a job was run with new eyes, the answers of each are right at its places, and these bear out what the writer was told, the answers
  -- of each file are legal
  pub answers_legal : {C R : Type 0} (ups : List (Numbered (UpLine C))) (done : List (WriterEvent C R)) (rs : List R) (given : List E) (asks : List (List (Numbered (AskLine A)))) (backs : List E) (bss : List (List B))
      → UpdatesRan ups done rs → AreBoundedFrom places 0 done → AreUnused eyes given → AreServed eyes given asks backs bss → AreInOrder eyes 0 backs → All IsPlacedEye backs
      → AllLegal count gives (bounded_files count (holds 0 (said_of ups)) 1 (map said_of asks)) bss
  answers_legal ups done rs given asks backs bss ran bounded unused served order each =
      let legal = files_legal eyes count gives places (holds 0 (said_of ups)) (holds_ran places ups done rs ran bounded) 0 given asks backs bss unused served (placed_in_order 0 backs order each) in
      subst (λ (k : ℕ). AllLegal count gives (bounded_files count (holds 0 (said_of ups)) k (map said_of asks)) bss) (zero-add 1) legal

-- A job was run with new ends over a structure that stands for this object. Its replies are the object's by the writer's events, and its answers
-- have places among the updates of these
module _ {C R Q A S E : Type 0} (object : SequentialObject C R Q A S) (eyes : EyeMeaning E Q A) (ups : List (Numbered (UpLine C))) (done : List (WriterEvent C R)) (rs : List R) (ran : UpdatesRan ups done rs) where
  abbrev made : List C
  made = updates_in done

  asked_are : updates (said_of ups) ≡ made
  asked_are = (calls_ran ups done rs ran).0

  pub job_results : (given : List E) (asks : List (List (Numbered (AskLine Q)))) (backs : List E) (bss : List (List A)) → AreUnused eyes given → AreServed eyes given asks backs bss → AreInOrder eyes 0 backs
      → replies_in done ≡ object.replies made
      → (places : ℕ → List ℕ) → AreBoundedFrom places 0 done → All (IsPlacedEye eyes (length made) (object.answer_after made) places) backs
      → (left : S) → left ≡ object.after made (length made)
      → AreResults object (script_of (said_of ups) (map said_of asks)) rs bss left
  job_results given asks backs bss unused served order replied places bounded placed left remains =
      subst (λ (us : List C). AreResults object (record { updates = us; files = bounded_files (length us) (holds 0 (said_of ups)) 1 (map said_of asks) }) rs bss left) (sym asked_are) (record {
        replied = (calls_ran ups done rs ran).1 ∙ replied;
        legal = answers_legal eyes (length made) (object.answer_after made) places ups done rs given asks backs bss ran bounded unused served order placed;
        final = remains;
      })
