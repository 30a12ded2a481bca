-- What `serve` asks of a job, and what it tells of it.
use Rattle.std.specs.Prelude.{◌≡◌, ℕ, ◌+◌, ◌<◌, List, [], ◌∷◌, ◌++◌, length, take, Some, slice_get}
use Rattle.ck_history.specs.declared.event.WriterEvent.{WriterEvent}
use Rattle.ck_history.specs.declared.event.ReaderEvent.{ReaderEvent}
use Rattle.ck_run.specs.Ends.{EachFrom}
use Rattle.ck_script.specs.declared.line.Numbered.{Numbered}
use Rattle.ck_script.specs.declared.line.UpLine.{UpLine}
use Rattle.ck_script.specs.declared.line.UpLine.TheVariants.{Call, Hold}
use Rattle.ck_script.specs.declared.line.AskLine.{AskLine}
use Rattle.ck_pool.specs.Limits.{call_bound, start_call_bound}
use Rattle.ck_pool.specs.Meaning.{HandMeaning, EyeMeaning}
use Rattle.ck_pool.specs.Runs.{UpdatesRan, QueriesRan}

-- how many lines files have together
abbrev pub lines_of : {A : Type 0} → List (List A) → ℕ
lines_of [] = 0
lines_of (file ∷ files) = length file + lines_of files

-- how many lines a job has
abbrev pub line_total : {U A : Type 0} → List U → List (List A) → ℕ
line_total ups asks = length ups + lines_of asks

module _ {H C R : Type 0} (hands : HandMeaning H C R) where
  -- The update file of these lines was run with the hand `given`, which is `back` afterwards: the lines in order are what was done with it,
  -- and these are their replies
  abbrev pub IsUpdateFileServed : H → List (Numbered (UpLine C)) → H → List R → Type 0
  IsUpdateFileServed given lines back replies =
      (events : List (WriterEvent C R)) × (hands.done back ≡ hands.done given ++ events) × UpdatesRan lines events replies

  -- there is room for what the line asks for after what was done with the hand
  abbrev pub LineFits : H → UpLine C → Type 0
  LineFits w (Call c) = hands.fits w c
  LineFits w (Hold f n) = Unit {0}

  -- There will be room for each of these lines, once those before it were run with the hand `given`, whatever they were answered
  abbrev pub WillFit : H → List (Numbered (UpLine C)) → Type 0
  WillFit given lines =
      (i : ℕ) (line : Numbered (UpLine C)) → slice_get lines i ≡ Some line
      → (w : H) (events : List (WriterEvent C R)) (replies : List R) → hands.ready w → hands.done w ≡ hands.done given ++ events → UpdatesRan (take i lines) events replies → LineFits w line.what

module _ {E A B : Type 0} (eyes : EyeMeaning E A B) where
  -- each eye is ready, and few calls were made with it
  abbrev pub AreReady : List E → Type 0
  AreReady es = (f : ℕ) (e : E) → slice_get es f ≡ Some e → eyes.ready e × (eyes.calls e < start_call_bound)

  -- the eyes have the numbers from n on, in order
  abbrev pub AreInOrder : ℕ → List E → Type 0
  AreInOrder = EachFrom (λ n e. eyes.number e ≡ n)

  -- The query file of these lines was run with the eye `given`, which came back as `back`: the lines in order are what was done with it,
  -- and these are their answers
  pub record IsQueryFileServed (given : E) (lines : List (Numbered (AskLine A))) (back : E) (answers : List B) : Type 0 where
    pub is_ready : eyes.ready back
    pub same : eyes.number back ≡ eyes.number given
    pub few : eyes.calls back < call_bound
    pub events : List (ReaderEvent A B)
    pub grown : eyes.done back ≡ eyes.done given ++ events
    pub ran : QueriesRan lines events answers

  -- file by file, in order
  abbrev pub AreServed : List E → List (List (Numbered (AskLine A))) → List E → List (List B) → Type 0
  AreServed [] [] [] [] = Unit {0}
  AreServed (e ∷ es) (lines ∷ files) (back ∷ backs) (bs ∷ more) = IsQueryFileServed e lines back bs × AreServed es files backs more
  AreServed _ _ _ _ = ⊥
