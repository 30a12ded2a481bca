-- What is known of files while they are run.
use Rattle.std.specs.Prelude.{◌≡◌, ℕ, zero, suc, ◌+◌, ◌*◌, ◌-◌, ◌^◌, ◌<◌, ◌≤◌, ◌==◌, ◌⊎◌, List, [], ◌∷◌, ◌++◌, length, take, Option, Some, None, slice_get, cond}
use mathlib.Core.Option.{some}
use lib.ListN.{get_elem?}
use Rattle.ck_history.specs.declared.event.ReaderEvent.{ReaderEvent}
use Rattle.ck_script.specs.declared.line.Numbered.{Numbered}
use Rattle.ck_script.specs.declared.line.AskLine.{AskLine}
use Rattle.ck_script.specs.declared.line.AskLine.TheVariants.{Wait}
use Rattle.ck_run.specs.Tokens.{Table, table}
use Rattle.ck_ring.specs.declared.answers.Take.{Take}
use Rattle.ck_ring.specs.declared.answers.Take.TheVariants.{Item, Lost, Empty}
use Rattle.ck_ring.specs.State.{Token, state}
use Rattle.ck_ring.specs.Calls.{FindsRingEmpty}
use Rattle.ck_pool.specs.Limits.{most_job_lines, most_query_files, call_bound, start_call_bound}
use Rattle.ck_pool.specs.declared.query_run.QueryRun.{QueryRun}
use Rattle.ck_pool.specs.declared.worker.Worker.{Worker}
use Rattle.ck_pool.specs.declared.worker.Worked.{Worked}
use Rattle.ck_pool.specs.Meaning.{EyeMeaning}
use Rattle.ck_pool.specs.Runs.{short_loads, QueriesRan}
use Rattle.ck_pool.specs.Served.{AreReady}
use Rattle.ck_pool.specs.Desk.{occurrences, DeskView, ClerkView, IsClerkOf, fresh_clerk}

module _ {A B : Type 0} where
  -- The lines before line i were run, and the file stands at the `wait` of line i, which no load met so far
  pub record IsHalted (lines : List (Numbered (AskLine A))) (i : ℕ) (events : List (ReaderEvent A B)) (answers : List B) : Type 0 where
    pub before : List (ReaderEvent A B)
    pub counts : List ℕ
    pub n : ℕ
    pub line : Numbered (AskLine A)
    pub here : slice_get lines i ≡ Some line
    pub waits : line.what ≡ Wait n
    pub whole : events ≡ before ++ short_loads n counts
    pub ran : QueriesRan (take i lines) before answers

  -- a file was run to its end, or up to the `wait` of line i
  abbrev pub RanTo : List (Numbered (AskLine A)) → Option ℕ → List (ReaderEvent A B) → List B → Type 0
  RanTo lines None events answers = QueriesRan lines events answers
  RanTo lines (Some i) events answers = IsHalted lines i events answers

-- a `wait` stands at this line
pub record IsWaitLine {A : Type 0} (lines : List (Numbered (AskLine A))) (i : ℕ) : Type 0 where
  pub n : ℕ
  pub line : Numbered (AskLine A)
  pub here : slice_get lines i ≡ Some line
  pub waits : line.what ≡ Wait n

-- the number of calls with an eye whose file was run to its end, or up to line i
abbrev pub AreFew : ℕ → Option ℕ → Type 0
AreFew calls None = calls < call_bound
AreFew calls (Some i) = calls ≤ start_call_bound + 8 * i

-- no file has more lines than a job may have
abbrev pub AreShort : {A : Type 0} → List (List A) → Type 0
AreShort {A} asks = (f : ℕ) (lines : List A) → slice_get asks f ≡ Some lines → length lines ≤ most_job_lines

-- how many of these runs are of file f
abbrev pub runs_of : {E B : Type 0} → ℕ → List (QueryRun E B) → ℕ
runs_of f [] = 0
runs_of f (r ∷ rs) = cond (r.file == f) 1 0 + runs_of f rs

-- a clerk has a run of each file that it took, and no other
abbrev pub HasRuns : {E B : Type 0} → ClerkView E → List (QueryRun E B) → Type 0
HasRuns clerk runs = (f : ℕ) → occurrences f clerk.known.took ≡ runs_of f runs

module _ {E A B : Type 0} (eyes : EyeMeaning E A B) where
  -- the query files, and the eyes that were put on the desk for them
  pub record AreOnDesk (given : List E) (asks : List (List (Numbered (AskLine A)))) : Type 0 where
    pub long : length asks ≡ length given
    pub some_file : 1 ≤ length asks
    pub few : length asks ≤ most_query_files
    pub ready : AreReady eyes given
    pub short : AreShort asks

  -- a file that was run with this eye, so far
  pub record IsFileRun (given : E) (lines : List (Numbered (AskLine A))) (r : QueryRun E B) : Type 0 where
    pub is_ready : eyes.ready r.eye
    pub same : eyes.number r.eye ≡ eyes.number given
    pub few : AreFew (eyes.calls r.eye) r.waits_at
    pub events : List (ReaderEvent A B)
    pub grown : eyes.done r.eye ≡ eyes.done given ++ events
    pub ran : RanTo lines r.waits_at events r.answers.items

  module _ (given_eyes : List E) (asks : List (List (Numbered (AskLine A)))) where
    -- the file of a run was run with the eye that was given for it
    pub record IsQueryRun (r : QueryRun E B) : Type 0 where
      pub given : E
      pub lines : List (Numbered (AskLine A))
      pub eye : slice_get given_eyes r.file ≡ Some given
      pub file : slice_get asks r.file ≡ Some lines
      pub run : IsFileRun given lines r

    abbrev pub AreQueryRuns : List (QueryRun E B) → Type 0
    AreQueryRuns runs = (k : ℕ) (r : QueryRun E B) → slice_get runs k ≡ Some r → IsQueryRun r

    -- of files that were run to their ends
    abbrev pub AreEnded : List (QueryRun E B) → Type 0
    AreEnded runs = (k : ℕ) (r : QueryRun E B) → slice_get runs k ≡ Some r → IsQueryRun r × (r.waits_at ≡ None)

    -- all files that its clerk has taken were run to their ends
    pub record IsWorked (d : DeskView E) (w : Worked E B) : Type 0 where
      pub clerk : IsClerkOf d w.clerk
      pub part : w.clerk.known.parts ≡ 1
      pub ended : AreEnded w.runs.items
      pub all : HasRuns w.clerk w.runs.items

-- a worker before its first step
pub record IsWorker {E : Type 0} (d : DeskView E) (ring : Table (Unit {0})) (w : Worker E) : Type 0 where
  pub clerk : w.clerk ≡ fresh_clerk d
  pub ring_is : table w.consumer ≡ ring
  pub calls : (state w.consumer).calls ≡ 0

-- the consumer loaded or found this head, or took the position before it
abbrev pub WorkerKnowsHead : Token → ℕ → Type 0
WorkerKnowsHead c head =
    ((k : ℕ) × (get_elem? (state c).heads k ≡ some head))
    ⊎ ((k : ℕ) × (x : ℕ × ℕ) × (get_elem? (state c).took k ≡ some x) × (head ≡ x.0 + 1))

-- Each answer but Empty raised the head that the consumer knows, so that it made no more calls than that. A head that it loads is at most 2^40 - 8
pub record MayDequeue (c : Token) : Type 0 where
  pub few : (state c).calls ≤ 2 ^ 40 - 7
  pub head : ((state c).calls ≡ 0) ⊎ ((head : ℕ) × WorkerKnowsHead c head × ((state c).calls ≤ head))

-- the last call of the consumer found the ring empty
abbrev pub FoundRingEmpty : Token → Type 0
FoundRingEmpty c = (before : Token) × (at : ℕ) × FindsRingEmpty before at c

-- it may ask the ring again unless the ring was empty
abbrev pub MayDequeueAgain : Take → Token → Type 0
MayDequeueAgain (Empty at) c = FoundRingEmpty c
MayDequeueAgain (Item item) c = MayDequeue c
MayDequeueAgain (Lost mine found) c = MayDequeue c

-- the numbers below n, in order
abbrev pub numbers_below : ℕ → List ℕ
numbers_below zero = []
numbers_below (suc n) = numbers_below n ++ n ∷ []
