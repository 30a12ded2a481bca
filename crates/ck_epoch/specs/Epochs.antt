-- Reclamation: which runs are safe, and what holds of the epochs at each moment. All is read off the run by the steps of the calls.
use Rattle.std.specs.Prelude.{◌≡◌, ℕ, suc, ◌+◌, ◌%◌, ◌<◌, ◌≤◌, ◌⊎◌, Some, List, [], ◌∷◌, ◌++◌, length, slice_index, All, Contains}
use mathlib.Core.Option.{some}
use lib.ListN.{get_elem?}
use Rattle.ck_run.specs.declared.account.Step.TheVariants.{Load, Store}
use Rattle.ck_run.specs.declared.account.Entry.{Entry}
use Rattle.ck_run.specs.Run.{Run, handing, replay, account, index_in}
use Rattle.ck_run.specs.Rule.{IsRun}
use Rattle.ck_run.specs.Machine.{follows_of}
use Rattle.ck_epoch.specs.State.{active_word, epoch_word, Stage, holding, scanning, comparing, depth_of, Retirement, retirement, TokenState, on_list, Origin, records_of, epochs, state_at}

-- The step o of the run, by the token n, opens a section of the record r: it stores the record's epoch
abbrev pub OpensBy : Run → ℕ → ℕ → ℕ → Type 0
OpensBy run n r o = (e : Entry) × (g : ℕ) × (get_elem? run o ≡ some (n, e)) × (e.step ≡ Store (epoch_word r) g)

-- The step c, by the token n, ends one: it stores 0 in active
abbrev pub EndsBy : Run → ℕ → ℕ → ℕ → Type 0
EndsBy run n r c = (e : Entry) × (get_elem? run c ≡ some (n, e)) × (e.step ≡ Store (active_word r) 0)

-- its pass opens a section of the record r, or ends it
abbrev pub OpensSection : Run → ℕ → ℕ → Type 0
OpensSection run r o = OpensBy run (suc r) r o

abbrev pub EndsSection : Run → ℕ → ℕ → Type 0
EndsSection run r c = EndsBy run (suc r) r c

-- A section of the record r opened at the step o, and no step of the run after it ended it
pub record IsOpen (run : Run) (r o : ℕ) : Type 0 where
  pub opens : OpensSection run r o
  pub lasts : (c : ℕ) → o < c → EndsSection run r c → ⊥

-- The section that opened at the step o is older than the writer's entry of this number, as an item's retirement or the first step of a call
abbrev pub IsOlder : Run → ℕ → ℕ → Type 0
IsOlder run o number = o < index_in run 0 number

-- The item was retired by the writer's entry of its number: the load that handed it over, and found its epoch
abbrev pub IsRetired : List Entry → Retirement → Type 0
IsRetired entries k = (opens : List ℕ) × (get_elem? entries k.number ≡ some (handing opens (k.retired.item.at ∷ k.retired.item.log ∷ []) (Load 0 k.retired.epoch)))

-- The writer's step e, which is its entry with this number, retires the item: it is the load that hands the item over
abbrev pub IsRetiredBy : Entry → ℕ → Retirement → Type 0
IsRetiredBy e number k = (e.item ≡ k.retired.item.at ∷ k.retired.item.log ∷ []) × (e.step ≡ Load 0 k.retired.epoch) × (k.number ≡ number)

-- What the writer's step e, its entry with this number, does with the items that are pending
pub record ChangesTo (e : Entry) (before : TokenState) (number : ℕ) (after : TokenState) : Type 0 where
  -- one that was pending still is, or was dispatched
  pub stays : All (λ (k : Retirement). Contains after.pending k ⊎ Contains after.dispatched k) before.pending
  -- one that is pending was so before, or this step retires it
  pub came : All (λ (k : Retirement). Contains before.pending k ⊎ IsRetiredBy e number k) after.pending
  -- and what the step hands over is pending
  pub retires : (at log : ℕ) → e.item ≡ at ∷ log ∷ [] → (epoch : ℕ) × Contains after.pending (retirement number at log epoch)

-- The record was passed by the scan that is under way: it was found inactive, or at the epoch of the scan
abbrev pub IsPassed : Stage → ℕ → Type 0
IsPassed (scanning task e rec busy) r = r < rec
IsPassed (comparing task e rec busy) r = r < rec
IsPassed g r = ⊥

-- the global epoch, and a record's epoch
abbrev pub global : List ℕ → ℕ
global words = slice_index words 0

abbrev pub own : List ℕ → ℕ → ℕ
own words r = slice_index words (epoch_word r)

module _ {C : Type 0} where
  -- what the writer did in the run
  abbrev pub writer_in : Origin C → Run → TokenState
  writer_in origin run = state_at origin 0 (account 0 run)

  -- where the pass of the record r stands at the end of the run
  abbrev pub stage_in : Origin C → Run → ℕ → Stage
  stage_in origin run r = (state_at origin (suc r) (account (suc r) run)).stage

  -- No section that is open at the end of the run is older than an item that was dispatched by then
  abbrev pub IsSafeNow : Origin C → Run → Type 0
  IsSafeNow origin run = (r o : ℕ) → r < records_of origin → IsOpen run r o → All (λ (k : Retirement). ¬ IsOlder run o k.number) (writer_in origin run).dispatched

  -- A run is safe where at no moment of it an item has been dispatched while a section older than it is open
  abbrev pub IsSafe : Origin C → Run → Type 0
  IsSafe origin run = (past rest : Run) → run ≡ past ++ rest → IsSafeNow origin past

  -- What holds at the end of a run, of the words that it leaves
  pub record AreEpochs (origin : Origin C) (run : Run) (words : List ℕ) : Type 0 where
    -- a record's epoch word is at most the global epoch
    pub behind : (r : ℕ) → r < records_of origin → own words r ≤ global words
    -- a pass that has loaded g at begin and hasn't stored it: g is the global epoch or the one before, and the epoch word is at most g
    pub loaded : (r g : ℕ) → r < records_of origin → stage_in origin run r ≡ holding g → (g ≤ global words) × (global words ≤ g + 1) × (own words r ≤ g)
    -- an open section's epoch word is the global epoch or the one before
    pub sections : (r o : ℕ) → r < records_of origin → IsOpen run r o → (own words r ≤ global words) × (global words ≤ own words r + 1)
    -- in a scan, for each record that it passed, a number loaded at begin and an open section's epoch word are the global epoch
    pub scanned_loaded : (r g : ℕ) → r < records_of origin → IsPassed (writer_in origin run).stage r → stage_in origin run r ≡ holding g → g ≡ global words
    pub scanned_sections : (r o : ℕ) → r < records_of origin → IsPassed (writer_in origin run).stage r → IsOpen run r o → own words r ≡ global words
    -- an item that is pending on the list j was retired at an epoch that is j modulo 4 and at most the global epoch: `IsRetired` ties it to
    -- the load by which the writer retired it. So it does for the items that were dispatched
    pub pending : (j : ℕ) → j < 4 → All (λ (k : Retirement). IsRetired (account 0 run) k × (k.retired.epoch % 4 ≡ j) × (k.retired.epoch ≤ global words)) (on_list j (writer_in origin run).pending)
    pub dispatched : All (IsRetired (account 0 run)) (writer_in origin run).dispatched

  -- so at every moment
  abbrev pub KeepsEpochs : Origin C → Run → Type 0
  KeepsEpochs origin run = (past rest : Run) → run ≡ past ++ rest
      → AreEpochs origin past (replay origin.words past)

  -- No section is open that was open when the last `synchronize` or `barrier` that is done was called
  abbrev pub HasWaited : Origin C → Run → Type 0
  HasWaited origin run = (r o first : ℕ) → r < records_of origin → IsOpen run r o → (writer_in origin run).waited ≡ Some first → ¬ IsOlder run o first

  -- A pass within a section has one that is open in the run
  abbrev pub HasOpened : Origin C → Run → Type 0
  HasOpened origin run = (r : ℕ) → r < records_of origin → 0 < depth_of (stage_in origin run r) → (o : ℕ) × IsOpen run r o

  -- what the writer's next step does with the items that are pending
  abbrev pub ChangesPending : Origin C → Run → Entry → Type 0
  ChangesPending origin past e = ChangesTo e (writer_in origin past) (length (account 0 past)) (writer_in origin (past ++ (0, e) ∷ []))

-- The law of epochs: every true run of the calls of a domain, whatever its client, is safe, keeps the epochs and has waited. A pass within a section has
-- one that is open, and an item stays pending until it is dispatched
pub record Reclamation (C : Type 0) : Type 0 where
  pub safe : (origin : Origin C) (run : Run) → IsRun (follows_of epochs) origin run → IsSafe origin run
  pub keeps : (origin : Origin C) (run : Run) → IsRun (follows_of epochs) origin run → KeepsEpochs origin run
  pub waits : (origin : Origin C) (run : Run) → IsRun (follows_of epochs) origin run → HasWaited origin run
  pub opened : (origin : Origin C) (run : Run) → IsRun (follows_of epochs) origin run → HasOpened origin run
  pub changes : (origin : Origin C) (past rest : Run) (e : Entry) → IsRun (follows_of epochs) origin (past ++ (0, e) ∷ rest) → ChangesPending origin past e
