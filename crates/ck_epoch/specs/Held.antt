-- What holds at every moment of a true run, as each step keeps it: the five parts of the epochs, and what they need beside them.
use Rattle.std.specs.Prelude.{◌≡◌, ℕ, suc, ◌+◌, ◌*◌, ◌^◌, ◌<◌, ◌≤◌, Option, Some, None, List, length, slice_index, All}
use Rattle.ck_run.specs.declared.account.Entry.{Entry}
use Rattle.ck_run.specs.Run.{Run, account, index_in}
use Rattle.ck_epoch.specs.State.{base, active_word, epoch_word, Task, polling, first_round, second_round, Stage, outside, entering, holding, inside, free, scanning, comparing, between, Retirement, TokenState}
use Rattle.ck_epoch.specs.Epochs.{IsOpen, IsPassed, IsRetired}

-- a stage of the writer, and one of a pass
abbrev pub IsOfWriter : Stage → Type 0
IsOfWriter free = Unit {0}
IsOfWriter (scanning task e rec busy) = Unit {0}
IsOfWriter (comparing task e rec busy) = Unit {0}
IsOfWriter (between all started) = Unit {0}
IsOfWriter g = ⊥

abbrev pub IsOfPass : Stage → Type 0
IsOfPass outside = Unit {0}
IsOfPass entering = Unit {0}
IsOfPass (holding g) = Unit {0}
IsOfPass (inside d g) = Unit {0}
IsOfPass g = ⊥

-- The active word counts the open sections, and is 1 within a `begin`. So where it is 0 no section is open
abbrev pub active_of : Stage → ℕ
active_of outside = 0
active_of (inside d g) = d
active_of g = 1

-- of the global epoch and a record's own
abbrev pub IsTimely : ℕ → ℕ → Stage → Type 0
IsTimely global own (holding g) = (g ≤ global) × (global ≤ g + 1) × (own ≤ g)
IsTimely global own (inside d g) = (0 < d) × (own ≡ g) × (g ≤ global) × (global ≤ g + 1)
IsTimely global own g = Unit {0}

-- the epoch that a pass loaded or stored is the global one
abbrev pub IsAtGlobal : ℕ → Stage → Type 0
IsAtGlobal global (holding g) = g ≡ global
IsAtGlobal global (inside d g) = g ≡ global
IsAtGlobal global g = Unit {0}

-- a poll that has found each record that it passed inactive, this one among them
abbrev pub IsQuiet : Stage → ℕ → Type 0
IsQuiet (scanning polling e rec None) r = r < rec
IsQuiet (comparing polling e rec None) r = r < rec
IsQuiet g r = ⊥

-- the first entry of the call whose first round is over
abbrev pub halfway : Stage → Option ℕ
halfway (between all started) = Some started
halfway (scanning (second_round all started) e rec busy) = Some started
halfway (comparing (second_round all started) e rec busy) = Some started
halfway g = None

-- What guards an open section of the record r with the epoch g, of the writer w. `older` tells of which entries of the writer it is older
pub record GuardsSection (global : ℕ) (older : ℕ → Type 0) (r g : ℕ) (w : TokenState) : Type 0 where
  -- an item that was retired since it opened has at least its epoch
  pub pending : All (λ (k : Retirement). older k.number → g ≤ k.retired.epoch) w.pending
  -- an item that was dispatched was retired before it opened
  pub dispatched : All (λ (k : Retirement). ¬ older k.number) w.dispatched
  -- where its record was found inactive, it opened after the last retirement
  pub quiet : IsQuiet w.stage r → All (λ (k : Retirement). ¬ older k.number) w.pending
  -- in the second round, a section that was open at the call has an earlier epoch, and after the call it is not open
  pub half : (first : ℕ) → halfway w.stage ≡ Some first → older first → g + 1 ≤ global
  pub waited : (first : ℕ) → w.waited ≡ Some first → ¬ older first

-- an open section is one of its pass's stage
abbrev pub IsOpenAt : ℕ → (ℕ → Type 0) → ℕ → TokenState → Stage → Type 0
IsOpenAt global older r w (inside d g) = GuardsSection global older r g w
IsOpenAt global older r w g = ⊥

-- What holds of the record r, its pass at this stage, and the writer w
pub record IsRecordHeld (run : Run) (global active own r : ℕ) (w : TokenState) (g : Stage) : Type 0 where
  pub reading : IsOfPass g
  pub behind : own ≤ global
  pub counted : active ≡ active_of g
  pub timely : IsTimely global own g
  pub current : IsPassed w.stage r → IsAtGlobal global g
  pub sections : (o : ℕ) → IsOpen run r o → IsOpenAt global (λ i. o < index_in run 0 i) r w g

-- how often the global epoch may still rise by the call that is under way
abbrev pub due : Stage → ℕ
due (scanning (first_round all started) e rec busy) = 2
due (comparing (first_round all started) e rec busy) = 2
due free = 0
due g = 1

-- 1 where the global epoch rose since the last retirement
abbrev pub risen : Stage → ℕ
risen (between all started) = 1
risen (scanning (second_round all started) e rec busy) = 1
risen (comparing (second_round all started) e rec busy) = 1
risen g = 0

abbrev pub IsBegun : ℕ → Task → Type 0
IsBegun steps polling = Unit {0}
IsBegun steps (first_round all started) = started < steps
IsBegun steps (second_round all started) = started < steps

-- the epoch of a scan is the global one
abbrev pub IsScan : ℕ → ℕ → ℕ → Stage → Type 0
IsScan records global steps (scanning task e rec busy) = (e ≡ global) × (rec ≤ records) × IsBegun steps task
IsScan records global steps (comparing task e rec busy) = (e ≡ global) × (rec < records) × IsBegun steps task
IsScan records global steps (between all started) = started < steps
IsScan records global steps g = Unit {0}

-- what holds of the writer, of its account
pub record IsWriterHeld (records global : ℕ) (entries : List Entry) (w : TokenState) : Type 0 where
  pub writing : IsOfWriter w.stage
  pub steps : w.steps ≡ length entries
  pub epoch : w.epoch ≡ global
  pub late : 4 ≤ global
  pub few : w.calls ≤ 2 ^ 40
  pub bounded : global + due w.stage ≤ 4 + 2 * w.calls
  pub scan : IsScan records global (length entries) w.stage
  pub pending : All (λ (k : Retirement). IsRetired entries k × (k.retired.epoch + risen w.stage ≤ global)) w.pending
  pub dispatched : All (IsRetired entries) w.dispatched
  pub waited : (first : ℕ) → w.waited ≡ Some first → first < length entries

-- A domain at the end of a run
pub record AreHeld (records : ℕ) (run : Run) (words : List ℕ) (at : ℕ → TokenState) : Type 0 where
  pub wide : base records ≤ length words
  pub writer : IsWriterHeld records (slice_index words 0) (account 0 run) (at 0)
  pub numbered : (r : ℕ) → (at (suc r)).rec ≡ r
  pub unused : (r : ℕ) → records ≤ r → (at (suc r)).stage ≡ outside
  pub each : (r : ℕ) → r < records → IsRecordHeld run (slice_index words 0) (slice_index words (active_word r)) (slice_index words (epoch_word r)) r (at 0) (at (suc r)).stage
