-- What `synchronize` and `barrier` did: two rounds over all records, in each of which each record is looked at until no section of an earlier
-- epoch is open in it.
use Rattle.std.specs.Prelude.{◌≡◌, ℕ, ◌+◌, ◌^◌, ◌<◌, ◌⊎◌, Bool, true, false, cond, Option, Some, List, [], ◌∷◌, ◌++◌, length, All}
use Rattle.ck_run.specs.declared.account.Step.{Step}
use Rattle.ck_run.specs.declared.account.Step.TheVariants.{Load, Exchange}
use Rattle.ck_run.specs.declared.account.Entry.{Entry}
use Rattle.ck_run.specs.Run.{Run, call, account}
use Rattle.ck_run.specs.Rule.{IsRun}
use Rattle.ck_run.specs.Tokens.{did, origin, number, adding}
use Rattle.ck_epoch.specs.State.{synchronize, barrier, Task, first_round, second_round, free, scanning, TokenState, dispatch_all, Token, records_of, state}
use Rattle.ck_epoch.specs.Epochs.{IsOpen, IsOlder}
use Rattle.ck_epoch.specs.Client.{Client, program}
use Rattle.ck_epoch.specs.Ends.{IsDomainToken}
use Rattle.ck_epoch.specs.Calls.{RecordLook, look_steps}

-- the steps of looks at one record, again and again
abbrev pub wait_steps : ℕ → List RecordLook → List Step
wait_steps rec [] = []
wait_steps rec (l ∷ ls) = look_steps rec l ++ wait_steps rec ls

-- a look by which no section of an epoch other than e is open in the record
abbrev pub LetsPass : ℕ → RecordLook → Type 0
LetsPass e l = (l.active ≡ 0) ⊎ (l.epoch ≡ e)

-- the looks at one record: only the last is such a look
abbrev pub IsWait : ℕ → List RecordLook → Type 0
IsWait e looks = (before : List RecordLook) × (l : RecordLook) × (looks ≡ before ++ l ∷ []) × All (λ (l : RecordLook). ¬ LetsPass e l) before × LetsPass e l

-- of the records from `rec` on, in order
abbrev pub waits_steps : ℕ → List (List RecordLook) → List Step
waits_steps rec [] = []
waits_steps rec (looks ∷ rest) = wait_steps rec looks ++ waits_steps (rec + 1) rest

-- A round loads the global epoch e, waits for each record in order, and raises the global epoch to e + 1
abbrev pub IsRound : ℕ → ℕ → List Step → Type 0
IsRound records e steps = (waits : List (List RecordLook)) × (length waits ≡ records) × All (IsWait e) waits × (steps ≡ Load 0 e ∷ (waits_steps 0 waits ++ Exchange 0 e (e + 1) e ∷ []))

-- the round of a task
abbrev pub IsWaiting : Task → Type 0
IsWaiting (first_round all started) = Unit {0}
IsWaiting (second_round all started) = Unit {0}
IsWaiting task = ⊥

-- the name of the call: `barrier` where true
abbrev pub name_of : Bool → ℕ
name_of false = synchronize
name_of true = barrier

-- the state after two rounds
abbrev pub after_rounds : Bool → TokenState → ℕ → TokenState
after_rounds all s n = record (cond all (dispatch_all s) s) { stage = free; calls = s.calls + 1; epoch = s.epoch + 2; waited = Some s.steps; steps = n }

module _ {C : Type 0} where
  -- a call of this name made two rounds
  abbrev pub Rounds : ℕ → ℕ → ℕ → Token C → Token C → Type 0
  Rounds records name e t u = (first : List Step) × (second : List Step) × IsRound records e first × IsRound records (e + 1) second × (u ≡ adding t (call name [] (first ++ second)))

  -- In every true run in which the writer made the steps from t to u, and maybe more since: no section is open that was open at the first
  abbrev pub HaveEnded : Client C → Token C → Token C → Type 0
  HaveEnded client t u = (past rest : Run) (more : List Entry) → IsRun (program client) (origin t) (past ++ rest) → account 0 past ≡ did u ++ more
      → (r o : ℕ) → r < records_of (origin t) → IsOpen past r o → ¬ IsOlder past o (length (did t))

  -- within a round, before the record `rec` is passed
  pub record IsInRound (client : Client C) (e rec : ℕ) (t : Token C) : Type 0 where
    pub part : IsDomainToken client t
    pub first : number t ≡ 0
    pub task : Task
    pub busy : Option ℕ
    pub waits : IsWaiting task
    pub stage : (state t).stage ≡ scanning task e rec busy

  -- Of the state only the place in the scan changes, from one record to another
  abbrev pub ScansOn : ℕ → ℕ → ℕ → Token C → Token C → Type 0
  ScansOn e from to t u = (task : Task) → IsWaiting task → (busy : Option ℕ) → (state t).stage ≡ scanning task e from busy
      → (busy' : Option ℕ) × (state u ≡ record (state t) { stage = scanning task e to busy'; steps = (state u).steps })

  -- the writer between two calls
  pub record IsWriterFree (client : Client C) (t : Token C) : Type 0 where
    pub part : IsDomainToken client t
    pub first : number t ≡ 0
    pub stage : (state t).stage ≡ free
    pub few : (state t).calls < 2 ^ 40
