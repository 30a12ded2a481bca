-- Where the writer stands while a poll goes through the records.
use Rattle.std.specs.Prelude.{◌≡◌, ℕ, ◌+◌, ◌-◌, ◌%◌, ◌==◌, ◌&&◌, Bool, cond, Option, Some, None, List, [], ◌∷◌, ◌++◌, length}
use Rattle.ck_run.specs.declared.account.Step.TheVariants.{Load}
use Rattle.ck_run.specs.Run.{call}
use Rattle.ck_run.specs.Tokens.{adding, number, origin}
use Rattle.ck_epoch.specs.declared.answers.Scan.{Scan}
use Rattle.ck_epoch.specs.declared.answers.Scan.TheVariants.{Clear, Current, Behind}
use Rattle.ck_epoch.specs.State.{Token, TokenState, Stage, polling, scanning, free, Retirement, on_list, off_list, list_by_list, is_clear, poll, records_of, state}
use Rattle.ck_epoch.specs.Client.{Client}
use Rattle.ck_epoch.specs.Ends.{IsDomainToken}
use Rattle.ck_epoch.specs.Calls.{RecordLook, scan_steps, AreInactive, FirstActive, FindsNoneActive, Moves, IsBlocked}

-- the first of the records so far that was active, where one was
abbrev pub IsFirstFound : ℕ → List RecordLook → Option ℕ → Type 0
IsFirstFound e looked None = AreInactive looked
IsFirstFound e looked (Some r) = FirstActive e r looked

-- all records were passed and none was active
abbrev pub is_done : ℕ → ℕ → Option ℕ → Bool
is_done records rec busy = (rec == records) && is_clear polling busy

-- where the writer then stands, and what is pending of these items
abbrev pub stage_at : ℕ → ℕ → ℕ → Option ℕ → Stage
stage_at records e rec busy = cond (is_done records rec busy) free (scanning polling e rec busy)

abbrev pub pending_at : ℕ → ℕ → Option ℕ → List Retirement → List Retirement
pending_at records rec busy items = cond (is_done records rec busy) [] items

-- and what was dispatched, after these
abbrev pub dispatched_at : ℕ → ℕ → Option ℕ → List Retirement → List Retirement → List Retirement
dispatched_at records rec busy gone items = cond (is_done records rec busy) (gone ++ list_by_list items) gone

-- the items that a poll dispatches first, behind those that were dispatched before
abbrev pub first_dispatch : ℕ → TokenState → List Retirement
first_dispatch e s = s.dispatched ++ on_list ((e - 2) % 4) s.pending

module _ {C : Type 0} (client : Client C) where
  -- The writer that began a poll as t and is u now: it loaded the global epoch e and has passed the records below `rec`
  pub record IsScanning (t u : Token C) (e rec : ℕ) (busy : Option ℕ) : Type 0 where
    pub part : IsDomainToken client u
    pub first : number u ≡ 0
    pub looked : List RecordLook
    pub count : length looked ≡ rec
    pub found : IsFirstFound e looked busy
    pub steps : u ≡ adding t (call poll [] (Load 0 e ∷ scan_steps 0 looked))
    pub stage : (state u).stage ≡ stage_at (records_of (origin t)) e rec busy
    pub calls : (state u).calls ≡ (state t).calls + 1
    pub epoch : ((state t).epoch ≡ e) × ((state u).epoch ≡ e)
    pub pending : (state u).pending ≡ pending_at (records_of (origin t)) rec busy (off_list ((e - 2) % 4) (state t).pending)
    pub dispatched : (state u).dispatched ≡ dispatched_at (records_of (origin t)) rec busy (first_dispatch e (state t)) (off_list ((e - 2) % 4) (state t).pending)

  -- the writer between two calls, after a poll that left it this epoch, these pending items and these that were dispatched
  pub record IsDone (t u : Token C) (epoch : ℕ) (pending dispatched : List Retirement) : Type 0 where
    pub part : IsDomainToken client u
    pub first : number u ≡ 0
    pub stage : (state u).stage ≡ free
    pub calls : (state u).calls ≡ (state t).calls + 1
    pub epoch_is : (state u).epoch ≡ epoch
    pub pending_is : (state u).pending ≡ pending
    pub dispatched_is : (state u).dispatched ≡ dispatched

  -- what a poll did, by what it found
  abbrev pub Did : Token C → Token C → ℕ → Scan → Type 0
  Did t u e Clear = FindsNoneActive (records_of (origin t)) e t u × IsDone t u e [] (first_dispatch e (state t) ++ list_by_list (off_list ((e - 2) % 4) (state t).pending))
  Did t u e (Current rec) = Moves (records_of (origin t)) e rec t u × IsDone t u (e + 1) (off_list ((e - 1) % 4) (off_list ((e - 2) % 4) (state t).pending))
      (first_dispatch e (state t) ++ on_list ((e - 1) % 4) (off_list ((e - 2) % 4) (state t).pending))
  Did t u e (Behind rec epoch) = IsBlocked (records_of (origin t)) e rec epoch t u × IsDone t u e (off_list ((e - 2) % 4) (state t).pending) (first_dispatch e (state t))
