-- Reclamation by several members: which runs are safe, and what holds of the epochs at each moment. All is read off the run by the steps of
-- the calls.
use Rattle.std.specs.Prelude.{◌≡◌, ℕ, ◌+◌, ◌%◌, ◌<◌, ◌≤◌, List, ◌++◌, All}
use Rattle.ck_run.specs.Run.{Run, replay, account, index_in}
use Rattle.ck_run.specs.Rule.{IsRun}
use Rattle.ck_run.specs.Machine.{follows_of}
use Rattle.ck_epoch.specs.State.{Retirement, holding, on_list}
use Rattle.ck_epoch.specs.Epochs.{OpensBy, EndsBy, IsRetired, global, own}
use Rattle.ck_registry.specs.State.{Activity, passing, checking, ready, TokenState, Holds, Origin, records_of, registry, state_at}

-- A section of the record r opened at the step o, by whoever held it, and no step of the run after it ended it
pub record IsSectionOpen (run : Run) (r o : ℕ) : Type 0 where
  pub opens : (n : ℕ) × OpensBy run n r o
  pub lasts : (c : ℕ) → o < c → ((n : ℕ) × EndsBy run n r c) → ⊥

-- The section that opened at the step o is older than the entry of this number of the visitor m, as an item's retirement
abbrev pub IsOlderThan : Run → ℕ → ℕ → ℕ → Type 0
IsOlderThan run o m number = o < index_in run m number

-- A scan that loaded the epoch e has passed the record: it found it inactive or at e. All are passed once it has answered Ready, until `advance`
abbrev pub HasPassed : Activity → ℕ → ℕ → Type 0
HasPassed (passing e rec busy) e' r = (e ≡ e') × (r < rec)
HasPassed (checking e rec busy) e' r = (e ≡ e') × (r < rec)
HasPassed (ready e) e' r = e ≡ e'
HasPassed a e' r = ⊥

-- what the visitor m did in the run
abbrev pub visitor_in : Origin → Run → ℕ → TokenState
visitor_in origin run m = state_at origin m (account m run)

-- No section that is open at the end of the run is older than an item that any member dispatched by then
abbrev pub IsSafeForAllNow : Origin → Run → Type 0
IsSafeForAllNow origin run = (r o m : ℕ) → r < records_of origin → IsSectionOpen run r o → All (λ (k : Retirement). ¬ IsOlderThan run o m k.number) (visitor_in origin run m).dispatched

-- A run is safe where at no moment of it an item has been dispatched while a section older than it is open
abbrev pub IsSafeForAll : Origin → Run → Type 0
IsSafeForAll origin run = (past rest : Run) → run ≡ past ++ rest → IsSafeForAllNow origin past

-- A record is held by at most one member at the end of the run, and at each moment of it
abbrev pub HaveOneHolder : Origin → Run → Type 0
HaveOneHolder origin run = (r n m : ℕ) → Holds (visitor_in origin run n) r → Holds (visitor_in origin run m) r → n ≡ m

abbrev pub AreAlone : Origin → Run → Type 0
AreAlone origin run = (past rest : Run) → run ≡ past ++ rest → HaveOneHolder origin past

-- What holds at the end of a run, of the words that it leaves
pub record AreSharedEpochs (origin : Origin) (run : Run) (words : List ℕ) : Type 0 where
  -- a record's epoch word is at most the global epoch
  pub behind : (r : ℕ) → r < records_of origin → own words r ≤ global words
  -- a member that has loaded g at begin and hasn't stored it: g is the global epoch or the one before, and its record's epoch word is at most g
  pub loaded : (n r g : ℕ) → Holds (visitor_in origin run n) r → (visitor_in origin run n).section ≡ holding g → (g ≤ global words) × (global words ≤ g + 1) × (own words r ≤ g)
  -- an open section's epoch word is the global epoch or the one before
  pub sections : (r o : ℕ) → r < records_of origin → IsSectionOpen run r o → (own words r ≤ global words) × (global words ≤ own words r + 1)
  -- In the scan of a member m, and after it answered Ready until `advance`, as long as the global epoch is the one that it loaded: for each
  -- record that it passed, a number loaded at begin and an open section's epoch word are that epoch
  pub scanned_loaded : (m n r g : ℕ) → HasPassed (visitor_in origin run m).activity (global words) r → Holds (visitor_in origin run n) r → (visitor_in origin run n).section ≡ holding g → g ≡ global words
  pub scanned_sections : (m r o : ℕ) → r < records_of origin → HasPassed (visitor_in origin run m).activity (global words) r → IsSectionOpen run r o → own words r ≡ global words
  -- an item that is pending on the list j of a visitor was retired at an epoch that is j modulo 4 and at most the global epoch: `IsRetired` ties
  -- it to the load by which this visitor retired it. So it does for the items that were dispatched
  pub pending : (m j : ℕ) → j < 4 → All (λ (k : Retirement). IsRetired (account m run) k × (k.retired.epoch % 4 ≡ j) × (k.retired.epoch ≤ global words)) (on_list j (visitor_in origin run m).pending)
  pub dispatched : (m : ℕ) → All (IsRetired (account m run)) (visitor_in origin run m).dispatched

-- so at every moment
abbrev pub KeepsSharedEpochs : Origin → Run → Type 0
KeepsSharedEpochs origin run = (past rest : Run) → run ≡ past ++ rest → AreSharedEpochs origin past (replay origin.words past)

-- The law of a registry: every true run of its calls is safe, for the items of every member and the sections of every record, whoever held it,
-- and keeps the epochs, and at each moment of it a record is held by at most one member
pub record IsRegistryRun (origin : Origin) (run : Run) : Type 0 where
  pub safe : IsSafeForAll origin run
  pub epochs : KeepsSharedEpochs origin run
  pub alone : AreAlone origin run

abbrev pub RegistryLaw : Type 0
RegistryLaw = (origin : Origin) (run : Run) → IsRun (follows_of registry) origin run → IsRegistryRun origin run
