-- What the calls of a registry did, by their answers.
use Rattle.std.specs.Prelude.{◌≡◌, ◌≢◌, ℕ, ◌+◌, ◌-◌, ◌%◌, ◌<◌, ◌≤◌, List, [], ◌∷◌, ◌++◌, length, All}
use Rattle.ck_run.specs.declared.account.Step.{Step}
use Rattle.ck_run.specs.declared.account.Step.TheVariants.{Load, Store, Exchange}
use Rattle.ck_run.specs.Run.{call, handing}
use Rattle.ck_run.specs.Tokens.{adding}
use Rattle.ck_epoch.specs.declared.item.Item.{Item}
use Rattle.ck_epoch.specs.declared.item.Retired.{Retired}
use Rattle.ck_epoch.specs.State.{active_word, epoch_word, queue}
use Rattle.ck_epoch.specs.Lists.{on, off, by_list}
use Rattle.ck_epoch.specs.Calls.{RecordLook, scan_steps, AreInactive, AreCurrent, FirstActive}
use Rattle.ck_registry.specs.declared.answers.Scan.{Scan}
use Rattle.ck_registry.specs.declared.answers.Scan.TheVariants.{Clear, Blocked, Ready}
use Rattle.ck_registry.specs.declared.answers.Advance.{Advance}
use Rattle.ck_registry.specs.declared.answers.Advance.TheVariants.{Moved, Raced}
use Rattle.ck_registry.specs.State.{Token, Activity, resting, ready, state_word, register, begin, retire, scan, advance, state}
use Rattle.ck_registry.specs.Deferred.{items_of}
use Rattle.ck_registry.specs.Ends.{Member, rec_of, depth}

-- the exchanges of the states of the records from `rec` on, in order, each with the number that it found
abbrev pub tries : ℕ → ℕ → List ℕ → List Step
tries records rec [] = []
tries records rec (found ∷ rest) = Exchange (state_word records rec) 0 1 found ∷ tries records (rec + 1) rest

-- each of these states was that of a record that is held
abbrev pub AreTaken : List ℕ → Type 0
AreTaken found = All (λ (n : ℕ). n ≡ 1) found

-- `register` found each record before `rec` held, and `rec` free
pub record Registers (records rec : ℕ) (t u : Token) : Type 0 where
  pub found : List ℕ
  pub count : length found ≡ rec
  pub taken : AreTaken found
  pub steps : u ≡ adding t (call register [] (tries records 0 (found ++ 0 ∷ [])))

-- it found each record held
pub record FindsNoRecord (records : ℕ) (t u : Token) : Type 0 where
  pub found : List ℕ
  pub count : length found ≡ records
  pub taken : AreTaken found
  pub steps : u ≡ adding t (call register [] (tries records 0 found))

-- `begin` opened a section, or nested one
abbrev pub Begins : Token → Token → Type 0
Begins t u = (depth t ≡ 0 → (g : ℕ) × (u ≡ adding t (call begin [] (Store (active_word (rec_of t)) 1 ∷ Load 0 g ∷ Store (epoch_word (rec_of t)) g ∷ []))))
    × (0 < depth t → u ≡ adding t (call begin [] (Store (active_word (rec_of t)) (depth t + 1) ∷ [])))

-- `call` retired the item at the global epoch e, which it loaded: the item is pending behind those before it
pub record IsRetiring (item : Item) (e : ℕ) (m n : Member) : Type 0 where
  pub step : n ≡ record m { token = adding m.token (handing (retire ∷ item.at ∷ item.log ∷ []) (item.at ∷ item.log ∷ []) (Load 0 e) ∷ []); calls = m.calls + 1 }
  pub pending : queue (state n.token).pending ≡ queue (state m.token).pending ++ record { item = item; epoch = e } ∷ []
  pub dispatched : (state n.token).dispatched ≡ (state m.token).dispatched

-- A scan that loaded the global epoch e found no record active
pub record FindsAllInactive (records e : ℕ) (t u : Token) : Type 0 where
  pub looked : List RecordLook
  pub all : length looked ≡ records
  pub inactive : AreInactive looked
  pub steps : u ≡ adding t (call scan [] (Load 0 e ∷ scan_steps 0 looked))

-- It found some record active, of which `rec` is the first, and each such had the epoch e
pub record FindsAllCurrent (records e rec : ℕ) (t u : Token) : Type 0 where
  pub looked : List RecordLook
  pub all : length looked ≡ records
  pub found : FirstActive e rec looked
  pub steps : u ≡ adding t (call scan [] (Load 0 e ∷ scan_steps 0 looked))

-- It found `rec` active with another epoch, and each active record before it with e
pub record FindsOneBehind (e rec epoch : ℕ) (t u : Token) : Type 0 where
  pub before : List RecordLook
  pub active : ℕ
  pub at : length before ≡ rec
  pub current : AreCurrent e before
  pub is_active : active ≢ 0
  pub other : epoch ≢ e
  pub steps : u ≡ adding t (call scan [] (Load 0 e ∷ scan_steps 0 (before ++ record { active = active; epoch = epoch } ∷ [])))

-- what a scan that loaded the global epoch e did, by its answer
abbrev pub Scans : ℕ → ℕ → Token → Scan → Token → Type 0
Scans records e t (Clear n) u = FindsAllInactive records e t u
Scans records e t (Blocked n rec epoch) u = FindsOneBehind e rec epoch t u
Scans records e t (Ready n rec epoch) u = (epoch ≡ e) × FindsAllCurrent records e rec t u

-- what it dispatches of the pending items, in this order
abbrev pub scanned_items : ℕ → Scan → List Retired → List Retired
scanned_items e (Clear n) pending = on ((e - 2) % 4) pending ++ by_list (off ((e - 2) % 4) pending)
scanned_items e (Blocked n rec epoch) pending = on ((e - 2) % 4) pending
scanned_items e (Ready n rec epoch) pending = on ((e - 2) % 4) pending

-- and what stays pending
abbrev pub pending_after_scan : ℕ → Scan → List Retired → List Retired
pending_after_scan e (Clear n) pending = []
pending_after_scan e (Blocked n rec epoch) pending = off ((e - 2) % 4) pending
pending_after_scan e (Ready n rec epoch) pending = off ((e - 2) % 4) pending

-- how many it tells
abbrev pub scanned_count : Scan → ℕ
scanned_count (Clear n) = n
scanned_count (Blocked n rec epoch) = n
scanned_count (Ready n rec epoch) = n

-- where it leaves the member: only after Ready it may advance
abbrev pub activity_after_scan : Scan → Activity
activity_after_scan (Clear n) = resting
activity_after_scan (Blocked n rec epoch) = resting
activity_after_scan (Ready n rec epoch) = ready epoch

-- A member's scan that loaded the global epoch e
pub record IsScan (records e : ℕ) (m : Member) (answer : Scan) (n : Member) : Type 0 where
  pub steps : Scans records e m.token answer n.token
  pub late : 4 ≤ e
  pub dispatched : queue (state n.token).dispatched ≡ queue (state m.token).dispatched ++ scanned_items e answer (queue (state m.token).pending)
  pub pending : queue (state n.token).pending ≡ pending_after_scan e answer (queue (state m.token).pending)
  pub waiting : n.waiting ≡ m.waiting ++ items_of (scanned_items e answer (queue (state m.token).pending))
  pub count : scanned_count answer ≡ length (scanned_items e answer (queue (state m.token).pending))
  pub activity : (state n.token).activity ≡ activity_after_scan answer

-- what `advance` from the epoch e did, by its answer: one exchange, which found e or another epoch
abbrev pub Advances : ℕ → Token → Advance → Token → Type 0
Advances e t (Moved n) u = u ≡ adding t (call advance (e ∷ []) (Exchange 0 e (e + 1) e ∷ []))
Advances e t (Raced found) u = (found ≢ e) × (u ≡ adding t (call advance (e ∷ []) (Exchange 0 e (e + 1) found ∷ [])))

-- what it dispatches of the pending items, in this order
abbrev pub advanced_items : ℕ → Advance → List Retired → List Retired
advanced_items e (Moved n) pending = on ((e - 1) % 4) pending
advanced_items e (Raced found) pending = []

-- and what stays pending
abbrev pub pending_after_advance : ℕ → Advance → List Retired → List Retired
pending_after_advance e (Moved n) pending = off ((e - 1) % 4) pending
pending_after_advance e (Raced found) pending = pending

-- how many it tells
abbrev pub advanced_count : Advance → ℕ
advanced_count (Moved n) = n
advanced_count (Raced found) = 0

-- A member's advance from the epoch e
pub record IsAdvance (e : ℕ) (m : Member) (answer : Advance) (n : Member) : Type 0 where
  pub steps : Advances e m.token answer n.token
  pub dispatched : queue (state n.token).dispatched ≡ queue (state m.token).dispatched ++ advanced_items e answer (queue (state m.token).pending)
  pub pending : queue (state n.token).pending ≡ pending_after_advance e answer (queue (state m.token).pending)
  pub waiting : n.waiting ≡ m.waiting ++ items_of (advanced_items e answer (queue (state m.token).pending))
  pub count : advanced_count answer ≡ length (advanced_items e answer (queue (state m.token).pending))
  pub activity : (state n.token).activity ≡ resting
