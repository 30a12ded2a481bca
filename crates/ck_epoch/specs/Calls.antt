-- What the calls of a domain did, by their answers.
use Rattle.std.specs.Prelude.{◌≡◌, ◌≢◌, ℕ, ◌+◌, ◌-◌, ◌%◌, ◌<◌, ◌==◌, cond, List, [], ◌∷◌, ◌++◌, length, All}
use Rattle.ck_run.specs.declared.account.Step.{Step}
use Rattle.ck_run.specs.declared.account.Step.TheVariants.{Load, Store, Exchange}
use Rattle.ck_run.specs.declared.account.Entry.{Entry}
use Rattle.ck_run.specs.Run.{call}
use Rattle.ck_run.specs.Range.{word_of}
use Rattle.ck_run.specs.Tokens.{did, origin, number, adding}
use Rattle.ck_epoch.specs.declared.item.Retired.{Retired}
use Rattle.ck_epoch.specs.declared.answers.Poll.{Poll}
use Rattle.ck_epoch.specs.declared.answers.Poll.TheVariants.{Clear, Moved, Blocked}
use Rattle.ck_epoch.specs.State.{Token, active_word, epoch_word, begin, poll, depth, base_of, state}
use Rattle.ck_epoch.specs.Lists.{on, off, by_list}
use Rattle.ck_epoch.specs.Client.{Client}

-- What a poll loaded of a record: its active word and, where that isn't 0, its epoch word
pub record RecordLook : Type 0 where
  pub active : ℕ
  pub epoch : ℕ

abbrev pub look_steps : ℕ → RecordLook → List Step
look_steps rec l = Load (active_word rec) l.active ∷ cond (l.active == 0) [] (Load (epoch_word rec) l.epoch ∷ [])

-- of the records from `rec` on, in order
abbrev pub scan_steps : ℕ → List RecordLook → List Step
scan_steps rec [] = []
scan_steps rec (l ∷ ls) = look_steps rec l ++ scan_steps (rec + 1) ls

-- none of these records was active
abbrev pub AreInactive : List RecordLook → Type 0
AreInactive ls = All (λ (l : RecordLook). l.active ≡ 0) ls

-- each of these that was active had this epoch
abbrev pub AreCurrent : ℕ → List RecordLook → Type 0
AreCurrent e ls = All (λ (l : RecordLook). l.active ≢ 0 → l.epoch ≡ e) ls

-- Of these records `rec` is the first that was active, and each that was active had the epoch e
pub record FirstActive (e rec : ℕ) (looked : List RecordLook) : Type 0 where
  pub before : List RecordLook
  pub active : ℕ
  pub after : List RecordLook
  pub are : looked ≡ before ++ record { active = active; epoch = e } ∷ after
  pub at : length before ≡ rec
  pub inactive : AreInactive before
  pub is_active : active ≢ 0
  pub current : AreCurrent e after

-- what a poll that loaded the global epoch e dispatches of the pending items, in this order
abbrev pub dispatched_items : ℕ → Poll → List Retired → List Retired
dispatched_items e (Clear n) pending = on ((e - 2) % 4) pending ++ by_list (off ((e - 2) % 4) pending)
dispatched_items e (Moved n rec) pending = on ((e - 2) % 4) pending ++ on ((e - 1) % 4) (off ((e - 2) % 4) pending)
dispatched_items e (Blocked n rec epoch) pending = on ((e - 2) % 4) pending

-- and what stays pending
abbrev pub pending_after : ℕ → Poll → List Retired → List Retired
pending_after e (Clear n) pending = []
pending_after e (Moved n rec) pending = off ((e - 1) % 4) (off ((e - 2) % 4) pending)
pending_after e (Blocked n rec epoch) pending = off ((e - 2) % 4) pending

-- how many it tells
abbrev pub count_of : Poll → ℕ
count_of (Clear n) = n
count_of (Moved n rec) = n
count_of (Blocked n rec epoch) = n

-- the global epoch afterwards
abbrev pub epoch_after : ℕ → Poll → ℕ
epoch_after e (Clear n) = e
epoch_after e (Moved n rec) = e + 1
epoch_after e (Blocked n rec epoch) = e

module _ {C : Type 0} where
  -- the record of a pass
  abbrev pub rec_of : Token C → ℕ
  rec_of t = number t - 1

  -- `begin` opened a section, or nested one
  abbrev pub Begins : Token C → Token C → Type 0
  Begins t u = (depth t ≡ 0 → (g : ℕ) × (u ≡ adding t (call begin [] (Store (active_word (rec_of t)) 1 ∷ Load 0 g ∷ Store (epoch_word (rec_of t)) g ∷ []))))
      × (0 < depth t → u ≡ adding t (call begin [] (Store (active_word (rec_of t)) (depth t + 1) ∷ [])))

  -- A poll that loaded the global epoch e found no record active
  pub record FindsNoneActive (records e : ℕ) (t u : Token C) : Type 0 where
    pub looked : List RecordLook
    pub all : length looked ≡ records
    pub inactive : AreInactive looked
    pub steps : u ≡ adding t (call poll [] (Load 0 e ∷ scan_steps 0 looked))

  -- It found some record active, of which `rec` is the first, and each such had the epoch e, from which the global one rose
  pub record Moves (records e rec : ℕ) (t u : Token C) : Type 0 where
    pub looked : List RecordLook
    pub all : length looked ≡ records
    pub found : FirstActive e rec looked
    pub steps : u ≡ adding t (call poll [] (Load 0 e ∷ scan_steps 0 looked ++ Exchange 0 e (e + 1) e ∷ []))

  -- It found `rec` active with another epoch, and each active record before it with e
  pub record IsBlocked (records e rec epoch : ℕ) (t u : Token C) : Type 0 where
    pub before : List RecordLook
    pub active : ℕ
    pub at : length before ≡ rec
    pub low : rec < records
    pub current : AreCurrent e before
    pub is_active : active ≢ 0
    pub other : epoch ≢ e
    pub steps : u ≡ adding t (call poll [] (Load 0 e ∷ scan_steps 0 (before ++ record { active = active; epoch = epoch } ∷ [])))

  -- what a poll did, by its answer
  abbrev pub Polls : ℕ → ℕ → Token C → Poll → Token C → Type 0
  Polls records e t (Clear n) u = FindsNoneActive records e t u
  Polls records e t (Moved n rec) u = Moves records e rec t u
  Polls records e t (Blocked n rec epoch) u = IsBlocked records e rec epoch t u

  -- From t to u the writer retired and dispatched nothing, and raised no epoch
  abbrev pub SameItemsAndEpoch : Token C → Token C → Type 0
  SameItemsAndEpoch t u = ((state u).pending ≡ (state t).pending) × ((state u).dispatched ≡ (state t).dispatched) × ((state u).epoch ≡ (state t).epoch)

  -- the client allows the token this step
  abbrev pub MayFollow : Client C → Token C → Entry → Type 0
  MayFollow client t e = client.follows (base_of (origin t)) (origin t) (number t) (did t ++ e ∷ [])

  -- The steps from t to u are below this word, and hand nothing over
  abbrev pub StepsBelow : ℕ → Token C → Token C → Type 0
  StepsBelow word t u = (es : List Entry) × (u ≡ adding t es) × All (λ (e : Entry). (word_of e.step < word) × (e.item ≡ [])) es
