-- What the token of a visitor did, and which step it may make next.
use Rattle.std.specs.Prelude.{◌≡◌, ℕ, ◌+◌, ◌-◌, ◌%◌, ◌^◌, ◌<◌, ◌≤◌, ◌⊎◌, ◌==◌, cond, Option, Some, None, List, [], ◌∷◌, ◌++◌, length, slice_index}
use Rattle.ck_run.specs.declared.account.Step.{Step}
use Rattle.ck_run.specs.declared.account.Step.TheVariants.{Load, Store, Exchange}
use Rattle.ck_run.specs.declared.account.Entry.{Entry}
use Rattle.ck_run.specs.declared.account.Origin.{Origin as OriginOf}
use Rattle.ck_run.specs.Machine.{Machine, state_in, state_of}
use Rattle.ck_run.specs.Tokens.{Seat}
use Rattle.ck_epoch.specs.State.{active_word, epoch_word, Stage, outside, entering, holding, inside, at_depth, GoesOn, Calls, Retirement, retirement, on_list, off_list, list_by_list, first_busy}

-- The words are the global epoch, then each record's active and epoch words, as in a domain of ck_epoch, and behind them each record's state:
-- 0 where it is free, 1 where it is held
abbrev pub state_word : ℕ → ℕ → ℕ
state_word records r = active_word (records + r)

-- the names of the calls; `retire` is `call`
abbrev pub register : ℕ
register = 35

abbrev pub unregister : ℕ
unregister = 36

abbrev pub begin : ℕ
begin = 37

abbrev pub end : ℕ
end = 38

abbrev pub retire : ℕ
retire = 39

abbrev pub scan : ℕ
scan = 40

abbrev pub advance : ℕ
advance = 41

-- What a visitor is about
pub data Activity : Type 0 where
  -- between two calls, without a record; in `register`, before it tries this record
  away : Activity
  trying : ℕ → Activity
  -- a member, which is a visitor that holds a record: between two calls, or within `begin`
  resting : Activity
  -- in a scan that loaded this epoch and passed the records below this one, of which the first that it found active is this; and after it
  -- found the next record active
  passing : ℕ → ℕ → Option ℕ → Activity
  checking : ℕ → ℕ → Option ℕ → Activity
  -- a member between two calls, the last of which was a scan that loaded this epoch and answered Ready
  ready : ℕ → Activity

-- What a visitor did, by its account: `steps` are all its entries, and `calls` its counted calls but those of `next_item`. A member holds the
-- record `rec`, in which its section stands as a pass's in ck_epoch. A visitor knows the items that are pending, in order of retirement, and
-- all that it dispatched, in order of dispatch
pub record TokenState : Type 0 where
  pub number : ℕ
  pub activity : Activity
  pub section : Stage
  pub rec : ℕ
  pub steps : ℕ
  pub calls : ℕ
  pub pending : List Retirement
  pub dispatched : List Retirement

abbrev pub start : ℕ → TokenState
start n = record { number = n; activity = away; section = outside; rec = 0; steps = 0; calls = 0; pending = []; dispatched = [] }

-- it is of a member
abbrev pub IsMember : Activity → Type 0
IsMember away = ⊥
IsMember (trying r) = ⊥
IsMember a = Unit {0}

-- the visitor is a member and holds the record
abbrev pub Holds : TokenState → ℕ → Type 0
Holds t r = IsMember t.activity × (t.rec ≡ r)

-- after the list of the epoch e is dispatched
abbrev pub dispatch : ℕ → TokenState → TokenState
dispatch e t = record t { pending = off_list (e % 4) t.pending; dispatched = t.dispatched ++ on_list (e % 4) t.pending }

-- after all four lists are, in order of list number
abbrev pub dispatch_all : TokenState → TokenState
dispatch_all t = record t { pending = []; dispatched = t.dispatched ++ list_by_list t.pending }

-- after a scan passed all records. Where it found none active, it dispatches all lists
abbrev pub after_scan : TokenState → ℕ → Option ℕ → TokenState
after_scan t e None = record (dispatch_all t) { activity = resting }
after_scan t e (Some r) = record t { activity = ready e }

-- after the load of the global epoch e, by which a member retires an item or begins a scan
abbrev pub after_load : TokenState → List ℕ → ℕ → TokenState
after_load t (at ∷ log ∷ rest) e = record t { activity = resting; calls = t.calls + 1; pending = t.pending ++ retirement t.steps at log e ∷ [] }
after_load t item e = record (dispatch (e - 2) t) { activity = passing e 0 None; calls = t.calls + 1 }

-- after a store of a member with no section open: it hands its record back, or begins a section
abbrev pub after_store : TokenState → ℕ → TokenState
after_store t n = cond (n == 0) (record t { activity = away }) (record t { activity = resting; section = entering; calls = t.calls + 1 })

-- after the exchange of the global epoch
abbrev pub after_advance : TokenState → ℕ → ℕ → TokenState
after_advance t e found = cond (found == e) (record (dispatch (e - 1) t) { activity = resting; calls = t.calls + 1 }) (record t { activity = resting; calls = t.calls + 1 })

-- after a step of a member between two calls or within `begin`, by its section
abbrev pub after_rest : TokenState → List ℕ → Stage → Step → TokenState
after_rest t item outside (Store at n) = after_store t n
after_rest t item outside (Load at e) = after_load t item e
after_rest t item entering (Load at g) = record t { activity = resting; section = holding g }
after_rest t item (holding g) (Store at n) = record t { activity = resting; section = inside 1 g }
after_rest t item (inside d g) (Store at n) = record t { activity = resting; section = at_depth n g; calls = t.calls + 1 }
after_rest t item (inside d g) (Load at e) = after_load t item e
after_rest t item g s = t

-- a step that retires an item, in `call`
abbrev pub Retires : List ℕ → List ℕ → Type 0
Retires opens item = (at : ℕ) × (log : ℕ) × (opens ≡ retire ∷ at ∷ log ∷ []) × (item ≡ at ∷ log ∷ [])

-- the load of the global epoch by which a member retires an item or begins a scan
abbrev pub MayLoad : TokenState → List ℕ → List ℕ → ℕ → Type 0
MayLoad t opens item at = (at ≡ 0) × (t.calls < 2 ^ 40) × (Retires opens item ⊎ Calls scan opens item)

module _ (records : ℕ) where
  -- after the exchange of the state of the record r
  abbrev pub after_try : TokenState → ℕ → ℕ → TokenState
  after_try t r found = cond (found == 0) (record t { activity = resting; section = outside; rec = r })
      (cond (r + 1 == records) (record t { activity = away }) (record t { activity = trying (r + 1) }))

  -- after the record `rec` was passed
  abbrev pub after_record : TokenState → ℕ → ℕ → Option ℕ → TokenState
  after_record t e rec busy = cond (rec + 1 == records) (after_scan t e busy) (record t { activity = passing e (rec + 1) busy })

  -- after any step, by what the visitor is about
  abbrev pub after_step : TokenState → List ℕ → Activity → Step → TokenState
  after_step t item away (Exchange at old new found) = after_try t 0 found
  after_step t item (trying r) (Exchange at old new found) = after_try t r found
  after_step t item resting s = after_rest t item t.section s
  after_step t item (passing e rec busy) (Load at n) = cond (n == 0) (after_record t e rec busy) (record t { activity = checking e rec busy })
  after_step t item (checking e rec busy) (Load at n) = cond (n == e) (after_record t e rec (first_busy busy rec)) (record t { activity = resting })
  after_step t item (ready e) (Exchange at old new found) = after_advance t e found
  after_step t item (ready e) (Load at n) = after_rest t item t.section (Load at n)
  after_step t item (ready e) (Store at n) = after_rest t item t.section (Store at n)
  after_step t item a s = t

  abbrev pub next : TokenState → Entry → TokenState
  next t e = record (after_step t e.item t.activity e.step) { steps = t.steps + 1 }

  -- the exchange of the state of the record r, from free to held
  abbrev pub Tries : ℕ → ℕ → ℕ → ℕ → Type 0
  Tries r at old new = (at ≡ state_word records r) × (r < records) × (old ≡ 0) × (new ≡ 1)

  -- a store in the active word of the member's record
  abbrev pub SetsActive : TokenState → ℕ → Type 0
  SetsActive t at = (at ≡ active_word t.rec) × (t.rec < records) × (t.calls < 2 ^ 40)

  -- a store that hands the record back, of a member with nothing pending
  abbrev pub HandsBack : TokenState → ℕ → Type 0
  HandsBack t at = (at ≡ state_word records t.rec) × (t.rec < records) × (t.pending ≡ [])

  -- which step a member may make between two calls or within `begin`, by its section, and how a call begins
  abbrev pub MayRest : TokenState → List ℕ → List ℕ → Stage → Step → Type 0
  MayRest t opens item outside (Store at n) = (SetsActive t at × (n ≡ 1) × Calls begin opens item) ⊎ (HandsBack t at × (n ≡ 0) × Calls unregister opens item)
  MayRest t opens item outside (Load at e) = MayLoad t opens item at
  MayRest t opens item entering (Load at g) = (at ≡ 0) × GoesOn opens item
  MayRest t opens item (holding g) (Store at n) = (at ≡ epoch_word t.rec) × (t.rec < records) × (n ≡ g) × GoesOn opens item
  MayRest t opens item (inside d g) (Store at n) = SetsActive t at × (((n ≡ d + 1) × (d < 2 ^ 32) × Calls begin opens item) ⊎ ((n ≡ d - 1) × Calls end opens item))
  MayRest t opens item (inside d g) (Load at e) = MayLoad t opens item at
  MayRest t opens item g s = ⊥

  -- The steps of the calls, in their order: which step a visitor may make, by what it is about
  abbrev pub MayStep : TokenState → List ℕ → List ℕ → Activity → Step → Type 0
  MayStep t opens item away (Exchange at old new found) = Tries 0 at old new × Calls register opens item
  MayStep t opens item (trying r) (Exchange at old new found) = Tries r at old new × GoesOn opens item
  MayStep t opens item resting s = MayRest t opens item t.section s
  MayStep t opens item (passing e rec busy) (Load at n) = (at ≡ active_word rec) × (rec < records) × GoesOn opens item
  MayStep t opens item (checking e rec busy) (Load at n) = (at ≡ epoch_word rec) × (rec < records) × GoesOn opens item
  MayStep t opens item (ready e) (Exchange at old new found) = (at ≡ 0) × (old ≡ e) × (new ≡ e + 1) × (t.calls < 2 ^ 40) × (opens ≡ advance ∷ e ∷ []) × (item ≡ [])
  MayStep t opens item (ready e) (Load at n) = MayRest t opens item t.section (Load at n)
  MayStep t opens item (ready e) (Store at n) = MayRest t opens item t.section (Store at n)
  MayStep t opens item a s = ⊥

-- A registry is given the number of its records
abbrev pub Origin : Type 0
Origin = OriginOf ℕ

abbrev pub Token : Type 0
Token = Seat ℕ

abbrev pub records_of : Origin → ℕ
records_of origin = origin.config

-- a visitor of the registry may make this step
abbrev pub May : Origin → TokenState → Entry → Type 0
May origin t e = (t.number < origin.tokens) × MayStep (records_of origin) t e.opens e.item t.activity e.step

-- the words at opening
pub record IsOpening (origin : Origin) : Type 0 where
  pub some_records : 1 ≤ records_of origin
  pub few : origin.tokens ≤ 64
  pub long : state_word (records_of origin) (records_of origin) ≤ length origin.words
  pub epoch : slice_index origin.words 0 ≡ 4
  pub active : (r : ℕ) → r < records_of origin → slice_index origin.words (active_word r) ≡ 0
  pub epochs : (r : ℕ) → r < records_of origin → slice_index origin.words (epoch_word r) ≡ 4
  pub states : (r : ℕ) → r < records_of origin → slice_index origin.words (state_word (records_of origin) r) ≡ 0

-- the accounts that the calls of a registry make
abbrev pub registry : Machine ℕ TokenState
registry = record {
  IsOpening = λ origin. IsOpening origin;
  start = λ origin. start;
  next = λ origin. next (records_of origin);
  Allows = λ origin. May origin;
}

-- what the visitor with this number did, by its entries
abbrev pub state_at : Origin → ℕ → List Entry → TokenState
state_at origin n entries = state_in registry origin n entries

-- what a token's visitor did, and where it stands
abbrev pub state : Token → TokenState
state t = state_of registry t
