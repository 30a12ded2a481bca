-- What a token of a domain did, and which step it may make next. The token 0 is the writer, and the token 1 + r the pass of record r.
use Rattle.std.specs.Prelude.{◌≡◌, ℕ, zero, suc, ◌+◌, ◌-◌, ◌*◌, ◌%◌, ◌^◌, ◌<◌, ◌≤◌, ◌⊎◌, Bool, true, false, not, ◌&&◌, nat_lt, ◌==◌, cond, Option, Some, None, List, [], ◌∷◌, ◌++◌, map, filter, length, slice_index}
use Rattle.ck_run.specs.declared.account.Step.{Step}
use Rattle.ck_run.specs.declared.account.Step.TheVariants.{Load, Store, Exchange}
use Rattle.ck_run.specs.declared.account.Entry.{Entry}
use Rattle.ck_run.specs.declared.account.Origin.{Origin as OriginOf}
use Rattle.ck_run.specs.Machine.{Machine, state_in, state_of}
use Rattle.ck_run.specs.Tokens.{Seat}
use Rattle.ck_epoch.specs.declared.about.About.{About}
use Rattle.ck_epoch.specs.declared.item.Retired.{Retired}
use Rattle.ck_epoch.specs.Lists.{is_on}

-- The words: the global epoch, and for each record an active word and an epoch word. The words that one reader stores are this many words
-- away from those of others: two cache lines. The client's words come after them
abbrev pub stride : ℕ
stride = 16

abbrev pub active_word : ℕ → ℕ
active_word r = stride * (r + 1)

abbrev pub epoch_word : ℕ → ℕ
epoch_word r = stride * (r + 1) + 1

abbrev pub base : ℕ → ℕ
base records = stride * (records + 1)

-- the names of the calls; `retire` is `call`
abbrev pub begin : ℕ
begin = 1

abbrev pub end : ℕ
end = 2

abbrev pub retire : ℕ
retire = 3

abbrev pub poll : ℕ
poll = 4

abbrev pub synchronize : ℕ
synchronize = 5

abbrev pub barrier : ℕ
barrier = 6

abbrev pub read : ℕ
read = 7

abbrev pub tell : ℕ
tell = 8

abbrev pub ask : ℕ
ask = 9

abbrev pub write : ℕ
write = 10

-- What the writer goes through the records for
pub data Task : Type 0 where
  -- a poll
  polling : Task
  -- a round of `synchronize` or, where true, of `barrier`, whose first step is the writer's entry with this number
  first_round : Bool → ℕ → Task
  second_round : Bool → ℕ → Task

-- Where a token stands within its calls
pub data Stage : Type 0 where
  -- a pass with no section open; in `begin`, after the store of active, and after the load of this global epoch
  outside : Stage
  entering : Stage
  holding : ℕ → Stage
  -- a pass with so many nested sections open, since it stored this epoch
  inside : ℕ → ℕ → Stage
  -- the writer between two calls
  free : Stage
  -- the writer after it loaded this epoch and passed the records below this one, of which the first that it found active is this;
  -- and after it found the next record active
  scanning : Task → ℕ → ℕ → Option ℕ → Stage
  comparing : Task → ℕ → ℕ → Option ℕ → Stage
  -- the writer between the two rounds of `synchronize` or `barrier`
  between : Bool → ℕ → Stage

-- An item that was retired by the writer's entry with this number
pub record Retirement : Type 0 where
  pub number : ℕ
  pub retired : Retired

-- What a token did, by its account: `steps` are all its entries, and `calls` its counted calls. A pass has the record `rec`. The writer
-- knows the global epoch, the items that are pending, in order of retirement, those that it dispatched, in order of dispatch, and the first
-- entry of its last `synchronize` or `barrier` that is done
pub record TokenState : Type 0 where
  pub stage : Stage
  pub rec : ℕ
  pub steps : ℕ
  pub calls : ℕ
  pub epoch : ℕ
  pub pending : List Retirement
  pub dispatched : List Retirement
  pub waited : Option ℕ

-- before the first step
abbrev pub initial : Stage → ℕ → TokenState
initial g r = record { stage = g; rec = r; steps = 0; calls = 0; epoch = 4; pending = []; dispatched = []; waited = None }

abbrev pub start : ℕ → TokenState
start zero = initial free 0
start (suc r) = initial outside r

-- how many nested sections are open
abbrev pub depth_of : Stage → ℕ
depth_of (inside d g) = d
depth_of g = 0

-- a step that doesn't begin a call and hands nothing over
abbrev pub GoesOn : List ℕ → List ℕ → Type 0
GoesOn opens item = (opens ≡ []) × (item ≡ [])

-- a step that begins a call without arguments, and hands nothing over
abbrev pub Calls : ℕ → List ℕ → List ℕ → Type 0
Calls name opens item = (opens ≡ name ∷ []) × (item ≡ [])

-- the items as the writer's queue has them
abbrev pub queue : List Retirement → List Retired
queue items = map (λ (k : Retirement). k.retired) items

abbrev pub on_list : ℕ → List Retirement → List Retirement
on_list list items = filter (λ (k : Retirement). is_on list k.retired) items

abbrev pub off_list : ℕ → List Retirement → List Retirement
off_list list items = filter (λ (k : Retirement). not (is_on list k.retired)) items

abbrev pub list_by_list : List Retirement → List Retirement
list_by_list items = on_list 0 items ++ (on_list 1 items ++ (on_list 2 items ++ on_list 3 items))

-- after the list of the epoch e is dispatched
abbrev pub dispatch : ℕ → TokenState → TokenState
dispatch e t = record t { pending = off_list (e % 4) t.pending; dispatched = t.dispatched ++ on_list (e % 4) t.pending }

-- after all four lists are, in order of list number
abbrev pub dispatch_all : TokenState → TokenState
dispatch_all t = record t { pending = []; dispatched = t.dispatched ++ list_by_list t.pending }

-- an item with this place and this log, retired at the epoch e
abbrev pub retirement : ℕ → ℕ → ℕ → ℕ → Retirement
retirement number at log e = record { number = number; retired = record { item = record { at = at; log = log }; epoch = e } }

-- a pass after it stored this number in its active word
abbrev pub at_depth : ℕ → ℕ → Stage
at_depth zero g = outside
at_depth (suc d) g = inside (suc d) g

abbrev pub first_busy : Option ℕ → ℕ → Option ℕ
first_busy None rec = Some rec
first_busy (Some r) rec = Some r

-- a poll that found no record active
abbrev pub is_clear : Task → Option ℕ → Bool
is_clear polling None = true
is_clear task busy = false

-- after the writer's load of the global epoch e, by which it retires an item, or begins a poll or a first round
abbrev pub after_load : TokenState → List ℕ → List ℕ → ℕ → TokenState
after_load t opens (at ∷ log ∷ rest) e = record t { stage = free; calls = t.calls + 1; pending = t.pending ++ retirement t.steps at log e ∷ [] }
after_load t opens item e = cond (slice_index opens 0 == poll)
    (record (dispatch (e - 2) t) { stage = scanning polling e 0 None; calls = t.calls + 1 })
    (record t { stage = scanning (first_round (slice_index opens 0 == barrier) t.steps) e 0 None; calls = t.calls + 1 })

-- after the record `rec` was found active with another epoch
abbrev pub after_blocked : TokenState → Task → ℕ → ℕ → Option ℕ → TokenState
after_blocked t polling e rec busy = record t { stage = free }
after_blocked t task e rec busy = record t { stage = scanning task e rec busy }

-- after the global epoch rose from e
abbrev pub after_raise : TokenState → Task → ℕ → TokenState
after_raise t polling e = record (dispatch (e - 1) t) { stage = free; epoch = e + 1 }
after_raise t (first_round all started) e = record t { stage = between all started; epoch = e + 1 }
after_raise t (second_round all started) e = record (cond all (dispatch_all t) t) { stage = free; epoch = e + 1; waited = Some started }

-- a step that retires an item, in `call` by itself or within a call of the client's
abbrev pub Retires : List ℕ → Type 0
Retires item = (at : ℕ) × (log : ℕ) × (item ≡ at ∷ log ∷ [])

module _ (records : ℕ) where
  -- after the record `rec` was passed. Where a poll has found none of all records active, it dispatches all lists
  abbrev pub after_record : TokenState → Task → ℕ → ℕ → Option ℕ → TokenState
  after_record t task e rec busy = cond ((rec + 1 == records) && is_clear task busy) (record (dispatch_all t) { stage = free }) (record t { stage = scanning task e (rec + 1) busy })

  -- after any step, by the stage before it
  abbrev pub after_step : TokenState → List ℕ → List ℕ → Stage → Step → TokenState
  after_step t opens item outside (Store at n) = cond (nat_lt at (base records)) (record t { stage = entering; calls = t.calls + 1 }) t
  after_step t opens item entering (Load at g) = record t { stage = holding g }
  after_step t opens item (holding g) (Store at n) = record t { stage = inside 1 g }
  after_step t opens item (inside d g) (Store at n) = cond (nat_lt at (base records)) (record t { stage = at_depth n g; calls = t.calls + 1 }) t
  after_step t opens item free (Load at e) = cond (nat_lt at (base records)) (after_load t opens item e) t
  after_step t opens item (scanning task e rec busy) (Load at n) = cond (n == 0) (after_record t task e rec busy) (record t { stage = comparing task e rec busy })
  after_step t opens item (scanning task e rec busy) (Exchange at expected new found) = after_raise t task e
  after_step t opens item (comparing task e rec busy) (Load at n) = cond (n == e) (after_record t task e rec (first_busy busy rec)) (after_blocked t task e rec busy)
  after_step t opens item (between all started) (Load at e) = record t { stage = scanning (second_round all started) e 0 None }
  after_step t opens item g s = t

  abbrev pub next : TokenState → Entry → TokenState
  next t e = record (after_step t e.opens e.item t.stage e.step) { steps = t.steps + 1 }

  -- a step on a word of the client's, which is the client's to allow
  abbrev pub IsClients : ℕ → List ℕ → Type 0
  IsClients at item = (base records ≤ at) × (item ≡ [])

  -- a store in the active word of the pass's record
  abbrev pub SetsActive : TokenState → ℕ → Type 0
  SetsActive t at = (at ≡ active_word t.rec) × (t.rec < records) × (t.calls < 2 ^ 40)

  -- The steps of the calls, in their order: which step a token may make at which stage, and how a call begins
  abbrev pub MayStep : TokenState → List ℕ → List ℕ → Stage → Step → Type 0
  MayStep t opens item outside (Store at n) = (SetsActive t at × (n ≡ 1) × Calls begin opens item) ⊎ IsClients at item
  MayStep t opens item outside (Load at n) = IsClients at item
  MayStep t opens item entering (Load at g) = (at ≡ 0) × GoesOn opens item
  MayStep t opens item (holding g) (Store at n) = (at ≡ epoch_word t.rec) × (t.rec < records) × (n ≡ g) × GoesOn opens item
  MayStep t opens item (inside d g) (Store at n) = (SetsActive t at × (((n ≡ d + 1) × (d < 2 ^ 32) × Calls begin opens item) ⊎ ((n ≡ d - 1) × Calls end opens item))) ⊎ IsClients at item
  MayStep t opens item (inside d g) (Load at n) = IsClients at item
  MayStep t opens item free (Load at e) = ((at ≡ 0) × (t.calls < 2 ^ 40) × (Retires item ⊎ Calls poll opens item ⊎ Calls synchronize opens item ⊎ Calls barrier opens item)) ⊎ IsClients at item
  MayStep t opens item free (Store at n) = IsClients at item
  MayStep t opens item (scanning task e rec busy) (Load at n) = (at ≡ active_word rec) × (rec < records) × GoesOn opens item
  MayStep t opens item (scanning task e rec busy) (Exchange at expected new found) = (at ≡ 0) × (rec ≡ records) × (expected ≡ e) × (new ≡ e + 1) × GoesOn opens item
  MayStep t opens item (comparing task e rec busy) (Load at n) = (at ≡ epoch_word rec) × (rec < records) × GoesOn opens item
  MayStep t opens item (between all started) (Load at e) = (at ≡ 0) × GoesOn opens item
  MayStep t opens item g s = ⊥

  abbrev pub May : TokenState → Entry → Type 0
  May t e = MayStep t e.opens e.item t.stage e.step

-- a domain is given its client and the number of its records
abbrev pub Origin : Type 0 → Type 0
Origin C = OriginOf (About C)

abbrev pub Token : Type 0 → Type 0
Token C = Seat (About C)

module _ {C : Type 0} where
  abbrev pub records_of : Origin C → ℕ
  records_of origin = origin.config.records

  -- where the client's words begin
  abbrev pub base_of : Origin C → ℕ
  base_of origin = base (records_of origin)

  -- the epochs' words at opening
  pub record IsOpening (origin : Origin C) : Type 0 where
    pub some_records : 1 ≤ records_of origin
    pub tokens : origin.tokens ≡ records_of origin + 1
    pub long : base_of origin ≤ length origin.words
    pub epoch : slice_index origin.words 0 ≡ 4
    pub active : (r : ℕ) → r < records_of origin → slice_index origin.words (active_word r) ≡ 0
    pub epochs : (r : ℕ) → r < records_of origin → slice_index origin.words (epoch_word r) ≡ 4

  -- the accounts that the tokens of a domain have, whatever its client
  abbrev pub epochs : Machine (About C) TokenState
  epochs = record {
    IsOpening = λ origin. IsOpening origin;
    start = λ origin. start;
    next = λ origin. next (records_of origin);
    Allows = λ origin. May (records_of origin);
  }

  -- what the token with this number did, by its entries
  abbrev pub state_at : Origin C → ℕ → List Entry → TokenState
  state_at origin n entries = state_in epochs origin n entries

  -- what a token did, and where it stands
  abbrev pub state : Token C → TokenState
  state t = state_of epochs t

  -- how many nested sections of the pass are open
  abbrev pub depth : Token C → ℕ
  depth t = depth_of (state t).stage
