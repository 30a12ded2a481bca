-- What an update stores and answers, by its plan.
use Rattle.std.specs.Prelude.{◌≡◌, ℕ, suc, ◌+◌, ◌-◌, ◌*◌, ◌<◌, ◌≤◌, ◌⊎◌, Bool, nat_lt, List, [], ◌∷◌, ◌++◌, length, map, MatchBool, set, slice_index, true, false}
use Rattle.std.specs.Vec.{with_item}
use Rattle.ck_run.specs.declared.account.Step.{Step}
use Rattle.ck_run.specs.declared.account.Step.TheVariants.{Load, Store}
use Rattle.ck_run.specs.declared.account.Entry.{Entry}
use Rattle.ck_run.specs.Run.{entry, further}
use Rattle.ck_run.specs.Range.{word_of}
use Rattle.ck_run.specs.Tokens.{adding}
use Rattle.ck_epoch.specs.State.{Origin, state}
use Rattle.ck_epoch.specs.Ends.{Writer, IsDomainToken}
use Rattle.ck_history.specs.declared.log.LogEntry.{LogEntry}
use Rattle.ck_history.specs.declared.update.Reply.{Reply}
use Rattle.ck_slots.specs.Slots.{SlotsView}
use Rattle.ck_slots.specs.Counting.{rebuilt_log}
use Rattle.ck_htplan.specs.declared.cases.Plan.{Plan}
use Rattle.ck_htplan.specs.declared.cases.Plan.TheVariants.{Empty, Reuse, Stand, Move}
use Rattle.ck_htplan.specs.Region.{low_of, high_of}
use Rattle.ck_htlaw.specs.Calls.{opening_of, set as setting, put as putting}
use Rattle.ck_htlaw.specs.Stages.{Insertion, Target, empty, Stage, idle, after_rebuild}
use Rattle.ck_htlaw.specs.Layout.{log_of}
use Rattle.ck_htlaw.specs.Table.{Layout, WriterState, Action, count}
use Rattle.ck_htlaw.specs.Actions.{most, action, adds, answer_to, by_call, keys_now, plan_now, put_reply, set_reply, tombstones_now}
use Rattle.ck_htlaw.specs.Client.{Answers}
use Rattle.ck_htlaw.specs.Host.{Host, lies}
use Rattle.ck_htlaw.specs.Known.{knows}
use Rattle.ck_htwrite.specs.declared.state.HtState.{HtState}
use Rattle.ck_htwrite.specs.declared.state.Need.{Need}
use Rattle.ck_arena.specs.Arena.{HasNoneFree, unreturned}
use Rattle.ck_htwrite.specs.Arena.{AddsRegion, IsKept}
use Rattle.ck_htwrite.specs.Rebuild.{pair_steps, rebuild_entries}
use Rattle.ck_htwrite.specs.State.{counter_at, next_count, Mirrors, Reflects}
use Rattle.ck_htwrite.specs.Writes.{counters_in, opened, Steps, WriterAt}

-- the words after a slot got its key
abbrev pub keyed_words : Layout → ℕ → ℕ → ℕ → List ℕ → List ℕ
keyed_words l root at key words = set (set (set words (l.word root at 1) (low_of key)) (l.word root at 2) (high_of key)) (l.word root at 0) 1

-- The steps of the cases of an update, where a bump stores this number in the counter: a fresh key takes an empty slot, or a tombstone;
-- a present one moves to an earlier tombstone; a key is removed
abbrev pub insert_steps : Layout → ℕ → ℕ → ℕ → ℕ → List Step
insert_steps l root at key value = pair_steps l root at (low_of key) (high_of key) value

abbrev pub reuse_steps : Layout → ℕ → ℕ → ℕ → ℕ → ℕ → List Step
reuse_steps l root at key value count = Store (l.counter root) count ∷ insert_steps l root at key value

abbrev pub move_steps : Layout → ℕ → ℕ → ℕ → ℕ → ℕ → ℕ → List Step
move_steps l root to from key value count = reuse_steps l root to key value count ++ Store (l.counter root) (count + 1) ∷ Store (l.word root from 0) 2 ∷ []

abbrev pub remove_steps : Layout → ℕ → ℕ → ℕ → List Step
remove_steps l root at count = Store (l.word root at 0) 2 ∷ Store (l.counter root) count ∷ []

-- the lists after a bump, after the store of a value and after those of a key
abbrev pub bumped_lists : ℕ → HtState → HtState
bumped_lists counters s = record s { counters = with_item s.counters (counter_at counters s.root) (next_count counters s) }

abbrev pub valued_lists : HtState → ℕ → ℕ → HtState
valued_lists s at value = record s { words = with_item s.words (4 * at + 3) value }

abbrev pub keyed_lists : HtState → ℕ → ℕ → HtState
keyed_lists s at key = record s { words = with_item (with_item (with_item s.words (4 * at + 1) (low_of key)) (4 * at + 2) (high_of key)) (4 * at + 0) 1 }

abbrev pub buried_lists : HtState → ℕ → HtState
buried_lists s at = record s { words = with_item s.words (4 * at + 0) 2 }

-- the lists after each case
abbrev pub inserted_lists : HtState → ℕ → ℕ → ℕ → HtState
inserted_lists s at key value = record (keyed_lists (valued_lists s at value) at key) { keys = s.keys + 1 }

abbrev pub reused_lists : ℕ → HtState → ℕ → ℕ → ℕ → HtState
reused_lists counters s at key value = record (keyed_lists (valued_lists (bumped_lists counters s) at value) at key) { keys = s.keys + 1; tombstones = s.tombstones - 1 }

abbrev pub moved_lists : ℕ → HtState → ℕ → ℕ → ℕ → ℕ → HtState
moved_lists counters s to from key value = buried_lists (bumped_lists counters (keyed_lists (valued_lists (bumped_lists counters s) to value) to key)) from

abbrev pub removed_lists : ℕ → HtState → ℕ → HtState
removed_lists counters s at = record (bumped_lists counters (buried_lists s at)) { keys = s.keys - 1; tombstones = s.tombstones + 1 }

-- The steps of an update may begin here with a step that opens this: it is the first of the call, or it comes after a rebuild
abbrev pub MayBegin : Stage → List ℕ → Type 0
MayBegin idle opens = Unit {0}
MayBegin (after_rebuild call) opens = opens ≡ []
MayBegin g opens = ⊥

-- the call goes on after its rebuild, and then a fresh key goes into an empty slot
abbrev pub AddsFresh : List ℕ → ℕ → ℕ → Type 0
AddsFresh opens key value = (l : Layout) (p : WriterState) (at : ℕ) → plan_now l p key ≡ Empty at → (word : ℕ) → by_call l p (opening_of opens) word ≡ adds l p empty (record { key = key; number = value; to = at }) word

-- how the call opens: `put` where true, or else `set`
abbrev pub storing : Bool → ℕ → ℕ → List ℕ
storing true key value = putting ∷ key ∷ value ∷ []
storing false key value = setting ∷ key ∷ value ∷ []

-- what the call answers, which is settled at its first step
abbrev pub settled_answer : Layout → WriterState → Stage → List ℕ → LogEntry ℕ → LogEntry ℕ
settled_answer l p idle opens due = answer_to l p (opening_of opens)
settled_answer l p g opens due = due

-- The writer, with these lists, is about to do this by a step that opens this
pub record IsAbout (counters : ℕ) (l : Layout) (p : WriterState) (s : HtState) (opens : List ℕ) (a : Action) : Type 0 where
  pub lists : Reflects counters l p s
  pub begins : MayBegin p.stage opens
  pub does : (x : Step) → action l p (entry opens x) ≡ a

-- The call is over and has answered this, and the writer is between two calls with these lists
pub record IsOver (counters : ℕ) (l : Layout) (a : Answers) (answer : LogEntry ℕ) (told : List (LogEntry ℕ)) (s : HtState) : Type 0 where
  pub is_writer : WriterState
  pub at : WriterAt a is_writer answer (told ++ answer ∷ [])
  pub idles : is_writer.stage ≡ idle
  pub root : is_writer.root ≡ s.root
  pub mirrors : Mirrors counters l is_writer.words s
  pub bumped : (i : ℕ) → slice_index s.counters.items i ≤ is_writer.bumps

-- the slots that a plan names are among n, and have the states that it says
abbrev pub IsIn : ℕ → Plan → Type 0
IsIn n (Empty at) = at < n
IsIn n (Reuse at) = at < n
IsIn n (Stand at) = at < n
IsIn n (Move to from) = (to < n) × (from < n)

abbrev pub HasStates : SlotsView → Plan → Type 0
HasStates v (Empty at) = v.state at ≡ 0
HasStates v (Reuse at) = v.state at ≡ 2
HasStates v (Stand at) = v.state at ≡ 1
HasStates v (Move to from) = (v.state to ≡ 2) × (v.state from ≡ 1)

-- an update that stores nothing loads the root
abbrev pub Asks : Layout → List Step → Type 0
Asks l ss = (n : ℕ) × (ss ≡ Load l.base n ∷ [])

module _ (l : Layout) (p : WriterState) where
  -- what a bump of the present region's counter stores
  abbrev pub bumped_count : ℕ
  bumped_count = suc (count l p.words p.root)

  -- a table has at most 262,144 pairs
  abbrev pub has_room : Bool
  has_room = nat_lt (keys_now l p) most

  -- at most three quarters of the slots are in use, with one more
  abbrev pub IsRoomy : Type 0
  IsRoomy = 4 * (keys_now l p + tombstones_now l p + 1) ≤ 3 * (l.order p.root).slots

  -- the steps of a fresh key that takes an empty slot, or a tombstone
  abbrev pub InsertSteps : ℕ → ℕ → ℕ → List Step → Type 0
  InsertSteps key value at ss = MatchBool has_room (IsRoomy × (ss ≡ insert_steps l p.root at key value)) (Asks l ss)

  abbrev pub ReuseSteps : ℕ → ℕ → ℕ → List Step → Type 0
  ReuseSteps key value at ss = MatchBool has_room (ss ≡ reuse_steps l p.root at key value bumped_count) (Asks l ss)

  -- the steps of `set`, `put` and `remove`, where no rebuild is due
  abbrev pub SetSteps : ℕ → ℕ → Plan → List Step → Type 0
  SetSteps key value (Empty at) ss = InsertSteps key value at ss
  SetSteps key value (Reuse at) ss = ReuseSteps key value at ss
  SetSteps key value (Stand at) ss = ss ≡ Store (l.word p.root at 3) value ∷ []
  SetSteps key value (Move to from) ss = ss ≡ move_steps l p.root to from key value bumped_count

  abbrev pub PutSteps : ℕ → ℕ → Plan → List Step → Type 0
  PutSteps key value (Empty at) ss = InsertSteps key value at ss
  PutSteps key value (Reuse at) ss = ReuseSteps key value at ss
  PutSteps key value (Stand at) ss = Asks l ss
  PutSteps key value (Move to from) ss = Asks l ss

  -- the steps of `put` where true, which keeps the value of a key that is present, or else of `set`; and the answer
  abbrev pub StoreSteps : Bool → ℕ → ℕ → Plan → List Step → Type 0
  StoreSteps true = PutSteps
  StoreSteps false = SetSteps

  abbrev pub store_reply : Bool → Plan → Reply
  store_reply true = put_reply l p
  store_reply false = set_reply l p

  abbrev pub RemoveSteps : Plan → List Step → Type 0
  RemoveSteps (Empty at) ss = Asks l ss
  RemoveSteps (Reuse at) ss = Asks l ss
  RemoveSteps (Stand at) ss = ss ≡ remove_steps l p.root at bumped_count
  RemoveSteps (Move to from) ss = ss ≡ remove_steps l p.root from bumped_count

  -- a fresh key is about to take its slot, if there is room
  abbrev pub IsAdding : List ℕ → Target → Insertion → Type 0
  IsAdding opens c w = (s : Step) → action l p (entry opens s) ≡ adds l p c w (word_of s)

  -- A fresh key takes an empty slot of this plan, and the map has to be rebuilt first
  pub record IsRebuildDue (plan : Plan) : Type 0 where
    pub slot : ℕ
    pub fresh : plan ≡ Empty slot
    pub room : has_room ≡ true
    pub full : IsRoomy → ⊥

  -- the length of the piece that the rebuild takes
  abbrev pub needed_log : ℕ
  needed_log = rebuilt_log (log_of p.root) (keys_now l p) + 2

  -- the steps of a call that rebuilds the map first: those of the rebuild, and then the stores of the fresh key and its value in a slot of the
  -- new region
  pub record AreGrowing (opens : List ℕ) (key value : ℕ) (es : List Entry) : Type 0 where
    pub root : ℕ
    pub at : ℕ
    pub epoch : ℕ
    pub stores : List Step
    pub are : es ≡ rebuild_entries l opens p.root root stores epoch ++ map further (insert_steps l root at key value)

  -- what a call made: the steps of its case, or those of a rebuild and then of a fresh key
  abbrev pub Makes : (List Step → Type 0) → Plan → List ℕ → ℕ → ℕ → List Entry → Type 0
  Makes AreSteps plan opens key value es = ((ss : List Step) × AreSteps ss × (es ≡ opened opens ss)) ⊎ (IsRebuildDue plan × AreGrowing opens key value es)

module _ {D : Type 0} (h : Host D) (o : Origin D) (p : WriterState) where
  -- A call that opens so, from this state between two calls, answers what is expected of it, made such steps, and is over
  pub record IsMade {F : Type 0} (expected : Reply) (AreSteps : List Step → Type 0) (opens : List ℕ) (w : Writer D F) (reply : Reply) (w' : Writer D F) (s : HtState) : Type 0 where
    pub reply_is : reply ≡ expected
    pub steps : List Step
    pub are : AreSteps steps
    pub made : Steps h o w (opened opens steps) w'
    pub over : IsOver (counters_in h o) (lies h o) (knows h o w'.token) (answer_to (lies h o) p (opening_of opens)) (knows h o w.token).log s

  -- The same of a call that rebuilds first. A region of that length was free, and the one that it replaced is pending
  pub record IsGrown {F : Type 0} (expected : Reply) (plan : Plan) (opens : List ℕ) (key value : ℕ) (w : Writer D F) (reply : Reply) (w' : Writer D F) (s s' : HtState) : Type 0 where
    pub reply_is : reply ≡ expected
    pub due : IsRebuildDue (lies h o) p plan
    pub free : HasNoneFree s.arena (needed_log (lies h o) p) → ⊥
    pub entries : List Entry
    pub are : AreGrowing (lies h o) p opens key value entries
    pub made : w' ≡ record w { token = adding w.token entries; calls = w.calls + 1 }
    pub is_token : IsDomainToken h.client w'.token
    pub retired : length (state w'.token).pending ≡ length (state w.token).pending + 1
    pub items : AddsRegion (counters_in h o) (h.place o.config.client) (unreturned (state w.token) w.waiting) (unreturned (state w'.token) w'.waiting)
    pub over : IsOver (counters_in h o) (lies h o) (knows h o w'.token) (answer_to (lies h o) p (opening_of opens)) (knows h o w.token).log s'
    pub arena : IsKept (counters_in h o) (h.place o.config.client) s'.root (unreturned (state w'.token) w'.waiting) s'.arena

  -- A call that may rebuild. The arena is as before where it didn't
  abbrev pub IsDone : {F : Type 0} → Reply → (List Step → Type 0) → Plan → List ℕ → ℕ → ℕ → Writer D F → Reply → Writer D F → HtState → HtState → Type 0
  IsDone expected AreSteps plan opens key value w reply w' s s' = (IsMade expected AreSteps opens w reply w' s' × (s'.root ≡ s.root) × (s'.arena ≡ s.arena)) ⊎ IsGrown expected plan opens key value w reply w' s s'

  -- A rebuild is due, and no piece of the length that it takes is free
  pub record IsNeeded (plan : Plan) (s : HtState) (need : Need) : Type 0 where
    pub due : IsRebuildDue (lies h o) p plan
    pub shelf : need.shelf ≡ 0
    pub log : need.log ≡ needed_log (lies h o) p
    pub none : HasNoneFree s.arena need.log
