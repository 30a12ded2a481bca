-- What holds of a table's words and of all its tokens at each moment of a run.
use Rattle.std.specs.Prelude.{◌≡◌, ◌≢◌, ℕ, suc, ◌+◌, ◌*◌, ◌<◌, ◌≤◌, ◌⊎◌, true, List, length, slice_index}
use Rattle.ck_slots.specs.Slots.{Order, IsOrder, SlotsView, Holds}
use Rattle.ck_htlaw.specs.Stages.{Insertion, Target, empty, reuse, move, Stage, idle, with_bump, with_value, with_low, with_high, twice, before_tombstone, clearing, copying, after_rebuild, IsPlanned, IsMap, parts, NoneFull}
use Rattle.ck_htlaw.specs.Look.{no_look, counted, LookInvariant}
use Rattle.ck_htlaw.specs.Table.{Layout, view, count, is_table_word, Action, inserts, stands, deletes, begins_rebuild, copies, publishes, tidies, WriterState, ReaderState, LocalState, writer, reader}
use Rattle.ck_htlaw.specs.Trace.{Scene}
use Rattle.ck_run.specs.declared.account.Entry.{Entry}

abbrev pub IsOwn : Layout → ℕ → Type 0
IsOwn l i = (l.base ≤ i) × (i < l.base + l.size)

-- two regions share no word
pub record IsDisjoint (l : Layout) (a b : ℕ) : Type 0 where
  pub slots : (s i t j : ℕ) → s < (l.order a).slots → t < (l.order b).slots → i < 4 → j < 4 → l.word a s i ≢ l.word b t j
  pub counters : l.counter a ≢ l.counter b

-- the root names a region
pub record IsRegion (l : Layout) (size root : ℕ) : Type 0 where
  pub ok : IsOrder (l.order root)
  pub some_slot : 0 < (l.order root).slots
  pub inside : (s i : ℕ) → s < (l.order root).slots → i < 4 → l.word root s i < size
  pub counter_inside : l.counter root < size
  pub once : (s i t j : ℕ) → i < 4 → j < 4 → l.word root s i ≡ l.word root t j → (s ≡ t) × (i ≡ j)
  pub counter_low : l.counter root < l.slots_from
  pub slots_high : (s i : ℕ) → s < (l.order root).slots → i < 4 → l.slots_from ≤ l.word root s i
  pub off_root : (s i : ℕ) → s < (l.order root).slots → i < 4 → l.word root s i ≢ l.base
  pub counter_off_root : l.counter root ≢ l.base
  pub own : (s i : ℕ) → s < (l.order root).slots → i < 4 → IsOwn l (l.word root s i)
  pub counter_own : IsOwn l (l.counter root)

-- a region that no one else looks at
pub record IsNewRegion (l : Layout) (ws : List ℕ) (old root : ℕ) : Type 0 where
  pub region : IsRegion l (length ws) root
  pub before : IsDisjoint l old root
  pub after : IsDisjoint l root old

-- the pair that is on its way is that of the old slot j
abbrev pub IsPair : Order → SlotsView → ℕ → Stage → Type 0
IsPair o v j (with_value c w) = Holds o v w.key j × (w.number ≡ v.value j)
IsPair o v j (with_low c w) = Holds o v w.key j × (w.number ≡ v.value j)
IsPair o v j (with_high c w) = Holds o v w.key j × (w.number ≡ v.value j)
IsPair o v j g = Unit {0}

-- what holds of a region that is being built
abbrev pub IsUnpublished : Layout → List ℕ → ℕ → Stage → Type 0
IsUnpublished l ws old (clearing c root i) = IsNewRegion l ws old root × (i < (l.order root).slots) × ((s : ℕ) → s < i → (view l ws root).state s ≡ 0)
IsUnpublished l ws old (copying c root j g) = IsNewRegion l ws old root × IsMap (l.order root) (view l ws root) (parts (l.order old) (view l ws old)) j g × IsPair (l.order old) (view l ws old) j g
IsUnpublished l ws old g = Unit {0}

-- what the plan says is true of the words
abbrev pub IsSound : Layout → List ℕ → ℕ → (ℕ → ℕ) → Action → Type 0
IsSound l ws root m (inserts c w) = IsPlanned (l.order root) (view l ws root) m c w
IsSound l ws root m (stands k s x) = Holds (l.order root) (view l ws root) k s
IsSound l ws root m (deletes k s) = Holds (l.order root) (view l ws root) k s
IsSound l ws root m a = Unit {0}

pub record IsCopy (o : Order) (v : SlotsView) (o' : Order) (v' : SlotsView) (j i : ℕ) (w : Insertion) : Type 0 where
  pub from : j ≤ i
  pub none : NoneFull v j i
  pub stood : Holds o v w.key i
  pub number : w.number ≡ v.value i
  pub planned : IsPlanned o' v' (parts o v i) empty w

abbrev pub IsCopySound : Layout → List ℕ → ℕ → ℕ → ℕ → Action → Type 0
IsCopySound l ws old root j (copies i w) = IsCopy (l.order old) (view l ws old) (l.order root) (view l ws root) j i w
IsCopySound l ws old root j publishes = (j ≤ (l.order old).slots) × NoneFull (view l ws old) j (l.order old).slots
IsCopySound l ws old root j tidies = (j ≤ (l.order old).slots) × NoneFull (view l ws old) j (l.order old).slots
IsCopySound l ws old root j a = Unit {0}

abbrev pub IsSoundAt : Layout → List ℕ → ℕ → (ℕ → ℕ) → Action → Stage → Type 0
IsSoundAt l ws root m a idle = IsSound l ws root m a
IsSoundAt l ws root m a (after_rebuild c) = IsSound l ws root m a
IsSoundAt l ws root m a (copying c other j idle) = IsCopySound l ws root other j a
IsSoundAt l ws root m a g = Unit {0}

-- the unpublished region that the writer's next step speaks of
abbrev pub BeginsRebuild : Action → ℕ → Type 0
BeginsRebuild (begins_rebuild other) root = other ≡ root
BeginsRebuild a root = ⊥

-- the region that the writer's next step takes
abbrev pub IsTaking : Action → Stage → ℕ → Type 0
IsTaking a idle root = BeginsRebuild a root
IsTaking a (after_rebuild c) root = BeginsRebuild a root
IsTaking a g root = ⊥

abbrev pub IsUnpublishedBy : Action → Stage → ℕ → Type 0
IsUnpublishedBy a idle root = BeginsRebuild a root
IsUnpublishedBy a (after_rebuild c) root = BeginsRebuild a root
IsUnpublishedBy a (clearing c other i) root = other ≡ root
IsUnpublishedBy a (copying c other j g) root = other ≡ root
IsUnpublishedBy a g root = ⊥

abbrev pub cost : Target → ℕ
cost empty = 0
cost reuse = 1
cost (move from) = 1

-- how often the update in progress has raised the counter, at most
abbrev pub owed : Stage → ℕ
owed (with_bump c w) = cost c
owed (with_value c w) = cost c
owed (with_low c w) = cost c
owed (with_high c w) = cost c
owed (twice from w) = 1
owed (before_tombstone from w) = 2
owed g = 0

module _ (l : Layout) (ws : List ℕ) (p : WriterState) (r : ℕ) (y : ReaderState) where
  -- the reader's region is the present one
  pub record SeesPresent : Type 0 where
    pub root : y.root ≡ p.root
    pub is_reader : LookInvariant (l.order p.root) (view l ws p.root) p.maps p.linearized p.stage (count l ws p.root) r y.look_state
    pub retries : y.retries + count l ws p.root ≤ p.bumps + counted (count l ws p.root) y.look_state

  -- or it was replaced, and stands for the map as it was then
  pub record SeesReplaced : Type 0 where
    pub region : IsRegion l (length ws) y.root
    pub apart : IsDisjoint l y.root p.root
    pub place : ℕ
    pub past : place ≤ p.linearized
    pub map : IsMap (l.order y.root) (view l ws y.root) p.maps place idle
    pub is_reader : LookInvariant (l.order y.root) (view l ws y.root) p.maps place idle (count l ws y.root) r y.look_state
    pub retries : y.retries + count l ws y.root ≤ p.bumps + counted (count l ws y.root) y.look_state

  pub record ReaderInvariant : Type 0 where
    pub retries : y.retries ≤ p.bumps
    pub looks : (y.look_state ≡ no_look → ⊥) → SeesPresent ⊎ SeesReplaced

pub record WriterInvariant (l : Layout) (ws : List ℕ) (p : WriterState) : Type 0 where
  -- the words are as the writer's own stores left them
  pub words : (i : ℕ) → IsOwn l i → slice_index ws i ≡ slice_index p.words i
  pub long : length p.words ≡ length ws
  pub fits : l.base + l.size ≤ length ws
  pub some_word : 0 < l.size
  pub root : slice_index ws l.base ≡ p.root
  pub region : IsRegion l (length ws) p.root
  pub map : IsMap (l.order p.root) (view l ws p.root) p.maps p.linearized p.stage
  pub bumps : p.bumps ≤ 2 * p.log + owed p.stage
  pub hidden : IsUnpublished l ws p.root p.stage

pub record TableInvariant (l : Layout) (w : Scene LocalState (ℕ → ℕ)) : Type 0 where
  pub writer_state : WriterState
  pub is_writer : w.at 0 ≡ writer writer_state
  pub holds : WriterInvariant l w.words writer_state
  pub readers : (n : ℕ) → (y : ReaderState) × (w.at (suc n) ≡ reader y) × ReaderInvariant l w.words writer_state (w.note (suc n)) y

-- What is known of each step of the writer on the table's words: a region that it takes is none that is in use, and the one that its step
-- speaks of shares no word with one that a reader looks at
abbrev pub SideCondition : Layout → (WriterState → Entry → Action) → Scene LocalState (ℕ → ℕ) → ℕ → Entry → Type 0
SideCondition l action w n e = n ≡ 0 → is_table_word l e.step ≡ true → (p : WriterState) → w.at 0 ≡ writer p → ((root : ℕ) → IsTaking (action p e) p.stage root → IsNewRegion l w.words p.root root)
    × ((k : ℕ) (y : ReaderState) (root : ℕ) → w.at (suc k) ≡ reader y → (y.look_state ≡ no_look → ⊥) → IsUnpublishedBy (action p e) p.stage root → IsDisjoint l y.root root)
