-- The tokens of a table as they step on its words.
use Rattle.std.specs.Prelude.{◌≡◌, ℕ, suc, ◌+◌, cond, ◌==◌, ltb, leb, ◌&&◌, Bool, true, false, List, [], ◌∷◌, slice_index}
use Rattle.ck_run.specs.declared.account.Step.{Step}
use Rattle.ck_run.specs.declared.account.Step.TheVariants.{Load, Store}
use Rattle.ck_run.specs.declared.account.Entry.{Entry}
use Rattle.ck_run.specs.Run.{words_after}
use Rattle.ck_run.specs.Range.{word_of}
use Rattle.ck_run.specs.Machine.{moved}
use Rattle.ck_htlaw.specs.Calls.{opening_of, looking, key_of, is_single_load}
use Rattle.ck_slots.specs.Slots.{Order, SlotsView}
use Rattle.ck_htlaw.specs.Stages.{Insertion, Target, empty, reuse, move, Stage, idle, with_bump, with_value, with_low, with_high, twice, before_tombstone, with_tombstone, clearing, copying, retiring, retiring_at_end, after_rebuild, Maps}
use Rattle.ck_htlaw.specs.Look.{LookState, no_look, at_version, at_state, at_low, at_high, at_value, checking_value, checking_absence, after_state, after_high}

-- Where the words of the region that a root names lie. The table's words are `size` from `base` on, and the first is the root
pub record Layout : Type 0 where
  -- where the words of the domain's client begin, of which the table's may be a part: before them are those of the epochs
  pub floor : ℕ
  pub base : ℕ
  pub size : ℕ
  -- the counters stand before this word, and slots after it
  pub slots_from : ℕ
  pub order : ℕ → Order
  pub word : ℕ → ℕ → ℕ → ℕ
  pub counter : ℕ → ℕ
  -- the item by which the region is retired
  pub item : ℕ → List ℕ

-- the words of this kind, slot by slot: 0 the state, 1 the low, 2 the high, 3 the value
abbrev pub column : Layout → List ℕ → ℕ → ℕ → ℕ → ℕ
column l ws root j = λ s. cond (ltb s (l.order root).slots) (slice_index ws (l.word root s j)) 0

abbrev pub view : Layout → List ℕ → ℕ → SlotsView
view l ws root = record { state = column l ws root 0; low = column l ws root 1; high = column l ws root 2; value = column l ws root 3 }

abbrev pub count : Layout → List ℕ → ℕ → ℕ
count l ws root = slice_index ws (l.counter root)

-- What the writer is about to do, by its plan
pub data Action : Type 0 where
  inserts : Target → Insertion → Action
  stands : ℕ → ℕ → ℕ → Action
  deletes : ℕ → ℕ → Action
  nothing : Action
  -- begins to build the region of this root; copies the pair of an old slot; publishes and goes on, or ends the call
  begins_rebuild : ℕ → Action
  copies : ℕ → Insertion → Action
  publishes : Action
  tidies : Action
  -- no step is due
  no_action : Action

-- `words` are as the writer's own stores left them. The log has the updates that were answered, and `placed` those that took place
pub record WriterState : Type 0 where
  pub root : ℕ
  pub stage : Stage
  pub words : List ℕ
  pub maps : Maps
  pub linearized : ℕ
  pub log : ℕ
  pub bumps : ℕ

pub record ReaderState : Type 0 where
  pub root : ℕ
  pub look_state : LookState
  pub retries : ℕ

pub data LocalState : Type 0 where
  writer : WriterState → LocalState
  reader : ReaderState → LocalState

abbrev pub grown : Maps → ℕ → ℕ → ℕ → Maps
grown maps q k x = λ p j. cond (p == suc q) (cond (j == k) x (maps q j)) (maps p j)

abbrev pub repeated : Maps → ℕ → Maps
repeated maps q = λ p j. cond (p == suc q) (maps q j) (maps p j)

abbrev pub linearizing : WriterState → Stage → ℕ → ℕ → ℕ → WriterState
linearizing p g log k x = record p { stage = g; linearized = suc p.linearized; maps = grown p.maps p.linearized k x; log = log }

-- so many slots are cleared
abbrev pub cleared : Layout → List ℕ → ℕ → ℕ → Stage
cleared l call root i = cond (i == (l.order root).slots) (copying call root 0 idle) (clearing call root i)

abbrev pub after_first : Layout → List ℕ → WriterState → Action → WriterState
after_first l call p (inserts empty w) = record p { stage = with_value empty w }
after_first l call p (inserts reuse w) = record p { stage = with_bump reuse w; bumps = suc p.bumps }
after_first l call p (inserts (move from) w) = record p { stage = with_bump (move from) w; bumps = suc p.bumps }
after_first l call p (stands k s v) = linearizing p idle (suc p.log) k (suc v)
after_first l call p (deletes k s) = linearizing p with_tombstone p.log k 0
after_first l call p nothing = record p { linearized = suc p.linearized; maps = repeated p.maps p.linearized; log = suc p.log }
after_first l call p (begins_rebuild root) = record p { stage = cleared l call root 1 }
after_first l call p a = p

abbrev pub filled : WriterState → Target → Insertion → WriterState
filled p empty w = linearizing p idle (suc p.log) w.key (suc w.number)
filled p reuse w = linearizing p idle (suc p.log) w.key (suc w.number)
filled p (move from) w = linearizing p (twice from w) p.log w.key (suc w.number)

-- the store of a pair goes on
abbrev pub copied : List ℕ → ℕ → ℕ → Action → Stage → Stage
copied call root j (copies i w) idle = copying call root i (with_value empty w)
copied call root j a (with_value c w) = copying call root j (with_low c w)
copied call root j a (with_low c w) = copying call root j (with_high c w)
copied call root j a (with_high c w) = copying call root (suc j) idle
copied call root j a g = copying call root j g

abbrev pub copy : WriterState → List ℕ → ℕ → ℕ → Action → Stage → WriterState
copy p call root j publishes idle = record p { root = root; stage = retiring p.root call }
copy p call root j tidies idle = record p { root = root; stage = retiring_at_end p.root; linearized = suc p.linearized; maps = repeated p.maps p.linearized }
copy p call root j a g = record p { stage = copied call root j a g }

abbrev pub second : Layout → List ℕ → WriterState → Action → Stage → WriterState
second l call p a idle = after_first l call p a
second l call p a (clearing c root i) = record p { stage = cleared l c root (suc i) }
second l call p a (copying c root j g) = copy p c root j a g
second l call p a (after_rebuild c) = after_first l c record p { stage = idle } a
second l call p a (retiring old c) = p
second l call p a (retiring_at_end old) = p
second l call p a (with_bump c w) = record p { stage = with_value c w }
second l call p a (with_value c w) = record p { stage = with_low c w }
second l call p a (with_low c w) = record p { stage = with_high c w }
second l call p a (with_high c w) = filled p c w
second l call p a (twice from w) = record p { stage = before_tombstone from w; bumps = suc p.bumps }
second l call p a (before_tombstone from w) = record p { stage = idle; log = suc p.log }
second l call p a with_tombstone = record p { stage = idle; bumps = suc p.bumps; log = suc p.log }

abbrev pub IsBump : Layout → WriterState → ℕ → ℕ → Type 0
IsBump l p a x = (a ≡ l.counter p.root) × (x ≡ suc (count l p.words p.root))

abbrev pub MayDo : Layout → WriterState → Action → Step → Type 0
MayDo l p (inserts empty w) (Store a x) = (a ≡ l.word p.root w.to 3) × (x ≡ w.number)
MayDo l p (inserts reuse w) (Store a x) = IsBump l p a x
MayDo l p (inserts (move from) w) (Store a x) = IsBump l p a x
MayDo l p (stands k s v) (Store a x) = (a ≡ l.word p.root s 3) × (x ≡ v)
MayDo l p (deletes k s) (Store a x) = (a ≡ l.word p.root s 0) × (x ≡ 2)
MayDo l p nothing (Load a x) = a ≡ l.base
MayDo l p (begins_rebuild root) (Store a x) = (a ≡ l.word root 0 0) × (x ≡ 0)
MayDo l p a s = ⊥

abbrev pub MayCopy : Layout → ℕ → Action → Stage → Step → Type 0
MayCopy l root (copies i w) idle (Store at x) = (at ≡ l.word root w.to 3) × (x ≡ w.number)
MayCopy l root publishes idle (Store at x) = (at ≡ l.base) × (x ≡ root)
MayCopy l root tidies idle (Store at x) = (at ≡ l.base) × (x ≡ root)
MayCopy l root a (with_value empty w) (Store at x) = (at ≡ l.word root w.to 1) × (x ≡ (l.order root).low_of w.key)
MayCopy l root a (with_low empty w) (Store at x) = (at ≡ l.word root w.to 2) × (x ≡ (l.order root).high_of w.key)
MayCopy l root a (with_high empty w) (Store at x) = (at ≡ l.word root w.to 0) × (x ≡ 1)
MayCopy l root a g s = ⊥

abbrev pub MayWriterStep : Layout → WriterState → Action → Stage → Step → Type 0
MayWriterStep l p a idle s = MayDo l p a s
MayWriterStep l p a (with_bump c w) (Store at x) = (at ≡ l.word p.root w.to 3) × (x ≡ w.number)
MayWriterStep l p a (with_value c w) (Store at x) = (at ≡ l.word p.root w.to 1) × (x ≡ (l.order p.root).low_of w.key)
MayWriterStep l p a (with_low c w) (Store at x) = (at ≡ l.word p.root w.to 2) × (x ≡ (l.order p.root).high_of w.key)
MayWriterStep l p a (with_high c w) (Store at x) = (at ≡ l.word p.root w.to 0) × (x ≡ 1)
MayWriterStep l p a (twice from w) (Store at x) = IsBump l p at x
MayWriterStep l p a (before_tombstone from w) (Store at x) = (at ≡ l.word p.root from 0) × (x ≡ 2)
MayWriterStep l p a with_tombstone (Store at x) = IsBump l p at x
MayWriterStep l p a (clearing c root i) (Store at x) = (at ≡ l.word root i 0) × (x ≡ 0)
MayWriterStep l p a (copying c root j g) s = MayCopy l root a g s
MayWriterStep l p a (after_rebuild c) s = MayDo l p a s
MayWriterStep l p a g s = ⊥

abbrev pub MayLookStep : Layout → ℕ → LookState → Step → Type 0
MayLookStep l root no_look (Load a x) = a ≡ l.base
MayLookStep l root (at_version k) (Load a x) = a ≡ l.counter root
MayLookStep l root (at_state k c i) (Load a x) = a ≡ l.word root ((l.order root).probe k i) 0
MayLookStep l root (at_low k c i) (Load a x) = a ≡ l.word root ((l.order root).probe k i) 1
MayLookStep l root (at_high k c i y) (Load a x) = a ≡ l.word root ((l.order root).probe k i) 2
MayLookStep l root (at_value k c i) (Load a x) = a ≡ l.word root ((l.order root).probe k i) 3
MayLookStep l root (checking_value k c y) (Load a x) = a ≡ l.counter root
MayLookStep l root (checking_absence k c) (Load a x) = a ≡ l.counter root
MayLookStep l root g s = ⊥

abbrev pub ended : ReaderState → ℕ → ℕ → ReaderState
ended y c x = record y { look_state = no_look; retries = cond (c == x) y.retries (suc y.retries) }

abbrev pub after_look_step : Layout → ReaderState → ℕ → LookState → Step → ReaderState
after_look_step l y key no_look (Load a x) = record y { root = x; look_state = at_version key }
after_look_step l y key (at_version k) (Load a x) = record y { look_state = at_state k x 0 }
after_look_step l y key (at_state k c i) (Load a x) = record y { look_state = after_state (l.order y.root) k c i x }
after_look_step l y key (at_low k c i) (Load a x) = record y { look_state = at_high k c i x }
after_look_step l y key (at_high k c i z) (Load a x) = record y { look_state = after_high (l.order y.root) k c i z x }
after_look_step l y key (at_value k c i) (Load a x) = record y { look_state = checking_value k c x }
after_look_step l y key (checking_value k c z) (Load a x) = ended y c x
after_look_step l y key (checking_absence k c) (Load a x) = ended y c x
after_look_step l y key g s = y

abbrev pub is_table_word : Layout → Step → Bool
is_table_word l s = leb l.base (word_of s) && ltb (word_of s) (l.base + l.size)

-- the item is of the table's words
abbrev pub is_table_item : Layout → List ℕ → Bool
is_table_item l (at ∷ log ∷ []) = leb l.base (l.floor + at) && ltb (l.floor + at) (l.base + l.size)
is_table_item l item = false

-- after the replaced region was retired, the call goes on, or is over
abbrev pub released : Stage → Stage
released (retiring old c) = after_rebuild c
released (retiring_at_end old) = idle
released g = g

-- and is answered where it is over
abbrev pub released_log : Stage → ℕ → ℕ
released_log (retiring_at_end old) n = suc n
released_log g n = n

-- such an item is retired where a region was replaced and isn't retired yet, and it is this region
abbrev pub MayRetire : Layout → Stage → List ℕ → Type 0
MayRetire l (retiring old c) item = item ≡ l.item old
MayRetire l (retiring_at_end old) item = item ≡ l.item old
MayRetire l g item = ⊥

-- A store of a reader in a word of the epochs: it begins or ends a section. A look doesn't go on over it
abbrev pub is_section : Layout → Step → Bool
is_section l (Store a x) = ltb a l.floor
is_section l s = false

-- a step on another word
abbrev pub after_other : Layout → LocalState → Entry → LocalState
after_other l (writer p) e = writer record p { stage = cond (is_table_item l e.item) (released p.stage) p.stage; log = cond (is_table_item l e.item) (released_log p.stage p.log) p.log }
after_other l (reader y) e = reader record y { look_state = cond (is_section l e.step) no_look y.look_state }

abbrev pub MayOtherIf : Layout → Bool → Stage → Entry → Type 0
MayOtherIf l true g e = MayRetire l g e.item × (e.opens ≡ [])
MayOtherIf l false g e = Unit {0}

abbrev pub MayOther : Layout → LocalState → Entry → Type 0
MayOther l (writer p) e = MayOtherIf l (is_table_item l e.item) p.stage e
MayOther l (reader y) e = Unit {0}

-- a step goes on with a call, but for the first
abbrev pub GoesOn : Stage → List ℕ → Type 0
GoesOn idle opens = Unit {0}
GoesOn g opens = opens ≡ []

abbrev pub LooksOn : LookState → List ℕ → Type 0
LooksOn no_look opens = opening_of opens ≡ looking (key_of opens)
LooksOn look_state opens = opens ≡ []

abbrev pub IsLoad : Step → Type 0
IsLoad (Load a x) = Unit {0}
IsLoad s = ⊥

-- other steps on other words than the table's change nothing here
module _ (l : Layout) (action : WriterState → Entry → Action) (key_of : List ℕ → ℕ) where
  abbrev pub after_own : LocalState → Entry → LocalState
  after_own (writer p) e = writer record (second l e.opens p (action p e) p.stage) { words = words_after p.words e.step }
  after_own (reader y) e = reader (cond (is_single_load e.opens) y (after_look_step l y (key_of e.opens) y.look_state e.step))

  abbrev pub MayLook : Bool → ReaderState → Entry → Type 0
  MayLook true y e = IsLoad e.step
  MayLook false y e = MayLookStep l y.root y.look_state e.step × LooksOn y.look_state e.opens

  abbrev pub MayOwn : LocalState → Entry → Type 0
  MayOwn (writer p) e = MayWriterStep l p (action p e) p.stage e.step × GoesOn p.stage e.opens
  MayOwn (reader y) e = MayLook (is_single_load e.opens) y e

  abbrev pub next : LocalState → Entry → LocalState
  next h e = cond (is_table_word l e.step) (after_own h e) (after_other l h e)

  abbrev pub MayIf : Bool → LocalState → Entry → Type 0
  MayIf true h e = MayOwn h e
  MayIf false h e = MayOther l h e

  abbrev pub May : LocalState → Entry → Type 0
  May h e = MayIf (is_table_word l e.step) h e

abbrev pub linearized_of : LocalState → ℕ
linearized_of (writer p) = p.linearized
linearized_of (reader y) = 0

abbrev pub since_look : LookState → ℕ → ℕ → ℕ
since_look no_look old new = new
since_look g old new = old

abbrev pub since_of : LocalState → ℕ → ℕ → ℕ
since_of (reader y) old new = since_look y.look_state old new
since_of (writer p) old new = old

-- The number of updates that had taken place when each reader loaded its root
abbrev pub mark : (ℕ → ℕ) → (ℕ → LocalState) → ℕ → Entry → ℕ → ℕ
mark since at n e = moved since n (since_of (at n) (since n) (linearized_of (at 0)))
