-- The stores of a pair; and a rebuild: what the writer stores in a region that isn't published, and what holds of it meanwhile.
use Rattle.std.specs.Prelude.{◌≡◌, ◌≢◌, ℕ, zero, suc, ◌+◌, ◌*◌, ◌^◌, ◌<◌, ◌≤◌, ◌⊎◌, List, [], ◌∷◌, ◌++◌, length, slice_index}
use Rattle.std.specs.Global.{Vec}
use Rattle.std.specs.Vec.{with_item}
use Rattle.ck_run.specs.declared.account.Step.{Step}
use Rattle.ck_run.specs.declared.account.Step.TheVariants.{Load, Store}
use Rattle.ck_run.specs.declared.account.Entry.{Entry}
use Rattle.ck_run.specs.Run.{entry, further, handing}
use Rattle.ck_run.specs.Range.{word_of}
use Rattle.ck_slots.specs.Slots.{SlotsView}
use Rattle.ck_slots.specs.Counting.{count as how_many, used}
use Rattle.ck_htplan.specs.Region.{view_of}
use Rattle.ck_reclaim.specs.Pieces.{AreApart}
use Rattle.ck_history.specs.declared.log.LogEntry.{LogEntry}
use Rattle.ck_htlaw.specs.Layout.{log_of, region_item}
use Rattle.ck_htlaw.specs.Known.{IsRoot}
use Rattle.ck_htlaw.specs.Calls.{opening_of}
use Rattle.ck_htlaw.specs.Stages.{Stage, idle, copying, NoneFull}
use Rattle.ck_htlaw.specs.Table.{Layout, WriterState, begins_rebuild, publishes, tidies}
use Rattle.ck_htlaw.specs.Actions.{action, root_at, when_copied}
use Rattle.ck_htlaw.specs.Client.{Answers}
use Rattle.ck_htwrite.specs.declared.state.HtState.{HtState}
use Rattle.ck_htwrite.specs.State.{Reflects}
use Rattle.ck_htwrite.specs.Writes.{opened, WriterAt}

-- The first step of this call builds a region: it is a store in the region's first word, where that of this root begins
abbrev pub BeginsRebuildAt : Layout → WriterState → List ℕ → ℕ → Type 0
BeginsRebuildAt l p opens root = (s : Step) → action l p (entry opens s) ≡ begins_rebuild (root_at l p (word_of s) (log_of root))

-- the stores that clear n slots from slot i on
abbrev pub clear_steps : Layout → ℕ → ℕ → ℕ → List Step
clear_steps l root i zero = []
clear_steps l root i (suc n) = Store (l.word root i 0) 0 ∷ clear_steps l root (suc i) n

-- the stores by which a slot that has its value gets its key, by the two words, and is full then; and those of a whole pair
abbrev pub key_steps : Layout → ℕ → ℕ → ℕ → ℕ → List Step
key_steps l root at low high = Store (l.word root at 1) low ∷ Store (l.word root at 2) high ∷ Store (l.word root at 0) 1 ∷ []

abbrev pub pair_steps : Layout → ℕ → ℕ → ℕ → ℕ → ℕ → List Step
pair_steps l root at low high value = Store (l.word root at 3) value ∷ key_steps l root at low high

-- a copy of a region with this pair in one of its slots, and the lists with it in the other copy
abbrev pub with_pair : Vec ℕ → ℕ → ℕ → ℕ → ℕ → Vec ℕ
with_pair words at low high value = with_item (with_item (with_item (with_item words (4 * at + 3) value) (4 * at + 1) low) (4 * at + 2) high) (4 * at + 0) 1

abbrev pub paired_lists : HtState → ℕ → ℕ → ℕ → ℕ → HtState
paired_lists s at low high value = record s { spare = with_pair s.spare at low high value }

-- the lists once the other copy is that of the present region
abbrev pub adopted_lists : HtState → ℕ → HtState
adopted_lists s root = record s { words = s.spare; spare = s.words; root = root; tombstones = 0 }

-- no two of the first m slots are full and have the same key
abbrev pub HoldKeysOnce : SlotsView → ℕ → Type 0
HoldKeysOnce v m = (r t : ℕ) → r < m → t < m → v.state r ≡ 1 → v.state t ≡ 1 → v.low r ≡ v.low t → v.high r ≡ v.high t → r ≡ t

-- The region of this root, which shares no word with the present one, has room for all pairs and more, and these are of different keys
pub record CanHoldAll (n : ℕ) (s : HtState) (root : ℕ) : Type 0 where
  pub is_root : IsRoot n root
  pub apart : AreApart (region_item 0 s.root) (region_item 0 root)
  pub room : how_many (view_of s.words.items).state 1 (2 ^ log_of s.root) + 2 ≤ 2 ^ log_of root
  pub once : HoldKeysOnce (view_of s.words.items) (2 ^ log_of s.root)

-- the slot of the first i ones from which a pair was copied
pub record IsFrom (v v' : SlotsView) (m i t : ℕ) : Type 0 where
  pub slot : ℕ
  pub past : slot < i
  pub inside : slot < m
  pub full : v.state slot ≡ 1
  pub low : v.low slot ≡ v'.low t
  pub high : v.high slot ≡ v'.high t

-- What holds of the words once the first i slots are copied, of which the last that was full comes before slot j. The lists have the present
-- region still, and the other copy has what was stored in the new one
pub record IsCopying (n : ℕ) (l : Layout) (p : WriterState) (s : HtState) (ws : List ℕ) (root j i : ℕ) : Type 0 where
  pub lists : Reflects n l (record p { words = ws }) s
  pub passed : j ≤ i
  pub none : NoneFull (view_of s.words.items) j i
  pub long : length s.spare.items ≡ 4 * 2 ^ log_of root
  pub states : (t : ℕ) → t < 2 ^ log_of root → (view_of s.spare.items).state t ≡ slice_index ws (l.word root t 0)
  pub pairs : (t k : ℕ) → t < 2 ^ log_of root → k < 4 → (view_of s.spare.items).state t ≡ 1 → slice_index s.spare.items (4 * t + k) ≡ slice_index ws (l.word root t k)
  pub no_tombstone : (t : ℕ) → t < 2 ^ log_of root → (view_of s.spare.items).state t ≢ 2
  pub as_many : used (view_of s.spare.items).state (2 ^ log_of root) ≡ how_many (view_of s.words.items).state 1 i
  pub full : how_many (view_of s.spare.items).state 1 (2 ^ log_of root) ≡ how_many (view_of s.words.items).state 1 i
  pub from : (t : ℕ) → t < 2 ^ log_of root → (view_of s.spare.items).state t ≡ 1 → IsFrom (view_of s.words.items) (view_of s.spare.items) (2 ^ log_of s.root) i t

-- the writer is there, within this call, which is to answer `due`
pub record CopiesAt (n : ℕ) (l : Layout) (a : Answers) (p : WriterState) (call : List ℕ) (due : LogEntry ℕ) (told : List (LogEntry ℕ)) (s : HtState) (root i : ℕ) : Type 0 where
  pub words : List ℕ
  pub next : ℕ
  pub at : WriterAt a (record p { stage = copying call root next idle; words = words }) due told
  pub is_copying : IsCopying n l p s words root next i

-- after its rebuild the call goes on, or ends
abbrev pub GoesOnAfter : Layout → List ℕ → Type 0
GoesOnAfter l call = (q : WriterState) → when_copied l q (opening_of call) ≡ publishes

abbrev pub EndsAfter : Layout → List ℕ → Type 0
EndsAfter l call = (q : WriterState) → when_copied l q (opening_of call) ≡ tidies

-- The writer stands at this stage, and these lists have the words of the present region
pub record Rebuilt (n : ℕ) (l : Layout) (a : Answers) (stage : Stage) (due : LogEntry ℕ) (told : List (LogEntry ℕ)) (s : HtState) : Type 0 where
  pub is_writer : WriterState
  pub at : WriterAt a is_writer due told
  pub stage_is : is_writer.stage ≡ stage
  pub lists : Reflects n l is_writer s

-- What a rebuild of the map stores and hands over, from the region of one root to that of another: it clears the new region's first slot, stores
-- in the new region, stores its root, and retires the old one
abbrev pub rebuild_entries : Layout → List ℕ → ℕ → ℕ → List Step → ℕ → List Entry
rebuild_entries l opens old root stores epoch = opened opens (Store (l.word root 0 0) 0 ∷ stores) ++ further (Store l.base root) ∷ handing [] (l.item old) (Load 0 epoch) ∷ []

-- What a `tidy` does, by the tombstones that stand: it loads the root, or it rebuilds the map
abbrev pub AreTidying : Layout → List ℕ → ℕ → ℕ → ℕ → List Entry → Type 0
AreTidying l opens tombstones old root es = ((tombstones ≡ 0) × (n : ℕ) × (es ≡ entry opens (Load l.base n) ∷ [])) ⊎ ((0 < tombstones) × (stores : List Step) × (epoch : ℕ) × (es ≡ rebuild_entries l opens old root stores epoch))
