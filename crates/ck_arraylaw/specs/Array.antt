-- The tokens of an array as they step on its words.
use Rattle.std.specs.Prelude.{◌≡◌, ℕ, suc, ◌+◌, ◌-◌, cond, ◌==◌, nat_lt, nat_le, ◌&&◌, Bool, true, false, List, [], ◌∷◌, ◌++◌, length, slice_index}
use Rattle.ck_run.specs.declared.account.Step.{Step}
use Rattle.ck_run.specs.declared.account.Step.TheVariants.{Load, Store}
use Rattle.ck_run.specs.declared.account.Entry.{Entry}
use Rattle.ck_run.specs.Range.{word_of}
use Rattle.ck_history.specs.declared.edit.Edit.{Edit}
use Rattle.ck_history.specs.declared.edit.Edit.TheVariants.{Add, Drop, Commit}
use Rattle.ck_history.specs.Lists.{ListState, empty_lists, lists_after_from}
use Rattle.ck_epoch.specs.declared.item.Item.{Item}
use Rattle.ck_arraylaw.specs.Calls.{Opening, adding, dropping, committing, reading, opening_of, is_single_load}
use Rattle.ck_arraylaw.specs.Layout.{array_words, log_for, region_at, members_at}

-- Where the writer stands within a commit
pub data CommitStage : Type 0 where
  between_calls : CommitStage
  -- the length and so many members are stored in this region, which no reader knows yet
  filling : Item → ℕ → CommitStage
  -- the root names the new region, and this old one is to be retired
  replaced : Item → CommitStage

-- The edits that the writer answered, and the present region
pub record WriterState : Type 0 where
  pub log : List Edit
  pub region : Item
  pub stage : CommitStage

-- the edits that have taken place: those that were answered, and a commit whose root is stored
abbrev pub edits_at : CommitStage → List Edit → List Edit
edits_at (replaced old) log = log ++ Commit ∷ []
edits_at between_calls log = log
edits_at (filling region i) log = log

abbrev pub edits_of : WriterState → List Edit
edits_of p = edits_at p.stage p.log

-- the lists after them
abbrev pub lists_of : WriterState → ListState
lists_of p = lists_after_from empty_lists (edits_of p)

-- Where a reader stands within an `all`: it loaded the root, and then the number of members, and so many members
pub data ReadStage : Type 0 where
  no_read : ReadStage
  at_length : ℕ → ReadStage
  at_member : ℕ → ℕ → List ℕ → ReadStage

-- what a reader answered
pub record ReaderState : Type 0 where
  pub stage : ReadStage
  pub answers : List (List ℕ)

pub data LocalState : Type 0 where
  writer : WriterState → LocalState
  reader : ReaderState → LocalState

-- the step is a load of this word, or a store of this number there
abbrev pub IsLoadOf : ℕ → Step → Type 0
IsLoadOf at (Load a found) = a ≡ at
IsLoadOf at s = ⊥

abbrev pub IsStoreOf : ℕ → ℕ → Step → Type 0
IsStoreOf at stored (Store a x) = (a ≡ at) × (x ≡ stored)
IsStoreOf at stored s = ⊥

abbrev pub found_by : Step → ℕ
found_by (Load a found) = found
found_by s = 0

-- the array's words begin at `base`
module _ (base : ℕ) where
  -- the region that a commit takes for n members, by its first step
  abbrev pub region_by : ℕ → Step → Item
  region_by n s = record { at = word_of s - base; log = log_for n }

  -- an edit of the pending list loads the root; a commit stores the number of members in a new region
  abbrev pub MayBegin : WriterState → Opening → Step → Type 0
  MayBegin p (adding v) s = IsLoadOf base s
  MayBegin p (dropping v) s = IsLoadOf base s
  MayBegin p committing s = IsStoreOf (word_of s) (length (lists_of p).pending) s
  MayBegin p o s = ⊥

  -- then the members, then the root
  abbrev pub MayFill : List ℕ → Item → ℕ → Bool → Step → Type 0
  MayFill members region i true s = IsStoreOf (base + region.at + 1 + i) (slice_index members i) s
  MayFill members region i false s = IsStoreOf base region.at s

  abbrev pub MayWrite : WriterState → List ℕ → CommitStage → Step → Type 0
  MayWrite p opens between_calls s = MayBegin p (opening_of opens) s
  MayWrite p opens (filling region i) s = MayFill (lists_of p).pending region i (nat_lt i (length (lists_of p).pending)) s × (opens ≡ [])
  MayWrite p opens (replaced old) s = ⊥

  abbrev pub begun : WriterState → Opening → Step → WriterState
  begun p (adding v) s = record p { log = p.log ++ Add v ∷ [] }
  begun p (dropping v) s = record p { log = p.log ++ Drop v ∷ [] }
  begun p committing s = record p { stage = filling (region_by (length (lists_of p).pending) s) 0 }
  begun p o s = p

  abbrev pub filled : WriterState → Item → ℕ → Bool → WriterState
  filled p region i true = record p { stage = filling region (suc i) }
  filled p region i false = record p { region = region; stage = replaced p.region }

  abbrev pub written : WriterState → List ℕ → CommitStage → Step → WriterState
  written p opens between_calls s = begun p (opening_of opens) s
  written p opens (filling region i) s = filled p region i (nat_lt i (length (lists_of p).pending))
  written p opens (replaced old) s = p

  -- `all` loads the root, the number of members, and then these
  abbrev pub MayReadNext : ReadStage → List ℕ → Step → Type 0
  MayReadNext no_read opens s = IsLoadOf base s × (opening_of opens ≡ reading)
  MayReadNext (at_length at) opens s = IsLoadOf (base + at) s × (opens ≡ [])
  MayReadNext (at_member at n members) opens s = IsLoadOf (base + at + 1 + length members) s × (opens ≡ [])

-- it is over where it has all of them
abbrev pub collected : ReaderState → ℕ → ℕ → List ℕ → Bool → ReaderState
collected y at n members true = record { stage = no_read; answers = y.answers ++ members ∷ [] }
collected y at n members false = record y { stage = at_member at n members }

abbrev pub collects : ReaderState → ℕ → ℕ → List ℕ → ReaderState
collects y at n members = collected y at n members (length members == n)

abbrev pub read_next : ReaderState → ReadStage → ℕ → ReaderState
read_next y no_read found = record y { stage = at_length (region_at found) }
read_next y (at_length at) found = collects y at (members_at at found) []
read_next y (at_member at n members) found = collects y at n (members ++ found ∷ [])

-- the replaced region was retired, and the commit is answered
abbrev pub released : WriterState → CommitStage → WriterState
released p (replaced old) = record p { log = p.log ++ Commit ∷ []; stage = between_calls }
released p g = p

-- The words of the domain's client begin at `floor`, and those of the array at `base`
module _ (floor base : ℕ) where
  abbrev pub is_array_word : Step → Bool
  is_array_word s = nat_le base (word_of s) && nat_lt (word_of s) (base + array_words)

  -- the item is of the array's words
  abbrev pub is_array_item : List ℕ → Bool
  is_array_item (at ∷ log ∷ []) = nat_le base (floor + at) && nat_lt (floor + at) (base + array_words)
  is_array_item item = false

  -- A store of a reader in a word of the epochs: it begins or ends a section. An `all` doesn't go on over it
  abbrev pub is_section : Step → Bool
  is_section (Store a x) = nat_lt a floor
  is_section s = false

  -- the replaced region alone is retired
  abbrev pub MayRetire : CommitStage → List ℕ → Type 0
  MayRetire (replaced old) item = item ≡ (base - floor + old.at) ∷ old.log ∷ []
  MayRetire g item = ⊥

  abbrev pub MayOtherIf : Bool → CommitStage → Entry → Type 0
  MayOtherIf true g e = MayRetire g e.item × (e.opens ≡ [])
  MayOtherIf false g e = Unit {0}

  abbrev pub MayOther : LocalState → Entry → Type 0
  MayOther (writer p) e = MayOtherIf (is_array_item e.item) p.stage e
  MayOther (reader y) e = Unit {0}

  abbrev pub released_if : Bool → WriterState → WriterState
  released_if true p = released p p.stage
  released_if false p = p

  abbrev pub given_up : Bool → ReaderState → ReaderState
  given_up true y = record y { stage = no_read }
  given_up false y = y

  abbrev pub after_other : LocalState → Entry → LocalState
  after_other (writer p) e = writer (released_if (is_array_item e.item) p)
  after_other (reader y) e = reader (given_up (is_section e.step) y)

  abbrev pub IsLoad : Step → Type 0
  IsLoad (Load a x) = Unit {0}
  IsLoad s = ⊥

  -- a load by itself is a call of its own
  abbrev pub MayRead : Bool → ReaderState → Entry → Type 0
  MayRead true y e = IsLoad e.step
  MayRead false y e = MayReadNext base y.stage e.opens e.step

  abbrev pub after_read : Bool → ReaderState → Entry → ReaderState
  after_read true y e = y
  after_read false y e = read_next y y.stage (found_by e.step)

  abbrev pub MayOwn : LocalState → Entry → Type 0
  MayOwn (writer p) e = MayWrite base p e.opens p.stage e.step
  MayOwn (reader y) e = MayRead (is_single_load e.opens) y e

  abbrev pub after_own : LocalState → Entry → LocalState
  after_own (writer p) e = writer (written base p e.opens p.stage e.step)
  after_own (reader y) e = reader (after_read (is_single_load e.opens) y e)

  abbrev pub MayIf : Bool → LocalState → Entry → Type 0
  MayIf true h e = MayOwn h e
  MayIf false h e = MayOther h e

  abbrev pub array_may : LocalState → Entry → Type 0
  array_may h e = MayIf (is_array_word e.step) h e

  abbrev pub array_next : LocalState → Entry → LocalState
  array_next h e = cond (is_array_word e.step) (after_own h e) (after_other h e)
