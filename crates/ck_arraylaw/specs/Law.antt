-- The law of an array: what every true run of a domain whose client holds it keeps, at each of its moments. A moment is the part of the run
-- that is past.
use Rattle.std.specs.Prelude.{◌≡◌, ℕ, suc, ◌+◌, ◌^◌, ◌<◌, ◌≤◌, true, List, [], ◌∷◌, ◌++◌, length, slice_index}
use Rattle.ck_run.specs.declared.account.Entry.{Entry}
use Rattle.ck_run.specs.Run.{Run, replay, account}
use Rattle.ck_run.specs.Rule.{IsRun}
use Rattle.ck_history.specs.declared.edit.Edit.{Edit}
use Rattle.ck_history.specs.Lists.{empty_lists, lists_after_from}
use Rattle.ck_epoch.specs.declared.item.Item.{Item}
use Rattle.ck_epoch.specs.State.{Origin, records_of}
use Rattle.ck_epoch.specs.Epochs.{IsOpen}
use Rattle.ck_epoch.specs.Client.{program}
use Rattle.ck_epoch.specs.Within.{item_from}
use Rattle.ck_reclaim.specs.Reclaim.{IsApartFromRetired}
use Rattle.ck_arraylaw.specs.Host.{Host, floor_word, base_word}
use Rattle.ck_arraylaw.specs.Regions.{regions, place_in}
use Rattle.ck_arraylaw.specs.Layout.{first_region, IsRegion, HoldsList}
use Rattle.ck_arraylaw.specs.Array.{CommitStage, between_calls, filling, replaced, ReadStage, no_read, WriterState, LocalState, writer, reader, edits_of, lists_of, region_by, is_array_word}
use Rattle.ck_arraylaw.specs.Client.{local_after, BeginsCommit, logged, answers_of}

-- the edits that have taken place by the writer's account, and the present region
abbrev pub edits_by : LocalState → List Edit
edits_by (writer p) = edits_of p
edits_by (reader y) = []

abbrev pub region_of : LocalState → Item
region_of (writer p) = p.region
region_of (reader y) = first_region

abbrev pub read_stage_of : LocalState → ReadStage
read_stage_of (writer p) = no_read
read_stage_of (reader y) = y.stage

-- the region that the writer's step takes, or stores in
abbrev pub Unpublished : ℕ → WriterState → Entry → CommitStage → Item → Type 0
Unpublished base p e between_calls region = BeginsCommit between_calls e.opens × (region ≡ region_by base (length (lists_of p).pending) e.step)
Unpublished base p e (filling new i) region = region ≡ new
Unpublished base p e (replaced old) region = ⊥

-- the moment by which these steps are past since the step e of the reader r
abbrev pub until : Run → ℕ → Entry → Run → Run
until past r e between = past ++ (suc r, e) ∷ between

module _ {D : Type 0} (host : Host D) (origin : Origin D) where
  abbrev pub IsArrayRun : Run → Type 0
  IsArrayRun run = IsRun (program host.client) origin run

  abbrev pub local_in : Run → ℕ → LocalState
  local_in run n = local_after (floor_word host origin) (base_word host origin) n (account n run)

  -- the edits that have taken place, and those of them that the writer answered; how many have; and the committed list after them
  abbrev pub edits_in : Run → List Edit
  edits_in run = edits_by (local_in run 0)

  abbrev pub log_in : Run → List Edit
  log_in run = logged (local_in run 0)

  abbrev pub linearized : Run → ℕ
  linearized run = length (edits_in run)

  abbrev pub committed_in : Run → List ℕ
  committed_in run = (lists_after_from empty_lists (edits_in run)).committed

  abbrev pub region_in : Run → Item
  region_in run = region_of (local_in run 0)

  -- The root names the present region, and its words stand for the committed list
  pub record WordsStand (run : Run) : Type 0 where
    pub root : slice_index (replay origin.words run) (base_word host origin) ≡ (region_in run).at
    pub inside : IsRegion (region_in run)
    pub list : HoldsList (base_word host origin) (replay origin.words run) (region_in run) (committed_in run)

  -- The reader r is within an `all` from its step e, after `past`, on: no step between has ended it
  pub record IsReading (past : Run) (r : ℕ) (e : Entry) (between : Run) : Type 0 where
    pub starts : read_stage_of (local_in past (suc r)) ≡ no_read
    pub goes : (before behind : Run) → between ≡ before ++ behind → read_stage_of (local_in (until past r e before) (suc r)) ≡ no_read → ⊥

  -- and its step e' answers this list
  abbrev pub Answers : Run → ℕ → Entry → List ℕ → Type 0
  Answers run r e' members = answers_of (local_in (run ++ (suc r, e') ∷ []) (suc r)) ≡ answers_of (local_in run (suc r)) ++ members ∷ []

  -- the words of the region stand at a later moment as they did
  abbrev pub KeepsRegion : Run → Run → Item → Type 0
  KeepsRegion past later region = (i : ℕ) → i < 2 ^ region.log → slice_index (replay origin.words later) (base_word host origin + region.at + i) ≡ slice_index (replay origin.words past) (base_word host origin + region.at + i)

  pub record ArrayLaw : Type 0 where
    -- the words stand for the committed list
    pub stand : (past rest : Run) → IsArrayRun (past ++ rest) → WordsStand past
    -- the log has all of what has taken place, but perhaps the last
    pub log : (past rest : Run) → IsArrayRun (past ++ rest) → (more : List Edit) × (edits_in past ≡ log_in past ++ more) × (length more ≤ 1)
    -- what has taken place stays, so the number of edits never falls
    pub grows : (past more rest : Run) → IsArrayRun (past ++ (more ++ rest)) → (es : List Edit) × (edits_in (past ++ more) ≡ edits_in past ++ es)
    -- an `all` answers the list that was committed at its first step, by which it had begun and wasn't over
    pub answers : (past between rest : Run) (r : ℕ) (e e' : Entry) (members : List ℕ) → IsArrayRun (until past r e between ++ (suc r, e') ∷ rest) → IsReading past r e between
        → Answers (until past r e between) r e' members → members ≡ committed_in past
    -- the region with which an `all` began keeps its words as long as it goes on
    pub frozen : (past between rest : Run) (r : ℕ) (e : Entry) → IsArrayRun (until past r e between ++ rest) → IsReading past r e between → KeepsRegion past (until past r e between) (region_in past)
    -- A region that the writer takes or stores in shares no word with one that was retired since a section opened that is still open
    pub reclaimed : (past rest : Run) (e : Entry) (p : WriterState) (region : Item) → IsArrayRun (past ++ (0, e) ∷ rest) → local_in past 0 ≡ writer p → is_array_word (floor_word host origin) (base_word host origin) e.step ≡ true
        → Unpublished (base_word host origin) p e p.stage region → (r o : ℕ) → r < records_of origin → IsOpen past r o
        → IsApartFromRetired (regions host) origin past o (item_from (place_in host origin) region)
