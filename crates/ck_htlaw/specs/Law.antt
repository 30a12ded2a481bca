-- The law of a table: what every true run of a domain whose client holds it keeps, at each of its moments. A moment is the part of the run
-- that is past.
use Rattle.std.specs.Prelude.{◌≡◌, ◌≢◌, ℕ, suc, ◌-◌, ◌*◌, ◌<◌, ◌≤◌, ◌&&◌, ◌⊎◌, not, true, Option, List, [], ◌∷◌, ◌++◌, length, slice_index}
use Rattle.std.specs.Ordering.{nat_cmp}
use Rattle.ck_run.specs.declared.account.Step.TheVariants.{Load}
use Rattle.ck_run.specs.declared.account.Entry.{Entry}
use Rattle.ck_run.specs.Run.{Run, replay, account}
use Rattle.ck_run.specs.Rule.{IsRun}
use Rattle.ck_history.specs.declared.log.LogEntry.{LogEntry}
use Rattle.ck_history.specs.Map.{Map, find}
use Rattle.ck_slots.specs.Standing.{Copies, single, double, StandFor}
use Rattle.ck_epoch.specs.State.{Origin, base_of, records_of}
use Rattle.ck_epoch.specs.Epochs.{IsOpen}
use Rattle.ck_epoch.specs.Client.{program}
use Rattle.ck_htlaw.specs.Host.{Host, first, lies}
use Rattle.ck_htlaw.specs.Calls.{is_single_load}
use Rattle.ck_htlaw.specs.Stages.{Stage, idle, twice, before_tombstone}
use Rattle.ck_htlaw.specs.Look.{LookState, no_look, checking_value, checking_absence}
use Rattle.ck_htlaw.specs.Table.{view, WriterState, ReaderState, LocalState, writer, reader, is_table_word}
use Rattle.ck_htlaw.specs.Actions.{action}
use Rattle.ck_reclaim.specs.Reclaim.{IsApartFromRetired}
use Rattle.ck_htlaw.specs.Layout.{region_item}
use Rattle.ck_htlaw.specs.Regions.{regions}
use Rattle.ck_htlaw.specs.Client.{Answers, local_after, answers_after, look_ends}
use Rattle.ck_htlaw.specs.Invariant.{IsUnpublishedBy}
use Rattle.ck_htlaw.specs.Linearized.{map_after, AreReplies, linearized_updates}

-- while a key is moved it stands twice
abbrev pub copies_of : Stage → Copies
copies_of (twice from w) = double w.key w.to from
copies_of (before_tombstone from w) = double w.key w.to from
copies_of g = single

abbrev pub copies_by : LocalState → Copies
copies_by (writer p) = copies_of p.stage
copies_by (reader y) = single

abbrev pub look_state_of : LocalState → LookState
look_state_of (writer p) = no_look
look_state_of (reader y) = y.look_state

-- how often the reader's looks met another counter than the one that they had loaded
abbrev pub retries_of : LocalState → ℕ
retries_of (writer p) = 0
retries_of (reader y) = y.retries

-- the moment by which these steps are past since the step e of the reader r
abbrev pub until : Run → ℕ → Entry → Run → Run
until past r e between = past ++ (suc r, e) ∷ between

-- each of these steps is of the token n
abbrev pub AreOf : ℕ → Run → Type 0
AreOf n run = (before : Run) (m : ℕ) (e : Entry) (behind : Run) → run ≡ before ++ (m, e) ∷ behind → m ≡ n

module _ {D : Type 0} (host : Host D) (origin : Origin D) where
  abbrev pub IsTableRun : Run → Type 0
  IsTableRun run = IsRun (program host.client) origin run

  abbrev pub local_in : Run → ℕ → LocalState
  local_in run n = local_after (lies host origin) origin.words n (account n run)

  abbrev pub answers_in : Run → Answers
  answers_in run = answers_after (lies host origin) origin.words 0 (account 0 run)

  -- the writer's log; the updates that have taken place, with their replies, and how many they are; and the map after them
  abbrev pub log_in : Run → List (LogEntry ℕ)
  log_in run = (answers_in run).log

  abbrev pub updates_in : Run → List (LogEntry ℕ)
  updates_in run = linearized_updates (answers_in run)

  abbrev pub linearized : Run → ℕ
  linearized run = length (updates_in run)

  abbrev pub map_in : Run → Map ℕ
  map_in run = map_after (updates_in run)

  -- the root of the present region
  abbrev pub root_in : Run → ℕ
  root_in run = slice_index (replay origin.words run) (first host origin)

  -- The words of the present region stand for the map after the updates that have taken place
  abbrev pub WordsStand : Run → Type 0
  WordsStand run = StandFor ((lies host origin).order (root_in run)) (view (lies host origin) (replay origin.words run) (root_in run)) (copies_by (local_in run 0)) (λ k. find nat_cmp (map_in run) k)

  -- A look of the reader r: its first step is e, after `past`, its last step is e', and the steps of all tokens between them are `between`
  pub record IsLook (past : Run) (r : ℕ) (e : Entry) (between : Run) (e' : Entry) : Type 0 where
    pub starts : look_state_of (local_in past (suc r)) ≡ no_look
    pub goes : (before behind : Run) → between ≡ before ++ behind → look_state_of (local_in (past ++ (suc r, e) ∷ before) (suc r)) ≡ no_look → ⊥
    pub last : (is_table_word (lies host origin) e'.step && not (is_single_load e'.opens)) ≡ true

  -- the map gave x for k at a moment from the first step of the look on until its last step, and as many updates had taken place by then as at its first step, or more
  pub record GaveWithin (past : Run) (r : ℕ) (e : Entry) (between : Run) (k : ℕ) (x : Option ℕ) : Type 0 where
    pub before : Run
    pub behind : Run
    pub splits : between ≡ before ++ behind
    pub gave : find nat_cmp (map_in (until past r e before)) k ≡ x
    pub least : linearized past ≤ linearized (until past r e before)

  -- the words and the counter of the region of this root stand at a later moment as they did
  pub record KeepsRegion (past later : Run) (root : ℕ) : Type 0 where
    pub slots : (s i : ℕ) → s < ((lies host origin).order root).slots → i < 4 → slice_index (replay origin.words later) ((lies host origin).word root s i) ≡ slice_index (replay origin.words past) ((lies host origin).word root s i)
    pub counter : slice_index (replay origin.words later) ((lies host origin).counter root) ≡ slice_index (replay origin.words past) ((lies host origin).counter root)

  pub record TableLaw : Type 0 where
    -- the words stand for the map, and the replies are the map's
    pub stand : (past rest : Run) → IsTableRun (past ++ rest) → WordsStand past
    pub replies : (past rest : Run) → IsTableRun (past ++ rest) → AreReplies (updates_in past)
    -- the log has all of what has taken place, but perhaps the last
    pub log : (past rest : Run) → IsTableRun (past ++ rest) → (more : List (LogEntry ℕ)) × (updates_in past ≡ log_in past ++ more) × (length more ≤ 1)
    -- what has taken place stays, so the number of updates never falls
    pub grows : (past more rest : Run) → IsTableRun (past ++ (more ++ rest)) → (us : List (LogEntry ℕ)) × (updates_in (past ++ more) ≡ updates_in past ++ us)
    -- the answer of each look is the map's at a moment of it
    pub answers : (past between rest : Run) (r : ℕ) (e e' : Entry) (k : ℕ) (x : Option ℕ) → IsTableRun (until past r e between ++ (suc r, e') ∷ rest) → IsLook past r e between e'
        → look_ends (look_state_of (local_in (until past r e between) (suc r))) e'.step ≡ (k, x) ∷ [] → GaveWithin past r e between k x
    -- a look doesn't answer only where the counter of its region has risen since it was loaded: c was loaded first, and the last load, of n, is of that counter
    pub again : (past rest : Run) (r : ℕ) (e : Entry) (y : ReaderState) (word c n : ℕ) → IsTableRun (past ++ (suc r, e) ∷ rest) → (is_table_word (lies host origin) e.step && not (is_single_load e.opens)) ≡ true → e.step ≡ Load word n
        → local_in past (suc r) ≡ reader y → (((k : ℕ) × (x : ℕ) × (y.look_state ≡ checking_value k c x)) ⊎ ((k : ℕ) × (y.look_state ≡ checking_absence k c))) → (word ≡ (lies host origin).counter y.root) × (c ≤ n)
    -- where no other token steps between its first step and its last, it gives the map then, and always answers
    pub alone : (past between rest : Run) (r : ℕ) (e e' : Entry) (k : ℕ) (x : Option ℕ) → IsTableRun (until past r e between ++ (suc r, e') ∷ rest) → IsLook past r e between e' → AreOf (suc r) between
        → look_ends (look_state_of (local_in (until past r e between) (suc r))) e'.step ≡ (k, x) ∷ [] → find nat_cmp (map_in past) k ≡ x
    pub alone_answers : (past between rest : Run) (r : ℕ) (e e' : Entry) (word c n : ℕ) → IsTableRun (until past r e between ++ (suc r, e') ∷ rest) → IsLook past r e between e' → AreOf (suc r) between → e'.step ≡ Load word n
        → (((k : ℕ) × (x : ℕ) × (look_state_of (local_in (until past r e between) (suc r)) ≡ checking_value k c x)) ⊎ ((k : ℕ) × (look_state_of (local_in (until past r e between) (suc r)) ≡ checking_absence k c))) → c ≡ n
    -- and it does so at most twice for each update, as counted where the writer is between two calls
    pub bounded : (past more : Run) (r : ℕ) (p : WriterState) → IsTableRun (past ++ more) → local_in past 0 ≡ writer p → p.stage ≡ idle → retries_of (local_in past (suc r)) ≤ 2 * length (log_in past)
    -- the region that a look began with keeps its words and its counter at each step while its root isn't the present one
    pub frozen : (past more : Run) (n : ℕ) (e : Entry) (r : ℕ) (y : ReaderState) → IsTableRun (past ++ (n, e) ∷ more) → local_in past (suc r) ≡ reader y → (y.look_state ≡ no_look → ⊥) → y.root ≢ root_in past → KeepsRegion past (past ++ (n, e) ∷ []) y.root
    -- A region that the writer takes or builds shares no word with one that was retired since a section opened that is still open
    pub reclaimed : (past rest : Run) (e : Entry) (p : WriterState) (root : ℕ) → IsTableRun (past ++ (0, e) ∷ rest) → local_in past 0 ≡ writer p → is_table_word (lies host origin) e.step ≡ true → IsUnpublishedBy (action (lies host origin) p e) p.stage root
        → (r o : ℕ) → r < records_of origin → IsOpen past r o
        → IsApartFromRetired (regions host) origin past o (region_item (first host origin - base_of origin) root)
