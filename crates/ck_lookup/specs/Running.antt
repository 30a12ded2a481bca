-- What the parts of a run make of its files.
use Rattle.std.specs.Prelude.{◌≡◌, ℕ, suc, ◌<◌, ◌≤◌, ◌⊎◌, List, ◌∷◌, length, Some, None, Option, slice_get, true, false, decimal}
use Rattle.std.specs.Ordering.{nat_cmp}
use Rattle.ck_io.specs.Faults.{Rose}
use Rattle.ck_io.specs.Sink.{appended, AppendsPrefix}
use Rattle.ck_script.specs.declared.line.Numbered.{Numbered}
use Rattle.ck_script.specs.declared.line.UpLine.{UpLine}
use Rattle.ck_script.specs.declared.line.AskLine.{AskLine}
use Rattle.ck_script.specs.declared.fault.ScriptError.{ScriptError}
use Rattle.ck_script.specs.declared.fault.ScriptError.TheVariants.{Fault, Memory}
use Rattle.ck_script.specs.declared.fault.ScriptFault.{ScriptFault}
use Rattle.ck_script.specs.Checks.{range_fault}
use Rattle.ck_report.specs.declared.put.PutError.{PutError}
use Rattle.ck_report.specs.declared.put.PutError.TheVariants.{Failed}
use Rattle.ck_report.specs.declared.put.PutError.TheVariants as put
use Rattle.ck_report.specs.Reports.{IsReport, BreaksAt}
use Rattle.ck_judge.specs.Verdict.{is_legal}
use Rattle.ck_judge.specs.declared.verdict.Verdict.{Verdict}
use Rattle.ck_history.specs.Key.{IsKey}
use Rattle.ck_pool.specs.Served.{line_total}
use Rattle.ck_lookup.specs.declared.outcome.Outcome.{Outcome}
use Rattle.ck_lookup.specs.declared.outcome.Outcome.TheVariants.{Done, ReadFault, BadScript, TooLarge, WriteFault, BadReport, Illegal, NoMemory}
use Rattle.ck_script.specs.Script.{ScriptOf}
use Rattle.ck_lookup.specs.Kinds.{Kind}
use Rattle.ck_lookup.specs.Tables.{table_kind}
use Rattle.ck_lookup.specs.Headline.{IsTextOf}
use Rattle.ck_lookup.specs.Limits.{AreWithin}
use Rattle.ck_lookup.specs.Judging.{verdict_text, IsBadReport, HasBadReport, HasBadScriptBeside}
use Rattle.ck_lookup.specs.Causes.{IsFaultOf, IsLawful, IsBadScript, HasBadScript, IsReadFault, IsTooLarge, AreRead, AreSaid}

-- A job that a run may begin: there are 1 to 64 query files, the lines are within the limits, and none is beyond what there is
pub record MayBegin {C Q : Type 0} (ups : List (Numbered (UpLine C))) (asks : List (List (Numbered (AskLine Q)))) : Type 0 where
  pub some_file : 1 ≤ length asks
  pub few_files : length asks ≤ 64
  pub short : line_total ups asks ≤ 4000000
  pub in_range : range_fault ups asks ≡ None

-- the outcome of a script that wasn't read
abbrev pub refusal_of : ℕ → ScriptError → Outcome
refusal_of file (Fault fault) = BadScript file fault.line fault.why
refusal_of file Memory = NoMemory

module _ {C Q : Type 0} (kind : Kind C Q) where
  -- Where the report wasn't put whole: what the sink took is the front of a report, or nothing was put because there was no memory
  abbrev pub HasPut : ScriptOf C Q → Option (List ℕ) → Option (List ℕ) → PutError → Type 0
  HasPut script before after Failed = (text : List ℕ) × IsTextOf kind script text × AppendsPrefix before after text
  HasPut script before after put.Memory = (after ≡ before) ⊎ ((text : List ℕ) × IsTextOf kind script text × AppendsPrefix before after text)

  -- the outcome where the update file, of these bytes, wasn't read
  abbrev pub IsRefusedUpdates : List ℕ → Outcome → Type 0
  IsRefusedUpdates bytes (BadScript file line why) = (file ≡ 0) × IsFaultOf kind 0 bytes (record { line = line; why = why })
  IsRefusedUpdates bytes NoMemory = Unit {0}
  IsRefusedUpdates bytes _ = ⊥

  -- the outcome where the query file with this number, of these bytes, wasn't read
  abbrev pub IsRefusedQueryFile : ℕ → List ℕ → Outcome → Type 0
  IsRefusedQueryFile number bytes (BadScript file line why) = (file ≡ number) × IsFaultOf kind 1 bytes (record { line = line; why = why })
  IsRefusedQueryFile number bytes NoMemory = Unit {0}
  IsRefusedQueryFile number bytes _ = ⊥

  -- this one of the query files, which are numbered from 1, has the fault, and those before it are in the grammar
  pub record IsBadQueryLine (files : List (List ℕ)) (file : ℕ) (fault : ScriptFault) : Type 0 where
    pub place : ℕ
    pub number : file ≡ suc place
    pub bytes : List ℕ
    pub here : slice_get files place ≡ Some bytes
    pub first : IsFaultOf kind 1 bytes fault
    pub earlier : (i : ℕ) (before : List ℕ) → i < place → slice_get files i ≡ Some before → IsLawful kind 1 before

  -- the outcome where the query files weren't all read
  abbrev pub IsRefusedQueries : List (List ℕ) → Outcome → Type 0
  IsRefusedQueries files (BadScript file line why) = IsBadQueryLine files file (record { line = line; why = why })
  IsRefusedQueries files NoMemory = Unit {0}
  IsRefusedQueries files _ = ⊥

  -- the outcome where the files weren't all read
  abbrev pub IsRefusedScript : List ℕ → List (List ℕ) → Outcome → Type 0
  IsRefusedScript update_file query_files (BadScript file line why) = IsBadScript kind update_file query_files file (record { line = line; why = why })
  IsRefusedScript update_file query_files NoMemory = Unit {0}
  IsRefusedScript update_file query_files _ = ⊥

  -- a run may go on: there are bytes of all files, what is told where it is told, they are within the limits, and they say
  -- the lines `ups` and `asks`, of which the checks refuse none
  pub record AreRunnable (held : List ℕ → Option (List ℕ)) (names : List (List ℕ)) (ups : List (Numbered (UpLine C))) (asks : List (List (Numbered (AskLine Q)))) : Type 0 where
    pub update_file : List ℕ
    pub query_files : List (List ℕ)
    pub read : AreRead held names (update_file ∷ query_files)
    pub within : AreWithin (update_file ∷ query_files)
    pub said : AreSaid kind update_file query_files ups asks

module _ (held : List ℕ → Option (List ℕ)) (names : List (List ℕ)) (before after : List ℕ → ℕ) where
  -- the outcome of a run whose files weren't all fetched
  abbrev pub IsRefusedFetch : Outcome → Type 0
  IsRefusedFetch (ReadFault file) = IsReadFault held names before after file
  IsRefusedFetch (TooLarge file) = (after ≡ before) × IsTooLarge held names file
  IsRefusedFetch NoMemory = Unit {0}
  IsRefusedFetch _ = ⊥

module _ {C Q : Type 0} (kind : Kind C Q) (held : List ℕ → Option (List ℕ)) (names : List (List ℕ)) (before after : List ℕ → ℕ) where
  -- the outcome of a run of these files that gets no report
  abbrev pub IsRefusedRun : Outcome → Type 0
  IsRefusedRun (ReadFault file) = IsReadFault held names before after file
  IsRefusedRun (TooLarge file) = (after ≡ before) × IsTooLarge held names file
  IsRefusedRun (BadScript file line why) = (after ≡ before) × HasBadScript kind held names file (record { line = line; why = why })
  IsRefusedRun NoMemory = Unit {0}
  IsRefusedRun _ = ⊥

-- the outcome where a file was to be a report, and wasn't read
abbrev pub IsNoReport : List ℕ → Outcome → Type 0
IsNoReport bytes (BadReport line) = BreaksAt IsKey decimal nat_cmp bytes line × (IsReport IsKey decimal nat_cmp bytes → ⊥)
IsNoReport bytes NoMemory = Unit {0}
IsNoReport bytes _ = ⊥

-- the outcome where the line of a verdict was put, or a front of it, or nothing was put
abbrev pub PutsVerdict : Verdict → Option (List ℕ) → Option (List ℕ) → ℕ → ℕ → Outcome → Type 0
PutsVerdict verdict before after faults_before faults_after Done = (is_legal verdict ≡ true) × (after ≡ appended before (verdict_text verdict))
PutsVerdict verdict before after faults_before faults_after Illegal = (is_legal verdict ≡ false) × (after ≡ appended before (verdict_text verdict))
PutsVerdict verdict before after faults_before faults_after WriteFault = Rose faults_before faults_after × AppendsPrefix before after (verdict_text verdict)
PutsVerdict verdict before after faults_before faults_after NoMemory = after ≡ before
PutsVerdict verdict before after faults_before faults_after _ = ⊥

-- the outcome of a run whose files aren't judged
module _ (update_file : List ℕ) (query_files : List (List ℕ)) (report_file : List ℕ) where
  abbrev pub IsNotJudged : Outcome → Type 0
  IsNotJudged (BadScript file line why) = IsBadScript table_kind update_file query_files file (record { line = line; why = why })
  IsNotJudged (BadReport line) = IsBadReport update_file query_files report_file line
  IsNotJudged NoMemory = Unit {0}
  IsNotJudged _ = ⊥

-- the outcome of a run that finds no verdict
module _ (held : List ℕ → Option (List ℕ)) (names : List (List ℕ)) (before after : List ℕ → ℕ) where
  abbrev pub HasNoVerdict : Outcome → Type 0
  HasNoVerdict (ReadFault file) = IsReadFault held names before after file
  HasNoVerdict (TooLarge file) = (after ≡ before) × IsTooLarge held names file
  HasNoVerdict (BadScript file line why) = (after ≡ before) × HasBadScriptBeside held names file (record { line = line; why = why })
  HasNoVerdict (BadReport line) = (after ≡ before) × HasBadReport held names line
  HasNoVerdict NoMemory = Unit {0}
  HasNoVerdict _ = ⊥
