-- Why a run ends as it does.
use Rattle.std.specs.Prelude.{◌≡◌, ℕ, zero, suc, ◌+◌, ◌<◌, ◌⊎◌, List, [], ◌∷◌, ◌++◌, length, map, take, Option, Some, None, IfSome, slice_get}
use Rattle.std.specs.Option.{option_map, option_or}
use Rattle.ck_io.specs.Faults.{Rose}
use Rattle.ck_io.specs.Sink.{appended, AppendsPrefix}
use Rattle.ck_script.specs.declared.fault.ScriptFault.{ScriptFault}
use Rattle.ck_script.specs.declared.fault.Why.{Why}
use Rattle.ck_script.specs.declared.fault.Why.TheVariants.{Beyond, Many, Circle}
use Rattle.ck_script.specs.declared.check.RangeFault.{RangeFault}
use Rattle.ck_script.specs.declared.line.Numbered.{Numbered}
use Rattle.ck_script.specs.declared.line.UpLine.{UpLine}
use Rattle.ck_script.specs.declared.line.AskLine.{AskLine}
use Rattle.ck_script.specs.Checks.{range_fault, circle_fault}
use Rattle.ck_script.specs.Grammar.{FileSays, IsFirstFault}
use Rattle.ck_lookup.specs.declared.outcome.Outcome.{Outcome}
use Rattle.ck_lookup.specs.declared.outcome.Outcome.TheVariants.{Done, Usage, ReadFault, BadScript, TooLarge, WriteFault, BadReport, Illegal, NoMemory}
use Rattle.ck_lookup.specs.Limits.{AreWithin}
use Rattle.ck_script.specs.Script.{AsksSay}
use Rattle.ck_lookup.specs.Kinds.{Kind}
use Rattle.ck_lookup.specs.Headline.{IsReportOf}

-- the refusal of a line that a check names
abbrev pub refused_as : Why → RangeFault → Outcome
refused_as why fault = BadScript fault.file fault.line why

module _ {C Q : Type 0} (kind : Kind C Q) where
  -- the file with this number is in the grammar: file 0 is the update file, the others are query files
  abbrev pub IsLawful : ℕ → List ℕ → Type 0
  IsLawful zero bytes = (said : _) × FileSays kind.updates.is_line kind.updates.words bytes said
  IsLawful (suc f) bytes = (said : _) × FileSays kind.queries.is_line kind.queries.words bytes said

  -- the first fault of the file with this number
  abbrev pub IsFaultOf : ℕ → List ℕ → ScriptFault → Type 0
  IsFaultOf zero = IsFirstFault kind.updates.is_line kind.updates.words kind.updates.is_fault
  IsFaultOf (suc f) = IsFirstFault kind.queries.is_line kind.queries.words kind.queries.is_fault

  -- this one of the files has the fault, and the files before it are in the grammar
  pub record IsBadLine (files : List (List ℕ)) (file : ℕ) (fault : ScriptFault) : Type 0 where
    pub bytes : List ℕ
    pub here : slice_get files file ≡ Some bytes
    pub first : IsFaultOf file bytes fault
    pub earlier : (i : ℕ) (before : List ℕ) → i < file → slice_get files i ≡ Some before → IsLawful i before

  -- The refusal of lines that are all in the grammar, in the order of the checks: the first line that is beyond what there is; where there is
  -- none, the first query that there are too many of; where there is none either, the first `hold` line that would wait for ever
  abbrev pub checks_refusal : List (Numbered (UpLine C)) → List (List (Numbered (AskLine Q))) → Option Outcome
  checks_refusal ups asks =
      option_or (option_map (refused_as Beyond) (range_fault ups asks)) (
      option_or (option_map (refused_as Many) (kind.surplus asks)) (option_map (refused_as Circle) (circle_fault ups asks)))

  -- the update file says the lines `ups`, the query files say `asks`, and no check refuses these lines
  pub record AreSaid (update_file : List ℕ) (query_files : List (List ℕ)) (ups : List (Numbered (UpLine C))) (asks : List (List (Numbered (AskLine Q)))) : Type 0 where
    pub updates_said : FileSays kind.updates.is_line kind.updates.words update_file ups
    pub queries_said : AsksSay kind.queries.is_line kind.queries.words query_files asks
    pub checked : checks_refusal ups asks ≡ None

  -- Nothing stands against a report of these files: they are within the limits, all of them are in the grammar, no line is beyond what there
  -- is, there are no queries too many, and no `hold` line would wait for ever
  pub record AreAccepted (update_file : List ℕ) (query_files : List (List ℕ)) : Type 0 where
    pub within : AreWithin (update_file ∷ query_files)
    pub ups : List (Numbered (UpLine C))
    pub asks : List (List (Numbered (AskLine Q)))
    pub said : AreSaid update_file query_files ups asks

  -- all files are in the grammar, and this line of what they say is the first that the checks refuse
  pub record IsRefusedLine (update_file : List ℕ) (query_files : List (List ℕ)) (file : ℕ) (fault : ScriptFault) : Type 0 where
    pub ups : List (Numbered (UpLine C))
    pub asks : List (List (Numbered (AskLine Q)))
    pub updates_said : FileSays kind.updates.is_line kind.updates.words update_file ups
    pub queries_said : AsksSay kind.queries.is_line kind.queries.words query_files asks
    pub first : checks_refusal ups asks ≡ Some (BadScript file fault.line fault.why)

  -- the first fault of a run's files
  abbrev pub IsBadScript : List ℕ → List (List ℕ) → ℕ → ScriptFault → Type 0
  IsBadScript update_file query_files file fault =
      IsBadLine (update_file ∷ query_files) file fault ⊎ IsRefusedLine update_file query_files file fault

-- the files under some names have these bytes: of each what is told under its name, where that is told
abbrev pub AreRead : {N : Type 0} → (N → Option (List ℕ)) → List N → List (List ℕ) → Type 0
AreRead told [] [] = Unit {0}
AreRead told (name ∷ names) (file ∷ files) = IfSome (told name) (λ bytes. file ≡ bytes) × AreRead told names files
AreRead told _ _ = ⊥

-- what the shelf holds, where it tells it, and the names of a run's files, the update file first
module _ (held : List ℕ → Option (List ℕ)) (names : List (List ℕ)) where
  -- the shelf tells these bytes of the update file and of the query files
  abbrev pub Tells : List ℕ → List (List ℕ) → Type 0
  Tells update_file query_files = map held names ≡ map Some (update_file ∷ query_files)

  -- there are bytes of the first n files, what the shelf tells where it tells them, that are within the limits
  pub record AreFirstWithin (n : ℕ) : Type 0 where
    pub files : List (List ℕ)
    pub read : AreRead held (take n names) files
    pub within : AreWithin files

  -- there are bytes of this file and of those before it: those before it are within the limits, and with it they aren't
  pub record IsTooLarge (file : ℕ) : Type 0 where
    pub named : file < length names
    pub earlier : List (List ℕ)
    pub bytes : List ℕ
    pub read : AreRead held (take (file + 1) names) (earlier ++ bytes ∷ [])
    pub within : AreWithin earlier
    pub past : AreWithin (earlier ++ bytes ∷ []) → ⊥

  -- the count of faults of the file's name rose, and the files before it are within the limits
  pub record IsReadFault (before after : List ℕ → ℕ) (file : ℕ) : Type 0 where
    pub name : List ℕ
    pub named : slice_get names file ≡ Some name
    pub rose : Rose (before name) (after name)
    pub earlier : AreFirstWithin file

-- the same for a kind of run
module _ {C Q : Type 0} (kind : Kind C Q) (held : List ℕ → Option (List ℕ)) (names : List (List ℕ)) where
  -- there are bytes of all files: they are within the limits, and this is their first fault
  pub record HasBadScript (file : ℕ) (fault : ScriptFault) : Type 0 where
    pub update_file : List ℕ
    pub query_files : List (List ℕ)
    pub read : AreRead held names (update_file ∷ query_files)
    pub within : AreWithin (update_file ∷ query_files)
    pub first : IsBadScript kind update_file query_files file fault

  -- there are bytes of all files: nothing stands against a report of them, and the text is one
  pub record HasReport (text : List ℕ) : Type 0 where
    pub update_file : List ℕ
    pub query_files : List (List ℕ)
    pub read : AreRead held names (update_file ∷ query_files)
    pub accepted : AreAccepted kind update_file query_files
    pub report : IsReportOf kind update_file query_files text

-- the outside of a run: what the shelf holds, the counts of faults, and what the sink took, before and after the run
pub record Outside : Type 0 where
  pub held : List ℕ → Option (List ℕ)
  pub shelf_before : List ℕ → ℕ
  pub shelf_after : List ℕ → ℕ
  pub taken_before : Option (List ℕ)
  pub taken_after : Option (List ℕ)
  pub sink_before : ℕ
  pub sink_after : ℕ

-- the same in one line, as clauses say it
abbrev pub outside : (List ℕ → Option (List ℕ)) → (List ℕ → ℕ) → (List ℕ → ℕ) → Option (List ℕ) → Option (List ℕ) → ℕ → ℕ → Outside
outside held shelf_before shelf_after taken_before taken_after sink_before sink_after = record {
  held = held;
  shelf_before = shelf_before;
  shelf_after = shelf_after;
  taken_before = taken_before;
  taken_after = taken_after;
  sink_before = sink_before;
  sink_after = sink_after;
}

module _ (o : Outside) (names : List (List ℕ)) where
  -- no fetch failed: no count of the shelf's faults changed
  abbrev pub FetchedAll : Type 0
  FetchedAll = o.shelf_after ≡ o.shelf_before

  -- nothing was put
  abbrev pub PutNothing : Type 0
  PutNothing = o.taken_after ≡ o.taken_before

module _ {C Q : Type 0} (kind : Kind C Q) (o : Outside) (names : List (List ℕ)) where
  -- what the sink took is a whole report
  abbrev pub PutReport : Type 0
  PutReport = (text : List ℕ) × HasReport kind o.held names text × (o.taken_after ≡ appended o.taken_before text)

  -- what the sink took is the front of a report, maybe none or all of it
  abbrev pub PutFront : Type 0
  PutFront = (text : List ℕ) × HasReport kind o.held names text × AppendsPrefix o.taken_before o.taken_after text

  -- A run of these files may end with the outcome: that has its cause, and none of the refusals that come before it. Want of memory may come
  -- at any time
  abbrev pub MayEndWith : Outcome → Type 0
  MayEndWith Done = FetchedAll o names × PutReport
  MayEndWith Usage = ⊥
  MayEndWith (ReadFault file) = IsReadFault o.held names o.shelf_before o.shelf_after file × PutNothing o names
  MayEndWith (TooLarge file) = FetchedAll o names × IsTooLarge o.held names file × PutNothing o names
  MayEndWith (BadScript file line why) = FetchedAll o names × HasBadScript kind o.held names file (record { line = line; why = why }) × PutNothing o names
  MayEndWith WriteFault = FetchedAll o names × Rose o.sink_before o.sink_after × PutFront
  MayEndWith (BadReport line) = ⊥
  MayEndWith Illegal = ⊥
  MayEndWith NoMemory = PutNothing o names ⊎ (FetchedAll o names × PutFront)

  -- nothing stands against a whole report: the shelf tells files of which nothing is refused, and no count of faults rose
  pub record IsClear (update_file : List ℕ) (query_files : List (List ℕ)) : Type 0 where
    pub told : Tells o.held names update_file query_files
    pub accepted : AreAccepted kind update_file query_files
    pub no_read_fault : (name : List ℕ) → Rose (o.shelf_before name) (o.shelf_after name) → ⊥
    pub no_write_fault : Rose o.sink_before o.sink_after → ⊥

-- the outcome is a whole report, or want of memory
abbrev pub IsDoneOrNoMemory : Outcome → Type 0
IsDoneOrNoMemory outcome = (outcome ≡ Done) ⊎ (outcome ≡ NoMemory)
