-- Why a run ends as it does that judges a report. Its files are the update file, the query files, and last the report.
use Rattle.std.specs.Prelude.{◌≡◌, ◌↔◌, ℕ, ◌⊎◌, IsTrue, List, [], ◌∷◌, ◌++◌, Option, true, false, codes, map, decimal}
use Rattle.std.specs.Ordering.{nat_cmp}
use Rattle.ck_io.specs.Faults.{Rose}
use Rattle.ck_io.specs.Sink.{appended, AppendsPrefix}
use Rattle.ck_history.specs.Key.{IsKey}
use Rattle.ck_history.specs.declared.update.Update.{Update}
use Rattle.ck_script.specs.declared.fault.ScriptFault.{ScriptFault}
use Rattle.ck_script.specs.declared.line.Numbered.{Numbered}
use Rattle.ck_script.specs.declared.line.UpLine.{UpLine}
use Rattle.ck_script.specs.declared.line.AskLine.{AskLine}
use Rattle.ck_script.specs.Script.{said_of, Script, script_of, Means}
use Rattle.ck_report.specs.Reports.{Parts, Reads, IsReport, BreaksAt}
use Rattle.ck_judge.specs.Verdict.{IsVerdict, IsLegalReport, is_legal}
use Rattle.ck_judge.specs.declared.verdict.Verdict.{Verdict}
use Rattle.ck_judge.specs.declared.verdict.Verdict.TheVariants as verdict
use Rattle.ck_lookup.specs.declared.outcome.Outcome.{Outcome}
use Rattle.ck_lookup.specs.declared.outcome.Outcome.TheVariants.{Done, Usage, ReadFault, BadScript, TooLarge, WriteFault, BadReport, Illegal, NoMemory}
use Rattle.ck_lookup.specs.Tables.{capacity, table_kind}
use Rattle.ck_lookup.specs.Limits.{AreWithin}
use Rattle.ck_lookup.specs.Causes.{AreSaid, AreRead, IsBadScript, IsReadFault, IsTooLarge, Outside, FetchedAll, PutNothing, Tells}

-- the line that tells a verdict
abbrev pub verdict_text : Verdict → List ℕ
verdict_text (verdict.Legal least) = codes "legal" ++ 10 ∷ []
verdict_text (verdict.Reply at) = codes "reply " ++ (decimal at ++ 10 ∷ [])
verdict_text (verdict.Place file query) = codes "place " ++ (decimal file ++ (codes " " ++ (decimal query ++ 10 ∷ [])))
verdict_text (verdict.Table at) = codes "table " ++ (decimal at ++ 10 ∷ [])

-- the text is a report, and has these parts
abbrev pub ReadsAs : List ℕ → Parts ℕ → Type 0
ReadsAs report_file parts = Reads IsKey decimal nat_cmp report_file parts

-- the files of a run that judges, in order
abbrev pub judged_files : List ℕ → List (List ℕ) → List ℕ → List (List ℕ)
judged_files update_file query_files report_file = update_file ∷ (query_files ++ report_file ∷ [])

module _ (update_file : List ℕ) (query_files : List (List ℕ)) (report_file : List ℕ) where
  -- nothing stands against the scripts, the report has these parts, and this is the verdict on them
  pub record IsJudged (verdict : Verdict) : Type 0 where
    pub ups : List (Numbered (UpLine (Update ℕ)))
    pub asks : List (List (Numbered (AskLine ℕ)))
    pub said : AreSaid table_kind update_file query_files ups asks
    pub report : Parts ℕ
    pub reads : ReadsAs report_file report
    pub judged : IsVerdict nat_cmp capacity (script_of (said_of ups) (map said_of asks)) report verdict
    pub exact : IsTrue (is_legal verdict) ↔ IsLegalReport nat_cmp capacity (script_of (said_of ups) (map said_of asks)) report

  -- nothing stands against the scripts, and this is the first faulty line of what was to be a report
  pub record IsBadReport (line : ℕ) : Type 0 where
    pub ups : List (Numbered (UpLine (Update ℕ)))
    pub asks : List (List (Numbered (AskLine ℕ)))
    pub said : AreSaid table_kind update_file query_files ups asks
    pub first : BreaksAt IsKey decimal nat_cmp report_file line
    pub no_report : IsReport IsKey decimal nat_cmp report_file → ⊥

  -- the scripts mean this script, and the report has these parts and could have come from them
  pub record IsLegalOf : Type 0 where
    pub script : Script ℕ
    pub meant : Means IsKey decimal update_file query_files script
    pub report : Parts ℕ
    pub reads : ReadsAs report_file report
    pub legal : IsLegalReport nat_cmp capacity script report

-- what the shelf holds, where it tells it, and the names of the files
module _ (held : List ℕ → Option (List ℕ)) (names : List (List ℕ)) where
  -- there are bytes of all files, which are within the limits, and of which this holds
  pub record HasFiles (Holds : List ℕ → List (List ℕ) → List ℕ → Type 0) : Type 0 where
    pub update_file : List ℕ
    pub query_files : List (List ℕ)
    pub report_file : List ℕ
    pub read : AreRead held names (judged_files update_file query_files report_file)
    pub within : AreWithin (judged_files update_file query_files report_file)
    pub holds : Holds update_file query_files report_file

  abbrev pub HasVerdict : Verdict → Type 0
  HasVerdict verdict = HasFiles (λ update_file query_files report_file. IsJudged update_file query_files report_file verdict)

  abbrev pub HasBadReport : ℕ → Type 0
  HasBadReport line = HasFiles (λ update_file query_files report_file. IsBadReport update_file query_files report_file line)

  abbrev pub HasBadScriptBeside : ℕ → ScriptFault → Type 0
  HasBadScriptBeside file fault = HasFiles (λ update_file query_files report_file. IsBadScript table_kind update_file query_files file fault)

module _ (o : Outside) (names : List (List ℕ)) where
  -- How a run of these files may end, with the cause of each outcome, and with none of the refusals that come before it. Want of memory may come
  -- at any time
  abbrev pub EndsJudged : Outcome → Type 0
  EndsJudged Done = FetchedAll o names × ((verdict : Verdict) × HasVerdict o.held names verdict × (is_legal verdict ≡ true) × (o.taken_after ≡ appended o.taken_before (verdict_text verdict)))
  EndsJudged Illegal = FetchedAll o names × ((verdict : Verdict) × HasVerdict o.held names verdict × (is_legal verdict ≡ false) × (o.taken_after ≡ appended o.taken_before (verdict_text verdict)))
  EndsJudged WriteFault = FetchedAll o names × Rose o.sink_before o.sink_after × ((verdict : Verdict) × HasVerdict o.held names verdict × AppendsPrefix o.taken_before o.taken_after (verdict_text verdict))
  EndsJudged Usage = ⊥
  EndsJudged (ReadFault file) = IsReadFault o.held names o.shelf_before o.shelf_after file × PutNothing o names
  EndsJudged (TooLarge file) = FetchedAll o names × IsTooLarge o.held names file × PutNothing o names
  EndsJudged (BadScript file line why) = FetchedAll o names × HasBadScriptBeside o.held names file (record { line = line; why = why }) × PutNothing o names
  EndsJudged (BadReport line) = FetchedAll o names × HasBadReport o.held names line × PutNothing o names
  EndsJudged NoMemory = PutNothing o names

  -- nothing stands against a verdict: the shelf tells files of which nothing is refused, the last is a report, and no count of
  -- faults rose
  pub record IsClearJudged (update_file : List ℕ) (query_files : List (List ℕ)) (report_file : List ℕ) : Type 0 where
    pub told : Tells o.held names update_file (query_files ++ report_file ∷ [])
    pub within : AreWithin (judged_files update_file query_files report_file)
    pub ups : List (Numbered (UpLine (Update ℕ)))
    pub asks : List (List (Numbered (AskLine ℕ)))
    pub said : AreSaid table_kind update_file query_files ups asks
    pub report : IsReport IsKey decimal nat_cmp report_file
    pub no_read_fault : (name : List ℕ) → Rose (o.shelf_before name) (o.shelf_after name) → ⊥
    pub no_write_fault : Rose o.sink_before o.sink_after → ⊥

-- the outcome of a report that isn't legal, or want of memory
abbrev pub IsIllegalOrNoMemory : Outcome → Type 0
IsIllegalOrNoMemory outcome = (outcome ≡ Illegal) ⊎ (outcome ≡ NoMemory)
