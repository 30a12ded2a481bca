-- Which texts are reports, and what is wrong with a text that is none.
use Rattle.std.specs.Prelude.{◌≡◌, ℕ, ◌+◌, ◌-◌, ◌<◌, ◌≤◌, ◌^◌, List, [], ◌∷◌, ◌++◌, length, map, Option, Some, None}
use Rattle.std.specs.declared.cmp.Ordering.{Ordering}
use Rattle.std.specs.List.{AllByRecursion, repeat}
use Rattle.std.specs.List.Sorted.{IsStrictlySortedBy}
use Rattle.std.specs.Map.{keys_of}
use Rattle.ck_history.specs.declared.update.Reply.{Reply}
use Rattle.ck_history.specs.declared.update.Reply.TheVariants.{Fresh, Was, Has, Missing, Tidied, Full}
use Rattle.ck_text.specs.Lines.{lines_with_feeds}
use Rattle.ck_report.specs.declared.asked.Asked.{Asked}
use Rattle.ck_report.specs.declared.map_report.MapReport.{MapReport}
use Rattle.ck_report.specs.declared.map_report.ReportError.{ReportError}
use Rattle.ck_report.specs.declared.map_report.ReportError.TheVariants.{Fault, Memory}
use Rattle.ck_report.specs.Text.{report_text}

-- its value has 64 bits
abbrev pub IsReply : Reply → Type 0
IsReply (Was v) = v < 2 ^ 64
IsReply (Has v) = v < 2 ^ 64
IsReply Fresh = Unit {0}
IsReply Missing = Unit {0}
IsReply Tidied = Unit {0}
IsReply Full = Unit {0}

-- the value, if there is one, has 64 bits
abbrev pub IsFound : Option ℕ → Type 0
IsFound (Some v) = v < 2 ^ 64
IsFound None = Unit {0}

-- the answers of each file from f on: of those that are named theirs, of the files between them none
abbrev pub spread : {K : Type 0} → ℕ → List (ℕ × List (Asked K)) → List (List (Asked K))
spread f [] = []
spread f (file ∷ more) = repeat (file.0 - f) ([] ∷ []) ++ file.1 ∷ spread (file.0 + 1) more

-- the files' numbers ascend from f on, and each file has an answer
abbrev pub AreNamed : {K : Type 0} → ℕ → List (ℕ × List (Asked K)) → Type 0
AreNamed f [] = Unit {0}
AreNamed f (file ∷ more) = (f ≤ file.0) × (0 < length file.1) × AreNamed (file.0 + 1) more

-- the parts of a report as lists, of which `files` has the number and the answers of each file that has any
pub record Parts (K : Type 0) : Type 0 where
  pub replies : List Reply
  pub files : List (ℕ × List (Asked K))
  pub pairs : List (K × ℕ)

-- what was read, as lists
abbrev pub parts_of : {K : Type 0} → MapReport K → Parts K
parts_of report = record { replies = report.replies.items; files = map (λ file. (file.0, file.1.items)) report.answers.items; pairs = report.pairs.items }

-- which keys a report may have
module _ {K : Type 0} (IsKey : K → Type 0) where
  -- its key is a key, and its value has 64 bits
  abbrev pub IsAnswer : Asked K → Type 0
  IsAnswer a = IsKey a.key × IsFound a.found

  -- the same of a pair
  abbrev pub IsPair : K × ℕ → Type 0
  IsPair p = IsKey p.0 × (p.1 < 2 ^ 64)

-- .. how they are spelt, and their order
module _ {K : Type 0} (IsKey : K → Type 0) (spelling : K → List ℕ) (cmp : K → K → Ordering) where
  -- parts that a report may have: at most 64 files, and pairs by ascending key
  pub record AreLawful (replies : List Reply) (files : List (List (Asked K))) (pairs : List (K × ℕ)) : Type 0 where
    pub replies_fit : AllByRecursion IsReply replies
    pub answers_fit : AllByRecursion (AllByRecursion (IsAnswer IsKey)) files
    pub few : length files ≤ 64
    pub pairs_fit : AllByRecursion (IsPair IsKey) pairs
    pub ascending : IsStrictlySortedBy cmp (keys_of pairs)

  -- the text of some lawful replies, answers and pairs
  pub record IsReport (text : List ℕ) : Type 0 where
    pub replies : List Reply
    pub files : List (List (Asked K))
    pub pairs : List (K × ℕ)
    pub lawful : AreLawful replies files pairs
    pub printed : text ≡ report_text spelling replies files pairs

  -- the text is that of these parts, of which each file that has answers is named
  pub record Reads (text : List ℕ) (read : Parts K) : Type 0 where
    pub named : AreNamed 1 read.files
    pub lawful : AreLawful read.replies (spread 1 read.files) read.pairs
    pub printed : text ≡ report_text spelling read.replies (spread 1 read.files) read.pairs

  -- some report begins with these lines
  pub record CanBegin (front : List (List ℕ)) : Type 0 where
    pub text : List ℕ
    pub report : IsReport text
    pub later : List (List ℕ)
    pub lines : lines_with_feeds text ≡ front ++ later

  -- after the first of these lines, the next is one that no report has there; where there is no next, the text stops early
  abbrev pub FailsAfter : List ℕ → List (List ℕ) → List (List ℕ) → Type 0
  FailsAfter text before [] = IsReport text → ⊥
  FailsAfter text before (line ∷ later) = CanBegin (before ++ line ∷ []) → ⊥

  -- at the line of this number the text is the front of a report no longer: no report with the same earlier lines has it, or the text lacks it
  pub record BreaksAt (text : List ℕ) (number : ℕ) : Type 0 where
    pub before : List (List ℕ)
    pub after : List (List ℕ)
    pub here : lines_with_feeds text ≡ before ++ after
    pub counted : number ≡ length before + 1
    pub earlier : CanBegin before
    pub faulty : FailsAfter text before after

-- the fact of the line of the fault, where the report wasn't refused for want of memory
abbrev pub IfFaultLine : ReportError → (ℕ → Type 0) → Type 0
IfFaultLine (Fault line) P = P line
IfFaultLine Memory P = Unit {0}
