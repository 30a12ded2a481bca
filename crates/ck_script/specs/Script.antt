-- What the files of a run ask for: updates, and queries with the bounds that `wait` and `hold` lines set to their places.
use Rattle.std.specs.Prelude.{◌≡◌, ℕ, ◌+◌, ◌==◌, ◌&&◌, nat_le, if◌then◌else◌, min, max, List, [], ◌∷◌, length, map}
use Rattle.ck_history.specs.declared.update.Update.{Update}
use Rattle.ck_history.specs.declared.edit.Edit.{Edit}
use Rattle.ck_history.specs.Legal.{Query}
use Rattle.ck_script.specs.declared.line.Numbered.{Numbered}
use Rattle.ck_script.specs.declared.line.UpLine.{UpLine}
use Rattle.ck_script.specs.declared.line.UpLine.TheVariants.{Call, Hold}
use Rattle.ck_script.specs.declared.line.AskLine.{AskLine}
use Rattle.ck_script.specs.declared.line.AskLine.TheVariants.{Ask, Wait}
use Rattle.ck_script.specs.Grammar.{FileSays, IsUpdateLine, update_words, IsQueryLine, query_words}
use Rattle.ck_script.specs.ListGrammar.{IsEditLine, edit_words, IsViewLine, view_words}

-- what numbered lines say, without their numbers
abbrev pub said_of : {L : Type 0} → List (Numbered L) → List L
said_of lines = map (λ l. l.what) lines

-- lines that say this, numbered from `line` on
abbrev pub numbered : {L : Type 0} → ℕ → List L → List (Numbered L)
numbered line [] = []
numbered line (what ∷ more) = record { line = line; what = what } ∷ numbered (line + 1) more

-- the updates, in order
abbrev pub updates : {C : Type 0} → List (UpLine C) → List C
updates [] = []
updates (Call u ∷ more) = u ∷ updates more
updates (Hold file count ∷ more) = updates more

-- a `hold` line: its file, its count, and how many updates stand before it
pub record HoldLine : Type 0 where
  pub file : ℕ
  pub count : ℕ
  pub after : ℕ

-- the `hold` lines, where m updates stand before them all
abbrev pub holds : {C : Type 0} → ℕ → List (UpLine C) → List HoldLine
holds m [] = []
holds m (Call u ∷ more) = holds (m + 1) more
holds m (Hold file count ∷ more) = record { file = file; count = count; after = m } ∷ holds m more

-- the queries of a file, each with the greatest count of the `wait` lines before it; `low` is that of those before them all
abbrev pub queries : {A : Type 0} → ℕ → List (AskLine A) → List (A × ℕ)
queries low [] = []
queries low (Ask key ∷ more) = (key, low) ∷ queries low more
queries low (Wait count ∷ more) = queries (max low count) more

-- the greatest place of answer i of file f: the least number of updates before a `hold` for it, or the number of all updates
abbrev pub greatest : ℕ → ℕ → ℕ → List HoldLine → ℕ
greatest all f i [] = all
greatest all f i (h ∷ more) = if (h.file == f) && nat_le i h.count then min h.after (greatest all f i more) else greatest all f i more

-- the queries of file f with both bounds, numbered from i on
abbrev pub bounded : {A : Type 0} → ℕ → List HoldLine → ℕ → ℕ → List (A × ℕ) → List (Query A)
bounded all hs f i [] = []
bounded all hs f i (q ∷ more) = record { key = q.0; least = q.1; greatest = greatest all f i hs } ∷ bounded all hs f (i + 1) more

-- the queries of all files with their bounds, the files numbered from f on
abbrev pub bounded_files : {A : Type 0} → ℕ → List HoldLine → ℕ → List (List (AskLine A)) → List (List (Query A))
bounded_files all hs f [] = []
bounded_files all hs f (asks ∷ more) = bounded all hs f 1 (queries 0 asks) ∷ bounded_files all hs (f + 1) more

-- what a run is asked for: the updates, and the queries of each query file
pub record ScriptOf (C A : Type 0) : Type 0 where
  pub updates : List C
  pub files : List (List (Query A))

-- .. of a map
abbrev pub Script : Type 0 → Type 0
Script K = ScriptOf (Update K) K

-- .. of a list
abbrev pub ListScript : Type 0
ListScript = ScriptOf Edit (Unit {0})

-- what the lines of the update file and of the query files ask for
abbrev pub script_of : {C A : Type 0} → List (UpLine C) → List (List (AskLine A)) → ScriptOf C A
script_of ups asks = record { updates = updates ups; files = bounded_files (length (updates ups)) (holds 0 ups) 1 asks }

-- each query file says its lines, where these are taken and are spelt so
module _ {A : Type 0} (IsTaken : AskLine A → Type 0) (words_of : AskLine A → List (List ℕ)) where
  abbrev pub AsksSay : List (List ℕ) → List (List (Numbered (AskLine A))) → Type 0
  AsksSay [] [] = Unit {0}
  AsksSay (bytes ∷ files) (said ∷ more) = FileSays IsTaken words_of bytes said × AsksSay files more
  AsksSay _ _ = ⊥

-- the bytes of an update file and of query files mean this script, where these lines are taken and are spelt so
pub record MeansBy {C A : Type 0} (IsUp : UpLine C → Type 0) (up_words : UpLine C → List (List ℕ)) (IsAsk : AskLine A → Type 0) (ask_words : AskLine A → List (List ℕ)) (update_file : List ℕ) (query_files : List (List ℕ)) (script : ScriptOf C A) : Type 0 where
  pub ups : List (Numbered (UpLine C))
  pub asks : List (List (Numbered (AskLine A)))
  pub updates_said : FileSays IsUp up_words update_file ups
  pub queries_said : AsksSay IsAsk ask_words query_files asks
  pub asked : script ≡ script_of (said_of ups) (map said_of asks)

-- maps: keys and their spelling
module _ {K : Type 0} (IsKey : K → Type 0) (spelling : K → List ℕ) where
  abbrev pub QueriesSay : List (List ℕ) → List (List (Numbered (AskLine K))) → Type 0
  QueriesSay files asks = AsksSay (IsQueryLine IsKey) (query_words spelling) files asks

  abbrev pub Means : List ℕ → List (List ℕ) → Script K → Type 0
  Means update_file query_files script = MeansBy (IsUpdateLine IsKey) (update_words spelling) (IsQueryLine IsKey) (query_words spelling) update_file query_files script

-- lists
abbrev pub ViewsSay : List (List ℕ) → List (List (Numbered (AskLine (Unit {0})))) → Type 0
ViewsSay files asks = AsksSay IsViewLine view_words files asks

abbrev pub ListMeans : List ℕ → List (List ℕ) → ListScript → Type 0
ListMeans update_file query_files script = MeansBy IsEditLine edit_words IsViewLine view_words update_file query_files script
