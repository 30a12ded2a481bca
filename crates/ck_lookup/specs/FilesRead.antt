-- What it comes to that a script file is read, whose lines are `items` of what is kept of it.
use Rattle.std.specs.Prelude.{◌≡◌, ℕ, ◌+◌, Bool, List, slice_get, Some, Result, MatchResult, map}
use Rattle.std.specs.Prelude.{Vec}
use Rattle.std.specs.List.{list_any}
use Rattle.std.specs.declared.alloc.Global.{Global}
use Rattle.ck_script.specs.declared.line.Numbered.{Numbered}
use Rattle.ck_script.specs.declared.line.UpLine.{UpLine}
use Rattle.ck_script.specs.declared.line.AskLine.{AskLine}
use Rattle.ck_script.specs.Fronts.{is_wait, any_hold, any_wait}
use Rattle.ck_script.specs.Grammar.{FileSays}
use Rattle.ck_lookup.specs.Kinds.{Kind}
use Rattle.ck_script.specs.Script.{AsksSay}
use Rattle.ck_lookup.specs.declared.outcome.Outcome.{Outcome}
use Rattle.ck_lookup.specs.Running.{IsRefusedUpdates, IsRefusedQueryFile, IsRefusedQueries}

-- the lines of the update file, and whether one of them is a `hold`, or the outcome of a run that refuses it
abbrev pub IsUpdateFileRead : {C Q U : Type 0} → Kind C Q → (U → List (Numbered (UpLine C))) → List ℕ → Result (U × Bool) Outcome → Type 0
IsUpdateFileRead kind items bytes r = MatchResult r (λ x. FileSays kind.updates.is_line kind.updates.words bytes (items x.0) × (x.1 ≡ any_hold (items x.0))) (IsRefusedUpdates kind bytes)

module _ {C Q F : Type 0} (kind : Kind C Q) (items : F → List (Numbered (AskLine Q))) where
  -- the lines of the query file with this number, and whether one of them is a `wait`, or the outcome of a run that refuses it
  abbrev pub IsQueryFileRead : ℕ → List ℕ → Result (F × Bool) Outcome → Type 0
  IsQueryFileRead number bytes r =
      MatchResult r (λ x. FileSays kind.queries.is_line kind.queries.words bytes (items x.0) × (x.1 ≡ list_any (λ l. is_wait l.what) (items x.0))) (IsRefusedQueryFile kind number bytes)

  -- the lines of each query file, and whether one of them is a `wait`, or the outcome of a run that refuses the first that it refuses
  abbrev pub AreQueryFilesRead : List (List ℕ) → Result (Vec F Global × Bool) Outcome → Type 0
  AreQueryFilesRead files r = MatchResult r (λ x. AsksSay kind.queries.is_line kind.queries.words files (map items x.0.items) × (x.1 ≡ any_wait (map items x.0.items))) (IsRefusedQueries kind files)

  -- each of the query files is read, by itself
  abbrev pub AreReadEach : List (List ℕ) → List (Result (F × Bool) Outcome) → Type 0
  AreReadEach files said = (i : ℕ) (bytes : List ℕ) (one : Result (F × Bool) Outcome) → slice_get files i ≡ Some bytes → slice_get said i ≡ Some one → IsQueryFileRead (i + 1) bytes one
