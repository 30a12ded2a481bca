-- What was asked, with what was answered.
use Rattle.std.specs.Prelude.{ℕ, List, [], ◌∷◌, Option}
use Rattle.ck_script.specs.declared.line.AskLine.{AskLine}
use Rattle.ck_script.specs.declared.line.AskLine.TheVariants.{Ask, Wait}
use Rattle.ck_report.specs.declared.asked.Asked.{Asked}

module _ {K : Type 0} where
  -- the queries among a file's lines, each with the next answer
  abbrev pub asked_lines : List (AskLine K) → List (Option ℕ) → List (Asked K)
  asked_lines [] answers = []
  asked_lines (Wait n ∷ lines) answers = asked_lines lines answers
  asked_lines (Ask key ∷ lines) [] = []
  asked_lines (Ask key ∷ lines) (answer ∷ answers) = record { key = key; found = answer } ∷ asked_lines lines answers

  -- the same of each file
  abbrev pub asked_of_files : List (List (AskLine K)) → List (List (Option ℕ)) → List (List (Asked K))
  asked_of_files (lines ∷ files) (answers ∷ more) = asked_lines lines answers ∷ asked_of_files files more
  asked_of_files _ _ = []
