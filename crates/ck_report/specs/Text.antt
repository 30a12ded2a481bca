-- The text of a report, line by line.
use Rattle.std.specs.Prelude.{ℕ, ◌+◌, List, [], ◌∷◌, ◌++◌, Option, Some, None, codes, decimal}
use Rattle.ck_history.specs.declared.update.Reply.{Reply}
use Rattle.ck_history.specs.declared.update.Reply.TheVariants.{Fresh, Was, Has, Missing, Tidied, Full}
use Rattle.ck_text.specs.Words.{line}
use Rattle.ck_report.specs.declared.asked.Asked.{Asked}

-- what a reply is called
abbrev pub reply_words : Reply → List (List ℕ)
reply_words Fresh = codes "fresh" ∷ []
reply_words (Was v) = codes "was" ∷ decimal v ∷ []
reply_words (Has v) = codes "has" ∷ decimal v ∷ []
reply_words Missing = codes "missing" ∷ []
reply_words Tidied = codes "tidied" ∷ []
reply_words Full = codes "full" ∷ []

-- `u I REPLY` for each update, numbered from i on
abbrev pub reply_lines : ℕ → List Reply → List ℕ
reply_lines i [] = []
reply_lines i (reply ∷ replies) = line (codes "u" ∷ decimal i ∷ reply_words reply) ++ reply_lines (i + 1) replies

-- what was found
abbrev pub found_words : Option ℕ → List (List ℕ)
found_words (Some v) = codes "=" ∷ decimal v ∷ []
found_words None = codes "absent" ∷ []

-- keys, each spelt by a word
module _ {K : Type 0} (spelling : K → List ℕ) where
  -- `q F I KEY = V` or `q F I KEY absent` for each answer of file f, numbered from i on
  abbrev pub answer_lines : ℕ → ℕ → List (Asked K) → List ℕ
  answer_lines f i [] = []
  answer_lines f i (a ∷ answers) = line (codes "q" ∷ decimal f ∷ decimal i ∷ spelling a.key ∷ found_words a.found) ++ answer_lines f (i + 1) answers

  -- the answers of each file, the files numbered from f on
  abbrev pub file_lines : ℕ → List (List (Asked K)) → List ℕ
  file_lines f [] = []
  file_lines f (answers ∷ files) = answer_lines f 1 answers ++ file_lines (f + 1) files

  -- `t KEY = V` for each pair
  abbrev pub pair_lines : List (K × ℕ) → List ℕ
  pair_lines [] = []
  pair_lines (p ∷ pairs) = line (codes "t" ∷ spelling p.0 ∷ codes "=" ∷ decimal p.1 ∷ []) ++ pair_lines pairs

  -- the report of replies, of each query file's answers and of the pairs at the end
  abbrev pub report_text : List Reply → List (List (Asked K)) → List (K × ℕ) → List ℕ
  report_text replies files pairs = reply_lines 1 replies ++ (file_lines 1 files ++ (pair_lines pairs ++ line (codes "end" ∷ [])))
