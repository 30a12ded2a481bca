-- Lines of one kind, one for each item.
use Rattle.std.specs.Prelude.{◌≡◌, ℕ, ◌+◌, List, [], ◌∷◌, ◌++◌, codes, decimal, Vec, Result}
use Rattle.std.specs.Prelude.{Ok, Err}
use Rattle.std.specs.declared.alloc.AllocError.{AllocError}
use Rattle.std.specs.declared.alloc.Global.{Global}
use Rattle.ck_history.specs.declared.update.Reply.{Reply}
use Rattle.ck_text.specs.Words.{line}
use Rattle.ck_report.specs.declared.asked.Asked.{Asked}
use Rattle.ck_report.specs.Text.{reply_words, found_words}

-- the lines of the items, where so many lines stand before them; a line is made of its number and its item
abbrev pub numbered : {X : Type 0} → (ℕ → X → List ℕ) → ℕ → List X → List ℕ
numbered line_of before [] = []
numbered line_of before (x ∷ xs) = line_of (before + 1) x ++ numbered line_of (before + 1) xs

-- the lines of the answers of each file, the files numbered from f on; a line is made of its file, its number and its answer
abbrev pub files_text : {A : Type 0} → (ℕ → ℕ → A → List ℕ) → ℕ → List (List A) → List ℕ
files_text answer_line f [] = []
files_text answer_line f (answers ∷ files) = numbered (answer_line f) 0 answers ++ files_text answer_line (f + 1) files

-- the report of a run, of how its replies, its answers and the entries at the end are printed
abbrev pub run_text : {R A E : Type 0} → (ℕ → R → List ℕ) → (ℕ → ℕ → A → List ℕ) → (ℕ → E → List ℕ) → List R → List (List A) → List E → List ℕ
run_text reply_line answer_line entry_line replies files entries = numbered reply_line 0 replies ++ (files_text answer_line 1 files ++ (numbered entry_line 0 entries ++ line (codes "end" ∷ [])))

-- `u I REPLY`
abbrev pub reply_line : ℕ → Reply → List ℕ
reply_line i reply = line (codes "u" ∷ decimal i ∷ reply_words reply)

-- keys, each spelt by a word
module _ {K : Type 0} (spelling : K → List ℕ) where
  -- `q F I KEY = V` or `q F I KEY absent`
  abbrev pub answer_line : ℕ → ℕ → Asked K → List ℕ
  answer_line f i a = line (codes "q" ∷ decimal f ∷ decimal i ∷ spelling a.key ∷ found_words a.found)

  -- `t KEY = V`, which has no number
  abbrev pub pair_line : ℕ → K × ℕ → List ℕ
  pair_line i p = line (codes "t" ∷ spelling p.0 ∷ codes "=" ∷ decimal p.1 ∷ [])

-- the texts, one after another, of which none is wanting
abbrev pub AreTexts : List (Result (Vec ℕ Global) AllocError) → List ℕ → Type 0
AreTexts [] text = text ≡ []
AreTexts (Ok t ∷ ts) text = (later : List ℕ) × (text ≡ t.items ++ later) × AreTexts ts later
AreTexts (Err e ∷ ts) text = ⊥
