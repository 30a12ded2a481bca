-- The parts of lines that are written from their end.
use Rattle.std.specs.Prelude.{ℕ, List, [], ◌∷◌, ◌++◌, Option, Some, None, codes, decimal}
use Rattle.ck_history.specs.declared.update.Reply.{Reply}
use Rattle.ck_history.specs.declared.update.Reply.TheVariants.{Fresh, Was, Has, Missing, Tidied, Full}

-- a value after these bytes, and the end of its line
abbrev pub value_tail : List ℕ → ℕ → List ℕ → List ℕ
value_tail before v after = before ++ (decimal v ++ 10 ∷ after)

-- what stands after a reply's number
abbrev pub reply_tail : Reply → List ℕ → List ℕ
reply_tail Fresh after = codes " fresh\n" ++ after
reply_tail (Was v) after = value_tail (codes " was ") v after
reply_tail (Has v) after = value_tail (codes " has ") v after
reply_tail Missing after = codes " missing\n" ++ after
reply_tail Tidied after = codes " tidied\n" ++ after
reply_tail Full after = codes " full\n" ++ after

-- what stands after an answer's key
abbrev pub found_tail : Option ℕ → List ℕ → List ℕ
found_tail (Some v) after = value_tail (codes " = ") v after
found_tail None after = codes " absent\n" ++ after

-- words, each after a space
abbrev pub after_words : List (List ℕ) → List ℕ
after_words [] = []
after_words (w ∷ ws) = 32 ∷ (w ++ after_words ws)
