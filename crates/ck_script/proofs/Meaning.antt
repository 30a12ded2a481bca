-- Each file means one thing.
use Rattle.std.specs.Prelude.{◌≡◌, ℕ, List}
use Rattle.ck_history.specs.declared.update.Update.{Update}
use Rattle.ck_script.specs.declared.line.Numbered.{Numbered}
use Rattle.ck_script.specs.declared.line.UpLine.{UpLine}
use Rattle.ck_script.specs.declared.line.AskLine.{AskLine}
use Rattle.ck_script.specs.Grammar.{FileSays, update_words, query_words, IsUpdateLine, IsQueryLine}
use Rattle.ck_script.specs.Unique.{one_update_line, update_speaks, one_query_line, query_speaks}
use Rattle.ck_script.proofs.Saying.{says_one}

module _ {K : Type 0} (IsKey : K → Type 0) (spelling : K → List ℕ) (one_key : (j k : K) → IsKey j → IsKey k → spelling j ≡ spelling k → j ≡ k) where
  -- an update file says at most one thing
  pub one_update_file : (bytes : List ℕ) (a b : List (Numbered (UpLine (Update K)))) → FileSays (IsUpdateLine IsKey) (update_words spelling) bytes a → FileSays (IsUpdateLine IsKey) (update_words spelling) bytes b → a ≡ b
  one_update_file bytes a b says_a says_b =
      says_one (IsUpdateLine IsKey) (update_words spelling) (one_update_line IsKey spelling one_key) (update_speaks IsKey spelling) bytes a b says_a says_b

  -- a query file says at most one thing
  pub one_query_file : (bytes : List ℕ) (a b : List (Numbered (AskLine K))) → FileSays (IsQueryLine IsKey) (query_words spelling) bytes a → FileSays (IsQueryLine IsKey) (query_words spelling) bytes b → a ≡ b
  one_query_file bytes a b says_a says_b =
      says_one (IsQueryLine IsKey) (query_words spelling) (one_query_line IsKey spelling one_key) (query_speaks IsKey spelling) bytes a b says_a says_b
