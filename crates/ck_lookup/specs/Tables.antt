-- The kind `table`.
use Rattle.std.specs.Prelude.{ℕ, List, [], ◌∷◌, Option, None, decimal}
use Rattle.ck_history.specs.Key.{IsKey}
use Rattle.ck_history.specs.Legal.{Query}
use Rattle.ck_history.specs.Map.{Map}
use Rattle.ck_history.specs.declared.update.Update.{Update}
use Rattle.ck_history.specs.declared.update.Reply.{Reply}
use Rattle.ck_script.specs.Grammar.{IsUpdateLine, update_words, update_verbs, IsQueryLine, query_words, query_verbs, HasFault}
use Rattle.ck_script.specs.Keys.{IsTableKeyFault}
use Rattle.ck_report.specs.declared.asked.Asked.{Asked}
use Rattle.ck_report.specs.Text.{report_text}
use Rattle.ck_pool.specs.Results.{map_of}
use Rattle.ck_jobs.specs.Results.{most_pairs}
use Rattle.ck_lookup.specs.Kinds.{Kind}

-- how many pairs a table may have: 262,144
abbrev pub capacity : ℕ
capacity = most_pairs

-- each query's key with its answer
abbrev pub asked : List (Query ℕ) → List (Option ℕ) → List (Asked ℕ)
asked (q ∷ queries) (answer ∷ answers) = record { key = q.key; found = answer } ∷ asked queries answers
asked _ _ = []

-- the same of each file
abbrev pub all_asked : List (List (Query ℕ)) → List (List (Option ℕ)) → List (List (Asked ℕ))
all_asked (queries ∷ files) (answers ∷ more) = asked queries answers ∷ all_asked files more
all_asked _ _ = []

-- Updates are of keys and values. They are replied to, and queries are answered, by the map of one thread of at most `capacity` pairs
abbrev pub table_kind : Kind (Update ℕ) ℕ
table_kind = record {
  updates = record { is_line = IsUpdateLine IsKey; words = update_words decimal; is_fault = HasFault IsKey decimal IsTableKeyFault update_verbs };
  queries = record { is_line = IsQueryLine IsKey; words = query_words decimal; is_fault = HasFault IsKey decimal IsTableKeyFault query_verbs };
  surplus = λ asks. None;
  Reply = Reply;
  Answer = Option ℕ;
  State = Map ℕ;
  object = map_of capacity;
  text = λ replies files answers pairs. report_text decimal replies (all_asked files answers) pairs;
}
