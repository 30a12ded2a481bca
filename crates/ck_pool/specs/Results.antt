-- What a job comes to, of whatever structure.
use Rattle.std.specs.Prelude.{◌≡◌, ℕ, List, length, map, Option}
use Rattle.std.specs.Ordering.{nat_cmp}
use Rattle.ck_history.specs.declared.update.Update.{Update}
use Rattle.ck_history.specs.declared.update.Reply.{Reply}
use Rattle.ck_history.specs.Map.{Map, after, answer_after, replies}
use Rattle.ck_history.specs.Legal.{AllLegal}
use Rattle.ck_script.specs.declared.line.Numbered.{Numbered}
use Rattle.ck_script.specs.declared.line.UpLine.{UpLine}
use Rattle.ck_script.specs.declared.line.AskLine.{AskLine}
use Rattle.ck_script.specs.Script.{said_of, ScriptOf, Script, script_of}
use Rattle.ck_pool.specs.declared.map_results.MapResults.{MapResults}

-- An object of one thread: its replies to updates, and after the first p of them what it answers to a query, and what it is
pub record SequentialObject (C R Q A S : Type 0) : Type 0 where
  pub replies : List C → List R
  pub answer_after : List C → ℕ → Q → A
  pub after : List C → ℕ → S

-- What a job over the object comes to. The replies are those of the object, the answers of each file are legal, and what is left is the object
-- after all updates
pub record AreResults {C R Q A S : Type 0} (object : SequentialObject C R Q A S) (script : ScriptOf C Q) (rs : List R) (answers : List (List A)) (left : S) : Type 0 where
  pub replied : rs ≡ object.replies script.updates
  pub legal : AllLegal (length script.updates) (object.answer_after script.updates) script.files answers
  pub final : left ≡ object.after script.updates (length script.updates)

-- the map of at most `most` pairs
abbrev pub map_of : ℕ → SequentialObject (Update ℕ) Reply ℕ (Option ℕ) (Map ℕ)
map_of most = record { replies = replies nat_cmp most; answer_after = answer_after nat_cmp most; after = after nat_cmp most }

-- what the lines of a job ask for
abbrev pub job_script : {C Q : Type 0} → List (Numbered (UpLine C)) → List (List (Numbered (AskLine Q))) → ScriptOf C Q
job_script ups asks = script_of (said_of ups) (map said_of asks)

abbrev pub AreMapResults : ℕ → Script ℕ → MapResults → Type 0
AreMapResults most script x = AreResults (map_of most) script x.replies.items (map (λ file. file.items) x.answers.items) x.pairs.items
