-- What a kind of run is: the lines of its files, what its updates and queries mean, and the text of its reports.
use Rattle.std.specs.Prelude.{ℕ, List, Option}
use Rattle.ck_history.specs.Legal.{Query}
use Rattle.ck_script.specs.declared.fault.Why.{Why}
use Rattle.ck_script.specs.declared.check.RangeFault.{RangeFault}
use Rattle.ck_script.specs.declared.line.Numbered.{Numbered}
use Rattle.ck_script.specs.declared.line.UpLine.{UpLine}
use Rattle.ck_script.specs.declared.line.AskLine.{AskLine}
use Rattle.ck_pool.specs.Results.{SequentialObject}

-- the lines of a sort of file: which there are, the words of each, and what is wrong with words that are none's
pub record Sort (L : Type 0) : Type 1 where
  pub is_line : L → Type 0
  pub words : L → List (List ℕ)
  pub is_fault : List (List ℕ) → Why → Type 0

-- a kind of run, whose update files have calls of the type C, and whose query files have queries of the type Q
pub record Kind (C Q : Type 0) : Type 1 where
  pub updates : Sort (UpLine C)
  pub queries : Sort (AskLine Q)
  -- the first query that is one too many, over the query files in order
  pub surplus : List (List (Numbered (AskLine Q))) → Option RangeFault
  -- what replies to the updates, answers the queries, and is left after all updates
  pub Reply : Type 0
  pub Answer : Type 0
  pub State : Type 0
  pub object : SequentialObject C Reply Q Answer State
  -- the text of replies, of queries with their answers, and of what is left
  pub text : List Reply → List (List (Query Q)) → List (List Answer) → State → List ℕ
