-- What a run prints: the one statement that everything here is for.
use Rattle.std.specs.Prelude.{◌≡◌, ℕ, List, length}
use Rattle.ck_history.specs.Legal.{AllLegal}
use Rattle.ck_script.specs.Script.{ScriptOf, MeansBy}
use Rattle.ck_lookup.specs.Kinds.{Kind}

module _ {C Q : Type 0} (kind : Kind C Q) where
  -- The text is a report of a script: it gives each update's reply by the object of one thread, each query's answer by that object after some
  -- number of updates, legal for its file, and what the object is after all updates
  pub record IsTextOf (script : ScriptOf C Q) (text : List ℕ) : Type 0 where
    pub answers : List (List kind.Answer)
    pub legal : AllLegal (length script.updates) (kind.object.answer_after script.updates) script.files answers
    pub printed : text ≡ kind.text
        (kind.object.replies script.updates)
        script.files
        answers
        (kind.object.after script.updates (length script.updates))

  -- the text is a report of the script that an update file and query files mean
  pub record IsReportOf (update_file : List ℕ) (query_files : List (List ℕ)) (text : List ℕ) : Type 0 where
    pub script : ScriptOf C Q
    pub meant : MeansBy kind.updates.is_line kind.updates.words kind.queries.is_line kind.queries.words update_file query_files script
    pub report : IsTextOf script text
