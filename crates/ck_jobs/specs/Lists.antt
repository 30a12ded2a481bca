-- What a job over lists comes to.
use Rattle.std.specs.Prelude.{ℕ, List, map}
use Rattle.ck_history.specs.declared.edit.Edit.{Edit}
use Rattle.ck_history.specs.declared.edit.EditReply.{EditReply}
use Rattle.ck_history.specs.Lists.{edit_replies, committed_after}
use Rattle.ck_script.specs.Script.{ListScript}
use Rattle.ck_pool.specs.Results.{SequentialObject, AreResults}
use Rattle.ck_jobs.specs.declared.list_results.ListResults.{ListResults}

-- the pending list and the committed one, of which readers are given the committed one
abbrev pub list_object : SequentialObject Edit EditReply (Unit {0}) (List ℕ) (List ℕ)
list_object = record { replies = λ es. edit_replies es; answer_after = λ es p q. committed_after es p; after = λ es p. committed_after es p }

-- a view is seen as the list of its members
abbrev pub AreListResults : ListScript → ListResults → Type 0
AreListResults script x = AreResults list_object script x.replies.items (map (λ file. file.items) x.answers.items) x.members.items
