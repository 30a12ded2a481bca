-- The kind `list`.
use Rattle.std.specs.Prelude.{ℕ, List}
use Rattle.ck_history.specs.declared.edit.Edit.{Edit}
use Rattle.ck_history.specs.declared.edit.EditReply.{EditReply}
use Rattle.ck_script.specs.ListGrammar.{IsEditLine, edit_words, edit_verbs, IsViewLine, view_words, view_verbs, HasListFault}
use Rattle.ck_script.specs.Views.{many_fault}
use Rattle.ck_report.specs.ListText.{list_text}
use Rattle.ck_jobs.specs.Lists.{list_object}
use Rattle.ck_lookup.specs.Kinds.{Kind}

-- Updates are edits of a pending list and its commits. They are replied to by the lists of one thread, and each query is answered by all
-- members of the committed one
abbrev pub list_kind : Kind Edit (Unit {0})
list_kind = record {
  updates = record { is_line = IsEditLine; words = edit_words; is_fault = HasListFault edit_verbs };
  queries = record { is_line = IsViewLine; words = view_words; is_fault = HasListFault view_verbs };
  surplus = many_fault;
  Reply = EditReply;
  Answer = List ℕ;
  State = List ℕ;
  object = list_object;
  text = λ replies files answers members. list_text replies answers members;
}
