-- An array under the pool.
use Rattle.std.proofs.Common.{◌≡◌, List, length, map, sym, ap, subst, ◌∙◌, arith}
use Rattle.std.specs.Prelude.{All, ℕ}
use Rattle.std.proofs.lemmas.List.{take_all}
use Rattle.ck_run.specs.Tokens.{table}
use Rattle.ck_epoch.specs.State.{Token}
use Rattle.ck_epoch.specs.Calls.{rec_of}
use Rattle.ck_epoch.specs.Ends.{Pass}
use Rattle.ck_signal.specs.declared.signals.Signals.{Signals}
use Rattle.ck_history.specs.declared.edit.Edit.{Edit}
use Rattle.ck_history.specs.declared.edit.EditReply.{EditReply}
use Rattle.ck_history.specs.Events.{updates_in, replies_in}
use Rattle.ck_history.specs.Lists.{empty_lists, lists_after_from, committed_after, edit_replies}
use Rattle.ck_history.specs.Places.{AreBoundedFrom}
use Rattle.ck_arraylaw.specs.declared.client.ArrayClient.{ArrayClient}
use Rattle.ck_array.specs.Closed.{ArePlacedInLog, IsClosedArray}
use Rattle.ck_array.specs.Ends.{edits_by}
use Rattle.ck_array.specs.Events.{Writing, pass_events, hand_events}
use Rattle.ck_script.specs.declared.line.Numbered.{Numbered}
use Rattle.ck_script.specs.declared.line.UpLine.{UpLine}
use Rattle.ck_script.specs.declared.line.AskLine.{AskLine}
use Rattle.ck_script.specs.Script.{said_of, script_of}
use Rattle.ck_pool.specs.Runs.{UpdatesRan}
use Rattle.ck_pool.specs.Places.{AreUnused}
use Rattle.ck_pool.specs.Served.{AreInOrder, AreServed}
use Rattle.ck_pool.specs.Results.{AreResults}
use Rattle.ck_jobs.proofs.Placing.{IsPlacedEye, job_results}
use Rattle.ck_jobs.specs.OnArray.{SharedList, pass_eye}
use Rattle.ck_jobs.specs.Lists.{list_object}

-- A job was run over a new array, which was closed then
module _ (a : SharedList) (w : Token (Signals ArrayClient)) (made : table w ≡ a) (backs : List (Pass (Signals ArrayClient))) (words : List ℕ) (closed : IsClosedArray w backs words) where
  abbrev log : List Edit
  log = edits_by a.origin w

  abbrev done : Writing
  done = hand_events a.origin w

  abbrev edits : List Edit
  edits = updates_in done

  -- what is known of the array, by its own origin
  edits_are : edits ≡ log
  edits_are = subst (λ (b : SharedList). updates_in (hand_events b.origin w) ≡ edits_by b.origin w) made closed.logged.0

  replied : replies_in done ≡ edit_replies edits
  replied =
      subst (λ (b : SharedList). replies_in (hand_events b.origin w) ≡ edit_replies (edits_by b.origin w)) made closed.logged.1
      ∙ ap (λ (es : List Edit). edit_replies es) (sym edits_are)

  bounded : AreBoundedFrom closed.places 0 done
  bounded = subst (λ (b : SharedList). AreBoundedFrom closed.places 0 (hand_events b.origin w)) made closed.bounded

  placed : All (IsPlacedEye (pass_eye a) (length edits) (λ p q. committed_after edits p) closed.places) backs
  placed =
      subst (λ (es : List Edit). All (IsPlacedEye (pass_eye a) (length es) (λ p q. committed_after es p) closed.places) backs) (sym edits_are)
      (subst (λ (b : SharedList). All (λ (p : Pass (Signals ArrayClient)). ArePlacedInLog (edits_by b.origin w) (pass_events b.origin p.token) (closed.places (rec_of p.token))) backs) made closed.placed)

  left : (lists_after_from empty_lists log).committed ≡ committed_after edits (length edits)
  left = ap (λ (es : List Edit). (lists_after_from empty_lists es).committed) (sym edits_are ∙ sym (take_all (length edits) edits (omega arith)))

  pub array_results : (ups : List (Numbered (UpLine Edit))) (rs : List EditReply) → UpdatesRan ups done rs
      → (given : List (Pass (Signals ArrayClient))) (asks : List (List (Numbered (AskLine (Unit {0}))))) (bss : List (List (List ℕ)))
      → AreUnused (pass_eye a) given → AreServed (pass_eye a) given asks backs bss → AreInOrder (pass_eye a) 0 backs
      → (members : List ℕ) → members ≡ (lists_after_from empty_lists log).committed
      → AreResults list_object (script_of (said_of ups) (map said_of asks)) rs bss members
  array_results ups rs ran given asks bss unused served order members are =
      job_results list_object (pass_eye a) ups done rs ran given asks backs bss unused served order replied closed.places bounded placed members (are ∙ left)
