-- What the signals of an array count are its own log and answers, in every true run.
use Rattle.std.proofs.Common.{◌≡◌, ℕ, suc, ◌≤◌, true, List, ◌++◌, length, sym, ap, ◌∙◌, arith, add-zero}
use Rattle.std.proofs.lemmas.List.{length-map}
use Rattle.ck_run.specs.Run.{Run, account}
use Rattle.ck_history.specs.declared.edit.Edit.{Edit}
use Rattle.ck_history.specs.Lists.{empty_lists}
use Rattle.ck_epoch.specs.State.{Origin, base_of}
use Rattle.ck_signal.specs.declared.signals.Signals.{Signals}
use Rattle.ck_signal.specs.Told.{IsRunOf, answers_during}
use Rattle.ck_events.proofs.Placed.{known_in, given_in}
use Rattle.ck_arraylaw.specs.declared.client.ArrayClient.{ArrayClient}
use Rattle.ck_arraylaw.specs.Array.{CommitStage, LocalState, edits_at}
use Rattle.ck_arraylaw.specs.Client.{array, local_after, logged, answers_of}
use Rattle.ck_arraylaw.specs.Law.{linearized, edits_by as edits_of_local}
use Rattle.ck_arraylaw.specs.Reached.{with_signals}
use Rattle.ck_array.specs.Answered.{answers_in}
use Rattle.ck_array.specs.Events.{answer_of, known}
use Rattle.ck_array.proofs.EventSteps.{IsIdle, idle_is}
use Rattle.ck_arraylaw.proofs.Reaching.{replied_long}

-- a writer between two edits has all edits in its log that have taken place
pub settled : (h : LocalState) → IsIdle h → edits_of_local h ≡ logged h
settled h free = ap edits_of_local free.1 ∙ (ap (λ (g : CommitStage). edits_at g free.0.log) free.2 ∙ sym (ap logged free.1))

module _ (o : Origin (Signals ArrayClient)) where
  -- an answer with its query
  pub answers_long : (run : Run) (r : ℕ) → length (given_in array o (known o) run r) ≡ length (answers_in with_signals o run r)
  answers_long run r = length-map (answers_in with_signals o run r) answer_of

  pub few_given : (run : Run) (r : ℕ) → answers_during array o run r ≤ length (given_in array o (known o) run r)
  few_given run r =
      let same : answers_during array o run r ≡ length (answers_in with_signals o run r) = ap (λ (first : ℕ). length (answers_of (local_after (base_of o) first (suc r) (account (suc r) run)))) (sym (add-zero (base_of o))) in
      let long = answers_long run r in omega arith

  pub log_is_whole : (past rest : Run) → IsRunOf array o (past ++ rest) → (known o).is_idle (known_in array o (known o) past 0) ≡ true → linearized with_signals o past ≤ length ((known o).log (known_in array o (known o) past 0))
  log_is_whole past rest t free =
      let h : LocalState = known_in array o (known o) past 0 in
      let all = ap (λ (l : List Edit). length l) (settled h (idle_is h free)) in let long = replied_long empty_lists (logged h) in omega arith
