-- What is known of an array's tokens, step by step: what a step answers, and what that adds to their events.
use Rattle.std.proofs.Common.{◌≡◌, ℕ, suc, ⊎_elim, inl, inr, true, List, [], ◌∷◌, ◌++◌, map, refl, sym, ap, ◌∙◌, subst}
use Rattle.std.proofs.lemmas.List.{map-append}
use Rattle.ck_run.specs.declared.account.Entry.{Entry}
use Rattle.ck_run.specs.Machine.{state_after}
use Rattle.ck_run.specs.Tokens.{adding}
use Rattle.ck_history.specs.declared.edit.Edit.{Edit}
use Rattle.ck_history.specs.declared.edit.EditReply.{EditReply}
use Rattle.ck_history.specs.Lists.{ListState, list_step, empty_lists, lists_after_from, edit_replies_from}
use Rattle.ck_epoch.specs.State.{Origin, Token}
use Rattle.ck_signal.specs.declared.signals.Signals.{Signals}
use Rattle.ck_events.specs.Events.{answer_events, update_events}
use Rattle.ck_events.proofs.Steps.{AreSilent, AreQuiet}
use Rattle.ck_events.proofs.Steps as steps
use Rattle.ck_events.proofs.Placed.{AddsOne}
use Rattle.ck_arraylaw.specs.declared.client.ArrayClient.{ArrayClient}
use Rattle.ck_arraylaw.specs.Array.{CommitStage, between_calls, ReadStage, no_read, LocalState, WriterState, writer, reader}
use Rattle.ck_arraylaw.specs.Client.{array, first_reader, logged, answers_of, replied, replied_from}
use Rattle.ck_arraylaw.specs.Host.{floor_word, base_word}
use Rattle.ck_arraylaw.specs.Known.{knows}
use Rattle.ck_arraylaw.specs.Laws.{log_goes_on, answers_go_on, replied-append}
use Rattle.ck_arraylaw.specs.Reached.{with_signals}
use Rattle.ck_arraylaw.proofs.Tokens.{reader_after}
use Rattle.ck_array.specs.Ends.{edits_by}
use Rattle.ck_array.specs.Events.{answer_of, is_no_read, is_between, is_idle_writer, known, pass_events, hand_events}
use Rattle.ck_array.proofs.Answering.{step_adds}

-- a reader is between two calls exactly where it has no read
pub no_read_is : (g : ReadStage) → is_no_read g ≡ true → g ≡ no_read
no_read_is no_read is = refl
no_read_is g is = absurd cc

-- and the writer is between two edits
abbrev pub IsIdle : LocalState → Type 0
IsIdle h = (p : WriterState) × (h ≡ writer p) × (p.stage ≡ between_calls)

pub idle_is : (h : LocalState) → is_idle_writer h ≡ true → IsIdle h
idle_is (writer p) is = (p, refl, stage_is p.stage is)
  where
    stage_is : (g : CommitStage) → is_between g ≡ true → g ≡ between_calls
    stage_is between_calls is = refl
    stage_is g is = absurd cc
idle_is (reader y) is = absurd cc

-- the edits with their replies
pub edits_of : (s : ListState) (es : List Edit) → map (λ (x : Edit × EditReply). x.0) (replied_from s es) ≡ es
edits_of s [] = refl
edits_of s (e ∷ es) = ap (λ (us : List Edit). e ∷ us) (edits_of (list_step s e).0 es)

pub replies_of : (s : ListState) (es : List Edit) → map (λ (x : Edit × EditReply). x.1) (replied_from s es) ≡ edit_replies_from s es
replies_of s [] = refl
replies_of s (e ∷ es) = ap (λ (rs : List EditReply). (list_step s e).1 ∷ rs) (replies_of (list_step s e).0 es)

module _ (o : Origin (Signals ArrayClient)) where
  abbrev f : ℕ
  f = floor_word with_signals o

  abbrev b : ℕ
  b = base_word with_signals o

  answers_append : (h h' : LocalState) (more : List (List ℕ)) → answers_of h' ≡ answers_of h ++ more → (known o).answers h' ≡ (known o).answers h ++ map answer_of more
  answers_append h h' more is = ap (map answer_of) is ∙ map-append answer_of (answers_of h) more

  log_append : (h h' : LocalState) (more : List Edit) → logged h' ≡ logged h ++ more → (known o).log h' ≡ (known o).log h ++ replied_from (lists_after_from empty_lists (logged h)) more
  log_append h h' more is = ap replied is ∙ replied-append empty_lists (logged h) more

  -- the answers and the log only grow
  pub answers_grow : (h : LocalState) (e : Entry) → (more : List (Unit {0} × List ℕ)) × ((known o).answers ((known o).next h e) ≡ (known o).answers h ++ more)
  answers_grow h e = let g = answers_go_on f b h e in (map answer_of g.0, answers_append h ((known o).next h e) g.0 g.1)

  pub log_grows : (h : LocalState) (e : Entry) → (more : List (Edit × EditReply)) × ((known o).log ((known o).next h e) ≡ (known o).log h ++ more)
  log_grows h e = let g = log_goes_on f b h e in (replied_from (lists_after_from empty_lists (logged h)) g.0, log_append h ((known o).next h e) g.0 g.1)

  -- a reader's step answers at most one read
  pub adds_one : (r : ℕ) (done : List Entry) (e : Entry) → AddsOne array o (known o) (state_after (known o).next ((known o).start (suc r)) done) e
  adds_one r done e =
      let y = reader_after f b first_reader done in
      let h : LocalState = state_after (known o).next ((known o).start (suc r)) done in
      let at : h ≡ reader y.0 = y.1 in
      subst (λ (x : LocalState). AddsOne array o (known o) x e) (sym at)
      (⊎_elim (λ same. inl (ap (map answer_of) same))
      (λ w. inr (answer_of w.0, answers_append (reader y.0) ((known o).next (reader y.0) e) (w.0 ∷ []) w.1, λ is_out. w.3 (no_read_is y.0.stage is_out)))
      (step_adds f b y.0 e))

  -- entries that are none of `reached` add what they answer
  pub answers_are_events : (t u : Token (Signals ArrayClient)) (es : List Entry) (new : List (List ℕ)) → u ≡ adding t es → AreSilent array o es → answers_of (knows with_signals o u) ≡ answers_of (knows with_signals o t) ++ new
      → pass_events o u ≡ pass_events o t ++ answer_events (map answer_of new)
  answers_are_events t u es new made silent answers = steps.answers_are_events array o (known o) answers_grow t u es (map answer_of new) made silent (answers_append (knows with_signals o t) (knows with_signals o u) new answers)

  -- entries that are none of `answered` add the edits that they answer
  pub edits_are_events : (t u : Token (Signals ArrayClient)) (es : List Entry) (new : List Edit) → u ≡ adding t es → AreQuiet es → edits_by o u ≡ edits_by o t ++ new
      → hand_events o u ≡ hand_events o t ++ update_events (replied_from (lists_after_from empty_lists (edits_by o t)) new)
  edits_are_events t u es new made quiet log = steps.updates_are_events array o (known o) log_grows t u es (replied_from (lists_after_from empty_lists (edits_by o t)) new) made quiet (log_append (knows with_signals o t) (knows with_signals o u) new log)
