-- What is known of a table's tokens, step by step: what a step answers, and what that adds to their events.
use Rattle.std.proofs.Common.{◌≡◌, ℕ, ⊎_elim, inl, inr, true, nat_lt, cond, List, [], ◌∷◌, ◌++◌, map, append-nil, refl, ap, ◌∙◌, arith}
use Rattle.std.specs.Prelude.{Option}
use Rattle.std.proofs.lemmas.List.{map-append}
use Rattle.ck_run.specs.declared.account.Step.{Step}
use Rattle.ck_run.specs.declared.account.Step.TheVariants.{Load}
use Rattle.ck_run.specs.declared.account.Entry.{Entry}
use Rattle.ck_run.specs.Run.{call, further}
use Rattle.ck_run.specs.Tokens.{adding}
use Rattle.ck_run.proofs.Lists.{first_is}
use Rattle.ck_epoch.specs.State.{Origin, Token}
use Rattle.ck_signal.specs.declared.signals.Signals.{Signals}
use Rattle.ck_signal.specs.Words.{reached}
use Rattle.ck_history.specs.declared.log.Look.{Look}
use Rattle.ck_history.specs.declared.log.LogEntry.{LogEntry}
use Rattle.ck_history.specs.declared.update.Update.{Update}
use Rattle.ck_history.specs.declared.update.Reply.{Reply}
use Rattle.ck_events.specs.Events.{answer_events, update_events}
use Rattle.ck_events.proofs.Bounded.{is_log}
use Rattle.ck_events.proofs.Placed.{AddsOne}
use Rattle.ck_events.proofs.Steps.{AreSilent, AreQuiet, OpensNone, further_quiet}
use Rattle.ck_events.proofs.Steps as steps
use Rattle.ck_htlaw.specs.declared.client.HtClient.{HtClient}
use Rattle.ck_htlaw.specs.Calls.{look}
use Rattle.ck_htlaw.specs.Client.{Answers, table, answers_next, looks_next, logged, due_next}
use Rattle.ck_htlaw.specs.Host.{lies}
use Rattle.ck_htlaw.specs.Known.{knows}
use Rattle.ck_htlaw.specs.Law.{look_state_of}
use Rattle.ck_htlaw.specs.Look.{LookState, no_look}
use Rattle.ck_htlaw.specs.Reached.{with_signals}
use Rattle.ck_htlaw.specs.Stages.{Stage, idle}
use Rattle.ck_htlaw.specs.Table.{Layout, LocalState, writer, reader}
use Rattle.ck_htread.specs.Reading.{Looks, look_entries, answered_by}
use Rattle.ck_htread.specs.Scan.{scan_loads}
use Rattle.ck_htread.proofs.Answering.{answers_or_not}
use Rattle.ck_htwrite.specs.Writes.{opened}
use Rattle.ck_ht.specs.Ends.{IsIdle}
use Rattle.ck_ht.specs.Events.{IsLogOf, is_no_look, is_idle_stage, is_idle_writer, replied, known, pass_events, hand_events}

-- a reader is between two looks exactly where it has no look
pub no_look_is : (g : LookState) → is_no_look g ≡ true → g ≡ no_look
no_look_is no_look is = refl
no_look_is g is = absurd cc

-- and the writer is between two updates
pub idle_is : (h : LocalState) → is_idle_writer h ≡ true → IsIdle h
idle_is (writer p) is = (p, refl, stage_is p.stage is)
  where
    stage_is : (g : Stage) → is_idle_stage g ≡ true → g ≡ idle
    stage_is idle is = refl
    stage_is g is = absurd cc
idle_is (reader y) is = absurd cc

-- the updates of a log, and their replies
updates_of : (log : List (LogEntry ℕ)) → map (λ (x : Update ℕ × Reply). x.0) (map replied log) ≡ map (λ (e : LogEntry ℕ). e.update) log
updates_of [] = refl
updates_of (e ∷ es) = ap (λ (us : List (Update ℕ)). e.update ∷ us) (updates_of es)

replies_of : (log : List (LogEntry ℕ)) → map (λ (x : Update ℕ × Reply). x.1) (map replied log) ≡ map (λ (e : LogEntry ℕ). e.reply) log
replies_of [] = refl
replies_of (e ∷ es) = ap (λ (rs : List Reply). e.reply ∷ rs) (replies_of es)

pub opened_quiet : (opens : List ℕ) (ss : List Step) → OpensNone opens → AreQuiet (opened opens ss)
opened_quiet opens [] h = tt
opened_quiet opens (s ∷ ss) h = (h, further_quiet ss)

module _ (o : Origin (Signals HtClient)) where
  abbrev l : Layout
  l = lies with_signals o

  -- the answers and the log only grow
  pub answers_grow : (a : Answers) (e : Entry) → (more : List (ℕ × Option ℕ)) × ((known o).answers ((known o).next a e) ≡ (known o).answers a ++ more)
  answers_grow a e = (looks_next l a.local e, refl)

  pub log_grows : (a : Answers) (e : Entry) → (more : List (Update ℕ × Reply)) × ((known o).log ((known o).next a e) ≡ (known o).log a ++ more)
  log_grows a e = let more : List (LogEntry ℕ) = cond (nat_lt (logged a.local) (logged (answers_next l a e).local)) (due_next l a.local e a.due ∷ []) [] in (map replied more, map-append replied a.log more)

  -- a reader's step answers at most one look
  pub adds_one : (a : Answers) (e : Entry) → AddsOne table o (known o) a e
  adds_one a e = ⊎_elim
      (λ none. inl (ap (λ (xs : List (ℕ × Option ℕ)). a.looks ++ xs) none ∙ append-nil a.looks))
      (λ w. inr ((w.0, w.1), ap (λ (xs : List (ℕ × Option ℕ)). a.looks ++ xs) w.2, λ is_out. w.3 (no_look_is (look_state_of a.local) is_out)))
      (answers_or_not l a.local e)

  -- entries that are none of `answered` add the updates by which the log grows
  pub updates_are_events : (t u : Token (Signals HtClient)) (es : List Entry) (new : List (LogEntry ℕ)) → u ≡ adding t es → AreQuiet es → (knows with_signals o u).log ≡ (knows with_signals o t).log ++ new
      → hand_events o u ≡ hand_events o t ++ update_events (map replied new)
  updates_are_events t u es new made quiet log = steps.updates_are_events table o (known o) log_grows t u es (map replied new) made quiet (ap (map replied) log ∙ map-append replied (knows with_signals o t).log new)

  -- the updates among a writer's events are those of its log
  pub is_log_of : (w : Token (Signals HtClient)) → IsLogOf (hand_events o w) (knows with_signals o w).log
  is_log_of w = let h = is_log table o (known o) log_grows w refl in (h.0 ∙ updates_of (knows with_signals o w).log, h.1 ∙ replies_of (knows with_signals o w).log)

  -- the entries of a look
  further_silent : (ss : List Step) → AreSilent table o (map further ss)
  further_silent [] = tt
  further_silent (s ∷ ss) = (λ wanted found e f. cc, further_silent ss)

  look_silent : (key : ℕ) (s : Step) (ss : List Step) → AreSilent table o (call look (key ∷ []) (s ∷ ss))
  look_silent key s ss = ((λ wanted found e f. let z : look ≡ reached = first_is look reached (key ∷ []) (wanted ∷ []) e in absurd (omega arith)), further_silent ss)

  -- what a look adds
  pub look_events : (t u : Token (Signals HtClient)) (key : ℕ) (result : Look) → Looks with_signals o key t result u → (knows with_signals o u).looks ≡ (knows with_signals o t).looks ++ answered_by key result
      → pass_events o u ≡ pass_events o t ++ answer_events (answered_by key result)
  look_events t u key result h looks = steps.answers_are_events table o (known o) answers_grow t u (look_entries with_signals o key h.root h.before h.slots h.after) (answered_by key result) h.steps
      (look_silent key (Load l.base h.root) (Load (l.counter h.root) h.before ∷ (scan_loads l h.root key 0 h.slots ++ Load (l.counter h.root) h.after ∷ []))) looks
