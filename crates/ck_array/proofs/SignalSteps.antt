-- The signal calls of an array, and its sections: they leave its tokens where they stand, and are events or none.
use Rattle.std.proofs.Common.{◌≡◌, ℕ, ◌+◌, ◌<◌, ◌≤◌, ◌⊎◌, ⊎_elim, inl, inr, false, List, [], ◌∷◌, ◌++◌, length, map, refl, sym, ap, ◌∙◌, subst, arith, add-zero}
use Rattle.std.specs.Prelude.{Result}
use Rattle.ck_run.specs.declared.account.Step.{Step}
use Rattle.ck_run.specs.declared.account.Entry.{Entry}
use Rattle.ck_run.specs.Range.{word_of}
use Rattle.ck_run.specs.Tokens.{adding, did, number, origin}
use Rattle.ck_history.specs.declared.edit.Edit.{Edit}
use Rattle.ck_history.specs.declared.event.ReaderEvent.TheVariants.{Reached}
use Rattle.ck_history.specs.declared.event.WriterEvent.TheVariants.{Told}
use Rattle.ck_history.specs.Lists.{empty_lists}
use Rattle.ck_epoch.specs.State.{Origin, base_of}
use Rattle.ck_epoch.specs.Calls.{SameItemsAndEpoch, StepsBelow}
use Rattle.ck_epoch.specs.Ends.{Pass, Writer}
use Rattle.ck_signal.specs.declared.signals.Signals.{Signals}
use Rattle.ck_signal.specs.Words.{reaches, notes, marks, asks}
use Rattle.ck_signal.specs.Signals.{readers}
use Rattle.ck_signal.specs.Told.{applied_word_of, answered_word_of, writer_log, pass_answers}
use Rattle.ck_events.proofs.Steps.{silent_below, Reaches, reaches_once}
use Rattle.ck_events.proofs.Steps as steps
use Rattle.ck_arena.specs.Arena.{AreItems}
use Rattle.ck_arraylaw.specs.declared.client.ArrayClient.{ArrayClient}
use Rattle.ck_arraylaw.specs.Array.{LocalState, is_array_word}
use Rattle.ck_arraylaw.specs.Client.{array, local_after, logged, answers_of, replied}
use Rattle.ck_arraylaw.specs.Host.{floor_word, base_word}
use Rattle.ck_arraylaw.specs.Known.{knows}
use Rattle.ck_arraylaw.specs.Law.{read_stage_of}
use Rattle.ck_arraylaw.specs.Layout.{array_words, IsArrayItem}
use Rattle.ck_arraylaw.specs.Reached.{with_signals}
use Rattle.ck_arraylaw.specs.Regions.{place_in}
use Rattle.ck_array.specs.declared.state.ArrayState.{ArrayState}
use Rattle.ck_array.specs.Reads.{resting}
use Rattle.ck_array.specs.Writes.{idle}
use Rattle.ck_array.specs.Ends.{edits_by, IsPassReady, IsWriterReady}
use Rattle.ck_array.specs.Events.{answer_of, is_no_read, is_idle_writer, known, pass_events, hand_events, Writing}
use Rattle.ck_array.proofs.EditSteps.{ready_next, same_items}
use Rattle.ck_array.proofs.Elsewhere.{AreElsewhere, beyond, below_all, reader_still, pass_stays, hand_stays, writer_still, writer_number, reader_number}
use Rattle.ck_array.proofs.EventSteps.{answers_grow}
use Rattle.ck_arraylaw.proofs.Reaching.{replied_long}

module _ (o : Origin (Signals ArrayClient)) where
  abbrev f : ℕ
  f = floor_word with_signals o

  abbrev b : ℕ
  b = base_word with_signals o

  -- a signal is elsewhere
  pub off_word : (s : Step) (r : ℕ) → (word_of s ≡ applied_word_of array o) ⊎ (word_of s ≡ answered_word_of array o r) → is_array_word f b s ≡ false
  off_word s r is = beyond b (b + array_words) (word_of s) (⊎_elim (λ (z : word_of s ≡ applied_word_of array o). omega arith) (λ (z : word_of s ≡ answered_word_of array o r). omega arith) is)

  abbrev pub SameAnswers : Pass (Signals ArrayClient) → Pass (Signals ArrayClient) → Type 0
  SameAnswers p q = answers_of (knows with_signals o q.token) ≡ answers_of (knows with_signals o p.token)

  -- a pass that made steps elsewhere
  passes_still : (p q : Pass (Signals ArrayClient)) (es : List Entry) → IsPassReady o p → q.token ≡ adding p.token es → AreElsewhere with_signals o es → q.tally ≡ p.tally → p.calls ≤ q.calls → IsPassReady o q × SameAnswers p q
  passes_still p q es r made off tally calls =
      let local = pass_stays with_signals o p.token q.token es r.answers made off r.local in (
        record { answers = r.answers; local = local; tally = tally ∙ r.tally; few = (let few = r.few in omega arith) },
        ap answers_of (local ∙ sym r.local),
      )

  -- a section that begins or ends
  pub sections_still : (p q : Pass (Signals ArrayClient)) → IsPassReady o p → StepsBelow (base_of o) p.token q.token → q.tally ≡ p.tally → p.calls ≤ q.calls
      → IsPassReady o q × SameAnswers p q × (pass_events o q.token ≡ pass_events o p.token)
  sections_still p q r below tally calls =
      let s = passes_still p q below.0 r below.1 (below_all with_signals o below.0 below.2) tally calls in
      (s.0, s.1, steps.no_events array o (known o) (answers_grow o) p.token q.token below.0 below.1 (silent_below array o below.0 below.2) (ap (map answer_of) s.1))

  -- one signal of a pass
  signal_still : (p q : Pass (Signals ArrayClient)) (e : Entry) (r : ℕ) → IsPassReady o p → q ≡ record p { token = adding p.token (e ∷ []) } → (word_of e.step ≡ applied_word_of array o) ⊎ (word_of e.step ≡ answered_word_of array o r) → e.item ≡ []
      → IsPassReady o q × SameAnswers p q
  signal_still p q e r ready made word none = passes_still p q (e ∷ []) ready (ap (λ (x : Pass (Signals ArrayClient)). x.token) made) (off_word e.step r word, none, tt) (ap (λ (x : Pass (Signals ArrayClient)). x.tally) made)
      (let c = ap (λ (x : Pass (Signals ArrayClient)). x.calls) made in omega arith)

  pub note_still : (p q : Pass (Signals ArrayClient)) (r n : ℕ) → IsPassReady o p → q ≡ record p { token = adding p.token (notes (answered_word_of array o r) n ∷ []) }
      → IsPassReady o q × SameAnswers p q × (pass_events o q.token ≡ pass_events o p.token)
  note_still p q r n ready made =
      let s = signal_still p q (notes (answered_word_of array o r) n) r ready made (inr refl) refl in
      (s.0, s.1, steps.no_events array o (known o) (answers_grow o) p.token q.token (notes (answered_word_of array o r) n ∷ []) (ap (λ (x : Pass (Signals ArrayClient)). x.token) made) ((λ wanted found opens step. cc), tt) (ap (map answer_of) s.1))

  -- a signal of a pass between two calls answers nothing
  answers_none : (p : Pass (Signals ArrayClient)) (e : Entry) → IsPassReady o p → is_array_word f b e.step ≡ false → (known o).answers ((known o).next (knows with_signals o p.token) e) ≡ (known o).answers (knows with_signals o p.token)
  answers_none p e ready off = ap (λ (x : LocalState). map answer_of (answers_of x)) (ap (λ (x : LocalState). (known o).next x e) ready.local ∙ (reader_still with_signals o ready.answers e off ∙ sym ready.local))

  pub reached_still : (p q : Pass (Signals ArrayClient)) (n : ℕ) (result : Result (Unit {0}) ℕ) → IsPassReady o p → Reaches array o p q n result
      → IsPassReady o q × SameAnswers p q × (pass_events o q.token ≡ pass_events o p.token ++ Reached n result ∷ [])
  reached_still p q n result ready step =
      let once = reaches_once array o p q n result step in
      let s = signal_still p q (reaches (applied_word_of array o) n once.0) 0 ready once.1 (inl refl) refl in (
        s.0,
        s.1,
        steps.reached_event_is array o (known o) p q n result step (ap (λ (x : LocalState). is_no_read (read_stage_of x)) ready.local)
            (λ found. answers_none p (reaches (applied_word_of array o) n found) ready (off_word (reaches (applied_word_of array o) n found).step 0 (inl refl))),
      )

  -- a pass's tally as signals count it
  pub answers_counted : (p : Pass (Signals ArrayClient)) → origin p.token ≡ o → IsPassReady o p → p.tally ≡ pass_answers array p.token
  answers_counted p same r =
      let n = reader_number f b (number p.token) (did p.token) (resting r.answers) r.local in
      r.tally ∙ (ap (λ (x : LocalState). length (answers_of x)) (sym r.local) ∙ (ap (λ (m : ℕ). length (answers_of (local_after f b m (did p.token)))) n.1
      ∙ (ap (λ (first : ℕ). length (answers_of (local_after (base_of o) first 1 (did p.token)))) (add-zero (base_of o))
      ∙ ap (λ (q : Origin (Signals ArrayClient)). length (answers_of (local_after (base_of q) (base_of q) 1 (did p.token)))) (sym same))))

  -- a writer with its state that made steps elsewhere, and retired and dispatched nothing
  writer_beside : {F : Type 0} (w v : Writer (Signals ArrayClient) F) (s : ArrayState) (e : Entry) → IsWriterReady o w s → v ≡ record w { token = adding w.token (e ∷ []) } → is_array_word f b e.step ≡ false → e.item ≡ [] → SameItemsAndEpoch w.token v.token → IsWriterReady o v s × (edits_by o v.token ≡ edits_by o w.token)
  writer_beside {F} w v s e r made off none same =
      let token = ap (λ (x : Writer (Signals ArrayClient) F). x.token) made in
      let local = hand_stays with_signals o w.token v.token (e ∷ []) (idle r.ready.log s.region) token (off, none, tt) r.ready.local in
      let log : edits_by o v.token ≡ edits_by o w.token = ap logged (local ∙ sym r.ready.local) in (
        record {
          ready = ready_next with_signals o w v s s r.ready.log e r.ready made same local r.ready.lists refl;
          own = subst (AreItems (IsArrayItem (place_in with_signals o))) (sym (same_items w v same (ap (λ (x : Writer (Signals ArrayClient) F). x.waiting) made))) r.own;
          given = ap (λ (x : Writer (Signals ArrayClient) F). x.waiting) made ∙ r.given;
          room = subst (λ (k : ℕ). 4096 ≤ k) (sym (ap (λ (x : Writer (Signals ArrayClient) F). x.room) made)) r.room;
          tally = ap (λ (x : Writer (Signals ArrayClient) F). x.tally) made ∙ (r.tally ∙ sym (ap (λ (l : List Edit). length l) log));
          few = (let few = r.few in let a = ap (λ (x : Writer (Signals ArrayClient) F). x.tally) made in let c = ap (λ (x : Writer (Signals ArrayClient) F). x.calls) made in omega arith);
        },
        log,
      )

  -- a signal of a writer between two edits answers nothing
  logs_none : {F : Type 0} (w : Writer (Signals ArrayClient) F) (s : ArrayState) (e : Entry) → IsWriterReady o w s → is_array_word f b e.step ≡ false → e.item ≡ [] → (known o).log ((known o).next (knows with_signals o w.token) e) ≡ (known o).log (knows with_signals o w.token)
  logs_none w s e r off none = ap (λ (x : LocalState). replied (logged x)) (ap (λ (x : LocalState). (known o).next x e) r.ready.local ∙ (writer_still with_signals o (idle r.ready.log s.region) e off none ∙ sym r.ready.local))

  -- what a signal leaves of a writer between two edits
  abbrev pub Stays : {F : Type 0} → Writer (Signals ArrayClient) F → Writer (Signals ArrayClient) F → ArrayState → Writing → Type 0
  Stays w v s events = IsWriterReady o v s × (edits_by o v.token ≡ edits_by o w.token) × (hand_events o v.token ≡ events)

  pub mark_still : {F : Type 0} (w v : Writer (Signals ArrayClient) F) (s : ArrayState) (n : ℕ) → IsWriterReady o w s → v ≡ record w { token = adding w.token (marks (applied_word_of array o) n ∷ []) } → SameItemsAndEpoch w.token v.token → Stays w v s (hand_events o w.token)
  mark_still {F} w v s n r made same =
      let e : Entry = marks (applied_word_of array o) n in let off = off_word e.step 0 (inl refl) in let b = writer_beside w v s e r made off refl same in
      (b.0, b.1, steps.mark_event array o (known o) w.token v.token n (ap (λ (x : Writer (Signals ArrayClient) F). x.token) made) (logs_none w s e r off refl))

  pub answered_still : {F : Type 0} (w v : Writer (Signals ArrayClient) F) (s : ArrayState) (r n : ℕ) → r < readers o → IsWriterReady o w s → v ≡ record w { token = adding w.token (asks (answered_word_of array o r) r n ∷ []) } → SameItemsAndEpoch w.token v.token
      → Stays w v s (hand_events o w.token ++ Told r n ∷ [])
  answered_still {F} w v s r n low ready made same =
      let e : Entry = asks (answered_word_of array o r) r n in let off = off_word e.step r (inr refl) in let b = writer_beside w v s e ready made off refl same in
      (b.0, b.1, steps.asked_event array o (known o) w.token v.token r n low (ap (λ (x : Writer (Signals ArrayClient) F). x.token) made) (ap is_idle_writer ready.ready.local) (logs_none w s e ready off refl))

  -- the writer's tally as signals count it
  pub log_counted : {F : Type 0} (w : Writer (Signals ArrayClient) F) (s : ArrayState) → origin w.token ≡ o → IsWriterReady o w s → w.tally ≡ length (writer_log array w.token)
  log_counted w s same r =
      let n = writer_number f b (number w.token) (did w.token) (idle r.ready.log s.region) r.ready.local in
      r.tally ∙ (ap (λ (m : ℕ). length (logged (local_after f b m (did w.token)))) n
      ∙ (ap (λ (first : ℕ). length (logged (local_after (base_of o) first 0 (did w.token)))) (add-zero (base_of o))
      ∙ (ap (λ (q : Origin (Signals ArrayClient)). length (logged (local_after (base_of q) (base_of q) 0 (did w.token)))) (sym same)
      ∙ sym (replied_long empty_lists (logged (local_after (base_of (origin w.token)) (base_of (origin w.token)) 0 (did w.token)))))))
