-- The signal calls of a table: they leave its tokens where they stand, and are events or none.
use Rattle.std.proofs.Common.{◌≡◌, ℕ, ◌+◌, ◌<◌, ◌≤◌, ◌⊎◌, ⊎_elim, inl, inr, false, List, [], ◌∷◌, ◌++◌, length, map, append-nil, refl, sym, ap, ◌∙◌, subst, arith, add-zero}
use Rattle.std.specs.Prelude.{Option, Result}
use Rattle.ck_run.specs.declared.account.Step.{Step}
use Rattle.ck_run.specs.declared.account.Entry.{Entry}
use Rattle.ck_run.specs.Range.{word_of}
use Rattle.ck_run.specs.Tokens.{adding, did, origin}
use Rattle.ck_epoch.specs.State.{Origin, base_of}
use Rattle.ck_epoch.specs.Calls.{SameItemsAndEpoch, StepsBelow}
use Rattle.ck_epoch.specs.Ends.{Pass, Writer}
use Rattle.ck_signal.specs.declared.signals.Signals.{Signals}
use Rattle.ck_signal.specs.Words.{reaches, notes, marks, asks}
use Rattle.ck_signal.specs.Signals.{inside, readers}
use Rattle.ck_signal.specs.Told.{applied_word_of, answered_word_of, writer_log, pass_answers}
use Rattle.ck_history.specs.declared.event.ReaderEvent.TheVariants.{Reached}
use Rattle.ck_history.specs.declared.event.WriterEvent.TheVariants.{Told}
use Rattle.ck_history.specs.declared.log.LogEntry.{LogEntry}
use Rattle.ck_events.proofs.Steps.{silent_below, Reaches, reaches_once}
use Rattle.ck_events.proofs.Steps as steps
use Rattle.ck_htlaw.specs.declared.client.HtClient.{HtClient}
use Rattle.ck_htlaw.specs.Client.{Answers, table, answers_after, layout_of}
use Rattle.ck_htlaw.specs.Host.{lies}
use Rattle.ck_htlaw.specs.Known.{knows}
use Rattle.ck_htlaw.specs.Law.{look_state_of}
use Rattle.ck_htlaw.specs.Linearized.{map_after}
use Rattle.ck_htlaw.specs.Reached.{with_signals}
use Rattle.ck_htlaw.specs.Table.{Layout, is_table_word}
use Rattle.ck_htread.specs.Reading.{LookTotals, totals_of}
use Rattle.ck_htread.proofs.Telling.{record_of}
use Rattle.ck_htwrite.specs.declared.state.HtState.{HtState}
use Rattle.ck_htwrite.specs.Arena.{AreTableItems}
use Rattle.ck_htwrite.specs.Entries.{HasKeys}
use Rattle.ck_htwrite.specs.State.{Ready}
use Rattle.ck_htwrite.specs.Writes.{counters_in}
use Rattle.ck_ht.specs.Ends.{IsPassReady, IsWriterReady}
use Rattle.ck_ht.specs.Events.{is_no_look, is_idle_stage, is_idle_writer, replied, known, pass_events, hand_events, Writing}
use Rattle.ck_ht.proofs.Closing.{writer_number}
use Rattle.ck_ht.proofs.Elsewhere.{beyond, looks_still, ready_still, below_all, writer_still}
use Rattle.ck_ht.proofs.EventSteps.{answers_grow}
use Rattle.ck_ht.proofs.Staying.{items_beside, ready_beside}

module _ (o : Origin (Signals HtClient)) where
  abbrev k : Layout
  k = lies with_signals o

  -- a signal is elsewhere
  pub off_word : (s : Step) (r : ℕ) → (word_of s ≡ applied_word_of table o) ⊎ (word_of s ≡ answered_word_of table o r) → is_table_word k s ≡ false
  off_word s r is = beyond k.base (k.base + k.size) (word_of s) (⊎_elim (λ (z : word_of s ≡ applied_word_of table o). omega arith) (λ (z : word_of s ≡ answered_word_of table o r). omega arith) is)

  -- a section that begins or ends
  pub sections_still : (p q : Pass (Signals HtClient)) → IsPassReady o p → StepsBelow (base_of o) p.token q.token → q.tally ≡ p.tally → p.calls ≤ q.calls
      → IsPassReady o q × (totals_of (knows with_signals o q.token) ≡ totals_of (knows with_signals o p.token)) × (pass_events o q.token ≡ pass_events o p.token)
  sections_still p q ready below tally calls =
      let s = ready_still with_signals o p q below.0 ready below.1 (below_all with_signals o below.0 below.2) tally calls in
      let looks = ap (λ (t : LookTotals). t.looks) s.1 in
      (s.0, s.1, steps.no_events table o (known o) (answers_grow o) p.token q.token below.0 below.1 (silent_below table o below.0 below.2) looks)

  -- one signal of a pass
  signal_still : (p q : Pass (Signals HtClient)) (e : Entry) (r : ℕ) → IsPassReady o p → q ≡ record p { token = adding p.token (e ∷ []) } → (word_of e.step ≡ applied_word_of table o) ⊎ (word_of e.step ≡ answered_word_of table o r) → e.item ≡ []
      → IsPassReady o q × (totals_of (knows with_signals o q.token) ≡ totals_of (knows with_signals o p.token))
  signal_still p q e r ready made word none = ready_still with_signals o p q (e ∷ []) ready (ap (λ (x : Pass (Signals HtClient)). x.token) made) (off_word e.step r word, none, tt) (ap (λ (x : Pass (Signals HtClient)). x.tally) made)
      (let c = ap (λ (x : Pass (Signals HtClient)). x.calls) made in omega arith)

  pub note_still : (p q : Pass (Signals HtClient)) (r n : ℕ) → IsPassReady o p → q ≡ record p { token = adding p.token (notes (answered_word_of table o r) n ∷ []) }
      → IsPassReady o q × (totals_of (knows with_signals o q.token) ≡ totals_of (knows with_signals o p.token)) × (pass_events o q.token ≡ pass_events o p.token)
  note_still p q r n ready made =
      let s = signal_still p q (notes (answered_word_of table o r) n) r ready made (inr refl) refl in
      let looks = ap (λ (t : LookTotals). t.looks) s.1 in
      (s.0, s.1, steps.no_events table o (known o) (answers_grow o) p.token q.token (notes (answered_word_of table o r) n ∷ []) (ap (λ (x : Pass (Signals HtClient)). x.token) made) ((λ wanted found opens step. cc), tt) looks)

  pub reached_still : (p q : Pass (Signals HtClient)) (n : ℕ) (result : Result (Unit {0}) ℕ) → IsPassReady o p → Reaches table o p q n result
      → IsPassReady o q × (totals_of (knows with_signals o q.token) ≡ totals_of (knows with_signals o p.token)) × (pass_events o q.token ≡ pass_events o p.token ++ Reached n result ∷ [])
  reached_still p q n result ready step =
      let once = reaches_once table o p q n result step in
      let s = signal_still p q (reaches (applied_word_of table o) n once.0) 0 ready once.1 (inl refl) refl in
      let a : Answers = knows with_signals o p.token in (
        s.0,
        s.1,
        steps.reached_event_is table o (known o) p q n result step (ap is_no_look (ap look_state_of ready.local ∙ ready.outside))
            (λ found. ap (λ (xs : List (ℕ × Option ℕ)). a.looks ++ xs) (looks_still k a.local (reaches (applied_word_of table o) n found) (off_word (reaches (applied_word_of table o) n found).step 0 (inl refl))) ∙ append-nil a.looks),
      )

  -- a pass's tally as signals count it
  pub answers_counted : (p : Pass (Signals HtClient)) → origin p.token ≡ o → IsPassReady o p → p.tally ≡ pass_answers table p.token
  answers_counted p same r =
      let n = record_of with_signals o p.token r.reader_state r.local in
      r.tally ∙ (ap (λ (m : ℕ). length (answers_after k o.words m (did p.token)).looks) n.1
      ∙ (ap (λ (first : ℕ). length (answers_after (layout_of first (inside o)) o.words 1 (did p.token)).looks) (add-zero (base_of o))
      ∙ ap (λ (q : Origin (Signals HtClient)). length (answers_after (layout_of (base_of q) (inside q)) q.words 1 (did p.token)).looks) (sym same)))

  -- and the writer's
  pub log_counted : {F : Type 0} (w : Writer (Signals HtClient) F) (s : HtState) → origin w.token ≡ o → Ready with_signals o w s → w.tally ≡ length (writer_log table w.token)
  log_counted w s same r =
      r.tally ∙ (ap (λ (m : ℕ). length (answers_after k o.words m (did w.token)).log) (writer_number o w.token r.lists.is_writer r.lists.is)
      ∙ (ap (λ (first : ℕ). length (answers_after (layout_of first (inside o)) o.words 0 (did w.token)).log) (add-zero (base_of o))
      ∙ ap (λ (q : Origin (Signals HtClient)). length (answers_after (layout_of (base_of q) (inside q)) q.words 0 (did w.token)).log) (sym same)))

  -- a writer between two updates stays so at a step beside the table's, with its log
  writer_beside : {F : Type 0} (w v : Writer (Signals HtClient) F) (s : HtState) (e : Entry) → IsWriterReady o w s → v ≡ record w { token = adding w.token (e ∷ []) } → is_table_word k e.step ≡ false → e.item ≡ [] → SameItemsAndEpoch w.token v.token
      → IsWriterReady o v s × ((knows with_signals o v.token).log ≡ (knows with_signals o w.token).log)
  writer_beside {F} w v s e r made off none same =
      let b = ready_beside with_signals o w v s e r.ready made off none same in (
        record {
          ready = b.0;
          own = subst (AreTableItems (counters_in with_signals o) 0) (items_beside with_signals o w v e made same) r.own;
          given = ap (λ (x : Writer (Signals HtClient) F). x.waiting) made ∙ r.given;
          room = subst (λ (k : ℕ). counters_in with_signals o ≤ k) (sym (ap (λ (x : Writer (Signals HtClient) F). x.room) made)) r.room;
          half = r.half;
          keys = subst (λ (us : List (LogEntry ℕ)). HasKeys (map_after us)) (sym b.1) r.keys;
        },
        b.1,
      )

  -- a signal of such a writer answers nothing
  logs_none : {F : Type 0} (w : Writer (Signals HtClient) F) (s : HtState) (e : Entry) → IsWriterReady o w s → is_table_word k e.step ≡ false → e.item ≡ [] → (known o).log ((known o).next (knows with_signals o w.token) e) ≡ (known o).log (knows with_signals o w.token)
  logs_none w s e r off none = ap (map replied) (writer_still k (knows with_signals o w.token) r.ready.lists.is_writer e r.ready.lists.is off none).1

  -- what a signal leaves of it
  abbrev pub Stays : {F : Type 0} → Writer (Signals HtClient) F → Writer (Signals HtClient) F → HtState → Writing → Type 0
  Stays w v s events = IsWriterReady o v s × ((knows with_signals o v.token).log ≡ (knows with_signals o w.token).log) × (hand_events o v.token ≡ events)

  pub mark_still : {F : Type 0} (w v : Writer (Signals HtClient) F) (s : HtState) (n : ℕ) → IsWriterReady o w s → v ≡ record w { token = adding w.token (marks (applied_word_of table o) n ∷ []) } → SameItemsAndEpoch w.token v.token → Stays w v s (hand_events o w.token)
  mark_still {F} w v s n r made same =
      let e : Entry = marks (applied_word_of table o) n in let off = off_word e.step 0 (inl refl) in let b = writer_beside w v s e r made off refl same in
      (b.0, b.1, steps.mark_event table o (known o) w.token v.token n (ap (λ (x : Writer (Signals HtClient) F). x.token) made) (logs_none w s e r off refl))

  pub answered_still : {F : Type 0} (w v : Writer (Signals HtClient) F) (s : HtState) (r n : ℕ) → r < readers o → IsWriterReady o w s → v ≡ record w { token = adding w.token (asks (answered_word_of table o r) r n ∷ []) } → SameItemsAndEpoch w.token v.token
      → Stays w v s (hand_events o w.token ++ Told r n ∷ [])
  answered_still {F} w v s r n low ready made same =
      let e : Entry = asks (answered_word_of table o r) r n in let off = off_word e.step r (inr refl) in let b = writer_beside w v s e ready made off refl same in
      (b.0, b.1, steps.asked_event table o (known o) w.token v.token r n low (ap (λ (x : Writer (Signals HtClient) F). x.token) made) (ap is_idle_writer ready.ready.lists.is ∙ ap is_idle_stage ready.ready.lists.idles) (logs_none w s e ready off refl))
