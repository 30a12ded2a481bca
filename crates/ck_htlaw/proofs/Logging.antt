-- At every moment of every true run: the log and what has taken place are those of the map that the words stand for.
use Rattle.std.proofs.Common.{◌≡◌, ◌≢◌, ℕ, ◌+◌, ◌⊎◌, ⊎_elim, inl, inr, Bool, true, false, cond, nat_lt, List, [], ◌∷◌, ◌++◌, length, refl, sym, ap, ◌∙◌, subst, arith, append-nil, append_assoc}
use Rattle.std.proofs.lemmas.Bool.Decides.{nat_tests}
use Rattle.std.specs.Ordering.{nat_cmp}
use Rattle.std.specs.List.Sorted.{IsStrictlySortedBy}
use mathlib.Core.Logic.{dite}
use native.Mathlib.Decide.{ℕ_discrete}
use Rattle.ck_run.specs.declared.account.Entry.{Entry}
use Rattle.ck_run.specs.Range.{word_of}
use Rattle.ck_run.specs.Run.{Run, words_after, account}
use Rattle.ck_run.proofs.Law.{state-append}
use Rattle.ck_run.proofs.Runs.{account_here, account_else}
use Rattle.ck_history.specs.declared.log.LogEntry.{LogEntry}
use Rattle.ck_history.specs.declared.update.Update.{Update}
use Rattle.ck_history.specs.Map.{IsMap}
use Rattle.ck_epoch.specs.State.{Origin}
use Rattle.ck_epoch.specs.Epochs.{Reclamation}
use Rattle.ck_epoch.specs.Within.{IsWithin}
use Rattle.ck_reclaim.specs.Reclaim.{ReclaimsPieces}
use Rattle.ck_htlaw.specs.Host.{Host}
use Rattle.ck_htlaw.specs.Regions.{regions}
use Rattle.ck_htlaw.specs.Calls.{opening_of}
use Rattle.ck_htlaw.specs.Stages.{Stage, idle, copying, after_rebuild, twice, before_tombstone, with_tombstone, retiring_at_end, IsMap as IsSlotMap}
use Rattle.ck_htlaw.specs.Table.{Layout, view, WriterState, LocalState, writer, is_table_word, is_table_item, released, released_log, MayWriterStep, second, linearized_of}
use Rattle.ck_htlaw.specs.Actions.{by_stage, action, answer_to}
use Rattle.ck_htlaw.specs.Client.{Answers, logged, due_at, due_next, answers_next, answers_after, first_writer, table_next, table}
use Rattle.ck_htlaw.specs.Invariant.{WriterInvariant, IsSoundAt}
use Rattle.ck_htlaw.specs.Linearized.{map_after, under_way, linearized_updates, update_of}
use Rattle.ck_reclaim.proofs.Along.{along}
use Rattle.ck_htlaw.proofs.RebuildSteps.{calm_map}
use Rattle.ck_htlaw.proofs.Effects.{Makes, call_makes, answer_right, answer_update, copies_make}
use Rattle.ck_htlaw.proofs.LogSteps.{Logged, log_then, After, first_logs, copy_logs, second_logs, released_logs, else_logs}
use Rattle.ck_htlaw.proofs.Reclaim.{l as layout_in, IsTrue, epochs_run, scene, Holds, writer_next, by_writer_state, writer_same}
use Rattle.ck_htlaw.proofs.Always.{always_at}

none_sorted : IsMap nat_cmp []
unfolding IsStrictlySortedBy
none_sorted = tt

-- the writer's step on the table's words
module _ (l : Layout) (ws : List ℕ) (p : WriterState) (h : WriterInvariant l ws p) (e : Entry) (log us : List (LogEntry ℕ)) (d : LogEntry ℕ) where
  abbrev At : Stage → Type 0
  At g = Logged g p.linearized p.log p.maps log us d

  abbrev SlotsAt : Stage → Type 0
  SlotsAt g = IsSlotMap (l.order p.root) (view l ws p.root) p.maps p.linearized g

  own_logs : is_table_word l e.step ≡ true → (g : Stage) → p.stage ≡ g → At g → SlotsAt g → MayWriterStep l p (by_stage l p g e) g e.step → After (second l e.opens p (by_stage l p g e) g) p.log log us (due_at l p g e d)
  own_logs on idle is at slots may = subst (λ (b : Bool). After (second l e.opens p (by_stage l p idle e) idle) p.log log us (cond b (answer_to l p (opening_of e.opens)) d)) (sym on)
      (first_logs l log us e.opens p d (answer_to l p (opening_of e.opens)) idle at (λ x. refl) is
      (answer_update l p (opening_of e.opens), answer_right l ws p h slots (map_after us) at.sorted at.pairs (opening_of e.opens))
      (by_stage l p idle e) e.step may
      (subst (λ (u : Update ℕ). Makes (map_after us) u (by_stage l p idle e)) (sym (answer_update l p (opening_of e.opens))) (call_makes l ws p h slots (map_after us) at.sorted at.pairs (opening_of e.opens) (word_of e.step))))
  own_logs on (after_rebuild c) is at slots may = second_logs l log us p d e.opens (by_stage l p (after_rebuild c) e) (after_rebuild c) e.step (λ z. cc) at may
      (λ c' z. let same : c ≡ c' = cc in subst (λ (x : List ℕ). Makes (map_after us) (update_of (opening_of x)) (by_stage l p (after_rebuild c) e)) same
      (call_makes l ws p h (calm_map (l.order p.root) (view l ws p.root) p.maps p.linearized (after_rebuild c) idle tt tt slots) (map_after us) at.sorted at.pairs (opening_of c) (word_of e.step)))
      (λ c' root j z. absurd cc)
  own_logs on (copying c root j idle) is at slots may = copy_logs l log us p d c root j (by_stage l p (copying c root j idle) e) idle at (λ z. copies_make l p (map_after us) (opening_of c) root j _)
  own_logs on (copying c root j g) is at slots may = copy_logs l log us p d c root j (by_stage l p (copying c root j g) e) g at (λ z. absurd cc)
  own_logs on g is at slots may = second_logs l log us p d e.opens (by_stage l p g e) g e.step (λ z. cc) at may (λ c z. absurd cc) (λ c root j z. absurd cc)

  due_other : is_table_word l e.step ≡ false → (g : Stage) → due_at l p g e d ≡ d
  due_other off idle = ap (λ (b : Bool). cond b (answer_to l p (opening_of e.opens)) d) off
  due_other off g = refl

-- what has taken place
module _ (p : WriterState) (a : Answers) (us : List (LogEntry ℕ)) (is : a.local ≡ writer p) (at : Logged p.stage p.linearized p.log p.maps a.log us a.due) where
  pub linearized_is : linearized_updates a ≡ us
  linearized_is = ap (λ (x : LocalState). a.log ++ cond (nat_lt (logged x) (linearized_of x)) (a.due ∷ []) []) is ∙ (ap (λ (n : ℕ). a.log ++ cond (nat_lt p.log n) (a.due ∷ []) []) at.linearized_is ∙ (by (under_way p.stage a.due) (one_or_none p.stage) ∙ sym at.is))
    where
      one_or_none : (g : Stage) → (under_way g a.due ≡ []) ⊎ (under_way g a.due ≡ a.due ∷ [])
      one_or_none (twice from w) = inr refl
      one_or_none (before_tombstone from w) = inr refl
      one_or_none with_tombstone = inr refl
      one_or_none (retiring_at_end old) = inr refl
      one_or_none g = inl refl

      none : (n : ℕ) → nat_lt n (n + 0) ≡ false
      none n = grind (arith, nat_tests)

      one : (n : ℕ) → nat_lt n (n + 1) ≡ true
      one n = grind (arith, nat_tests)

      by : (x : List (LogEntry ℕ)) → (x ≡ []) ⊎ (x ≡ a.due ∷ []) → a.log ++ cond (nat_lt p.log (p.log + length x)) (a.due ∷ []) [] ≡ a.log ++ x
      by x h = ⊎_elim
          (λ (z : x ≡ []). subst (λ (y : List (LogEntry ℕ)). a.log ++ cond (nat_lt p.log (p.log + length y)) (a.due ∷ []) [] ≡ a.log ++ y) (sym z) (ap (λ (b : Bool). a.log ++ cond b (a.due ∷ []) []) (none p.log)))
          (λ (z : x ≡ a.due ∷ []). subst (λ (y : List (LogEntry ℕ)). a.log ++ cond (nat_lt p.log (p.log + length y)) (a.due ∷ []) [] ≡ a.log ++ y) (sym z) (ap (λ (b : Bool). a.log ++ cond b (a.due ∷ []) []) (one p.log))) h

module _ {D : Type 0} (host : Host D) (within : IsWithin table host.client host.place host.part) (law : Reclamation D) (pieces : ReclaimsPieces (regions host)) (origin : Origin D)
    (plan_ok : (ws : List ℕ) (p : WriterState) (e : Entry) → let l = layout_in host within law pieces origin in WriterInvariant l ws p → IsSoundAt l ws p.root (p.maps p.linearized) (action l p e) p.stage) where
  abbrev l : Layout
  l = layout_in host within law pieces origin

  abbrev pub answers_in : Run → Answers
  answers_in run = answers_after l origin.words 0 (account 0 run)

  -- the writer's answers
  pub record HasLog (run : Run) : Type 0 where
    pub writer_state : WriterState
    pub at_writer : (scene host within law pieces origin run).at 0 ≡ writer writer_state
    pub local : (answers_in run).local ≡ writer writer_state
    pub us : List (LogEntry ℕ)
    pub logs : Logged writer_state.stage writer_state.linearized writer_state.log writer_state.maps (answers_in run).log us (answers_in run).due

  first_log : HasLog []
  first_log = record {
    writer_state = first_writer l origin.words;
    at_writer = refl;
    local = refl;
    us = [];
    logs = record { is = refl; linearized_is = refl; count = refl; pairs = λ k. refl; sorted = none_sorted; replies = refl; due = tt };
  }

  module _ (past : Run) (n : ℕ) (e : Entry) (more : Run) (r : IsTrue host within law pieces origin (past ++ (n, e) ∷ more)) (h : HasLog past) where
    abbrev past' : Run
    past' = past ++ (n, e) ∷ []

    held : Holds host within law pieces origin past
    held = always_at host within law pieces origin plan_ok past ((n, e) ∷ more) r

    same_writer : held.is_table.writer_state ≡ h.writer_state
    same_writer = let z : writer held.is_table.writer_state ≡ writer h.writer_state = sym held.is_table.is_writer ∙ h.at_writer in cc

    abbrev a : Answers
    a = answers_in past

    answers_same : n ≢ 0 → answers_in past' ≡ a
    answers_same z = ap (answers_after l origin.words 0) (account_else past n 0 e z)

    answers_more : n ≡ 0 → answers_in past' ≡ answers_next l a e
    answers_more z = ap (answers_after l origin.words 0) (account_here past n 0 e z) ∙ state-append (answers_next l) (answers_after l origin.words 0 []) (account 0 past) (e ∷ [])

    -- from the writer's state and its log after the step
    by_log : n ≡ 0 → (q : WriterState) → (scene host within law pieces origin past').at 0 ≡ writer q → After q h.writer_state.log a.log h.us (due_at l h.writer_state h.writer_state.stage e a.due) → (h' : HasLog past') × (more : List (LogEntry ℕ)) × (h'.us ≡ h.us ++ more)
    by_log z q at_q next = (
      record {
        writer_state = q;
        at_writer = at_q;
        local = ap (λ (x : Answers). x.local) (answers_more z) ∙ hand';
        us = next.0;
        logs = subst (λ (x : Answers). Logged q.stage q.linearized q.log q.maps x.log next.0 x.due) (sym (answers_more z))
            (subst (λ (x : List (LogEntry ℕ) × LogEntry ℕ). Logged q.stage q.linearized q.log q.maps x.0 next.0 x.1) (λ i. (log_is i, due_is i)) next.2);
      },
      next.1.0,
      next.1.1,
    )
      where
        hand' : table_next l a.local e ≡ writer q
        hand' = ap (λ (x : LocalState). table_next l x e) (h.local ∙ ap (λ (x : WriterState). writer x) (sym same_writer)) ∙ (sym (writer_next host within law pieces origin plan_ok past n e more r held z) ∙ at_q)

        due_is : due_at l h.writer_state h.writer_state.stage e a.due ≡ (answers_next l a e).due
        due_is = sym (ap (λ (x : LocalState). due_next l x e a.due) h.local)

        log_is : log_then a.log h.writer_state.log q.log (due_at l h.writer_state h.writer_state.stage e a.due) ≡ (answers_next l a e).log
        log_is = (λ i. a.log ++ cond (nat_lt (logged (sym h.local i)) (logged (sym hand' i))) (due_is i ∷ []) [])

    pub log_next : (h' : HasLog past') × (more : List (LogEntry ℕ)) × (h'.us ≡ h.us ++ more)
    log_next = dite (ℕ_discrete n 0)
        (λ (z : n ≡ 0). by_writer_state host within law pieces origin plan_ok past n e more r held z (λ q. (scene host within law pieces origin past').at 0 ≡ writer q → (h' : HasLog past') × (more : List (LogEntry ℕ)) × (h'.us ≡ h.us ++ more))
        (λ on m at_q. by_log z _ at_q (let own = own_logs l (scene host within law pieces origin past).words h.writer_state writer_holds e a.log h.us a.due on h.writer_state.stage refl h.logs writer_holds.map (subst (λ (x : WriterState). MayWriterStep l x (action l x e) x.stage e.step) same_writer m) in
        subst (λ (x : WriterState). After (record (second l e.opens x (action l x e) x.stage) { words = words_after x.words e.step }) h.writer_state.log a.log h.us (due_at l h.writer_state h.writer_state.stage e a.due)) (sym same_writer) (own.0, own.1, own.2)))
        (λ off m at_q. by_log z _ at_q (subst (λ (x : WriterState). After (record x { stage = cond (is_table_item l e.item) (released x.stage) x.stage; log = cond (is_table_item l e.item) (released_log x.stage x.log) x.log }) h.writer_state.log a.log h.us (due_at l h.writer_state h.writer_state.stage e a.due)) (sym same_writer)
        (h.us, ([], sym (append-nil h.us)), subst (λ (d : LogEntry ℕ). Logged (cond (is_table_item l e.item) (released h.writer_state.stage) h.writer_state.stage) h.writer_state.linearized (cond (is_table_item l e.item) (released_log h.writer_state.stage h.writer_state.log) h.writer_state.log) h.writer_state.maps (log_then a.log h.writer_state.log (cond (is_table_item l e.item) (released_log h.writer_state.stage h.writer_state.log) h.writer_state.log) d) h.us d) (sym (due_other l (scene host within law pieces origin past).words h.writer_state writer_holds e a.log h.us a.due off h.writer_state.stage)) (by_mine (is_table_item l e.item)))))
        held'.is_table.writer_state held'.is_table.is_writer held'.is_table.is_writer)
        (λ (z : n ≢ 0). (
          record {
            writer_state = h.writer_state;
            at_writer = writer_same host within law pieces origin plan_ok past n e more r held z ∙ h.at_writer;
            local = ap (λ (x : Answers). x.local) (answers_same z) ∙ h.local;
            us = h.us;
            logs = subst (λ (x : Answers). Logged h.writer_state.stage h.writer_state.linearized h.writer_state.log h.writer_state.maps x.log h.us x.due) (sym (answers_same z)) h.logs;
          },
          [],
          sym (append-nil h.us),
        ))
      where
        writer_holds : WriterInvariant l (scene host within law pieces origin past).words h.writer_state
        writer_holds = subst (WriterInvariant l (scene host within law pieces origin past).words) same_writer held.is_table.holds

        by_mine : (b : Bool) → Logged (cond b (released h.writer_state.stage) h.writer_state.stage) h.writer_state.linearized (cond b (released_log h.writer_state.stage h.writer_state.log) h.writer_state.log) h.writer_state.maps (log_then a.log h.writer_state.log (cond b (released_log h.writer_state.stage h.writer_state.log) h.writer_state.log) a.due) h.us a.due
        by_mine true = released_logs l a.log h.us h.writer_state a.due h.writer_state.stage h.logs
        by_mine false = else_logs l a.log h.us h.writer_state a.due h.writer_state.stage h.logs

        held' : Holds host within law pieces origin past'
        held' = always_at host within law pieces origin plan_ok past' more (subst (IsTrue host within law pieces origin) (sym (append_assoc past ((n, e) ∷ []) more)) r)

  -- and so at each moment
  pub has_log : (past more : Run) → IsTrue host within law pieces origin (past ++ more) → HasLog past
  has_log past more r = along origin (IsTrue host within law pieces origin) (epochs_run host within law pieces origin) HasLog first_log (λ before n e since good h. (log_next before n e since good h).0) past more r

  -- what has taken place stays
  pub linearized_grow : (more past since : Run) → IsTrue host within law pieces origin (past ++ (more ++ since)) → (us : List (LogEntry ℕ)) × (linearized_updates (answers_in (past ++ more)) ≡ linearized_updates (answers_in past) ++ us)
  linearized_grow [] past since r = ([], ap (λ (run : Run). linearized_updates (answers_in run)) (append-nil past) ∙ sym (append-nil (linearized_updates (answers_in past))))
  linearized_grow (x ∷ more) past since r =
      let h = has_log past ((x ∷ more) ++ since) r in
      let s = log_next past x.0 x.1 (more ++ since) r h in
      let r' = subst (IsTrue host within law pieces origin) (sym (append_assoc past (x ∷ []) (more ++ since))) r in
      let g = linearized_grow more (past ++ x ∷ []) since r' in (
        s.1 ++ g.0,
        ap (λ (run : Run). linearized_updates (answers_in run)) (sym (append_assoc past (x ∷ []) more)) ∙ (g.1
            ∙ (ap (λ (l : List (LogEntry ℕ)). l ++ g.0) (linearized_is s.0.writer_state (answers_in (past ++ x ∷ [])) s.0.us s.0.local s.0.logs ∙ (s.2 ∙ ap (λ (l : List (LogEntry ℕ)). l ++ s.1) (sym (linearized_is h.writer_state (answers_in past) h.us h.local h.logs))))
            ∙ append_assoc (linearized_updates (answers_in past)) s.1 g.0)),
      )
