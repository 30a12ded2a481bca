-- Each step of each token of a domain keeps what holds at every moment.
use Rattle.std.proofs.Common.{◌≡◌, ◌≢◌, ℕ, zero, suc, ◌+◌, ◌-◌, ◌^◌, ◌<◌, ◌≤◌, ◌⊎◌, ⊎_elim, inl, inr, Bool, true, false, ◌&&◌, cond, ◌==◌, eq-eqb, nat_lt, Option, Some, None, List, [], ◌∷◌, ◌++◌, length, All, set, get_or, length-set, get_or-set_other, get_or-set_same, refl, sym, ap, ◌∙◌, subst, arith}
use Rattle.std.proofs.lemmas.Bool.{eqb-true}
use Rattle.std.proofs.lemmas.Bool.Decides.{nat_tests}
use mathlib.Core.Logic.{dite}
use native.Mathlib.Decide.{ℕ_discrete, dec_lt}
use Rattle.ck_run.specs.declared.account.Step.{Step}
use Rattle.ck_run.specs.declared.account.Step.TheVariants.{Load, Store, Exchange}
use Rattle.ck_run.specs.declared.account.Entry.{Entry}
use Rattle.ck_run.specs.Run.{Run, handing, account, words_after, Fits}
use Rattle.ck_run.specs.Range.{word_of}
use Rattle.ck_run.specs.Machine.{moved, IsInvariantAlong}
use Rattle.ck_run.proofs.Law.{moved_here, moved_else}
use Rattle.ck_run.proofs.Runs.{account_here, account_else}
use Rattle.ck_epoch.specs.State.{base, active_word, epoch_word, poll, synchronize, barrier, Task, polling, first_round, second_round, Stage, outside, entering, holding, inside, free, scanning, comparing, between, Retirement, retirement, TokenState, at_depth, first_busy, is_clear, dispatch, dispatch_all, Calls, after_load, after_record, after_blocked, after_raise, after_step, next, SetsActive, Retires, MayStep, May}
use Rattle.ck_epoch.specs.Epochs.{IsOpen}
use Rattle.ck_epoch.specs.Held.{IsOfWriter, IsOfPass, IsRecordHeld, risen, IsWriterHeld, AreHeld}
use Rattle.ck_run.proofs.Runs.{count}
use Rattle.ck_epoch.proofs.OpenSections.{open_cases, open_else, open_stays, not_ended}
use Rattle.ck_epoch.proofs.Records as pass
use Rattle.ck_epoch.proofs.RecordsKept as record_
use Rattle.ck_epoch.proofs.WriterKept as writer
use Rattle.ck_epoch.proofs.WriterKept.{are_made}
use Rattle.ck_epoch.proofs.Records.{AreMade}
use Rattle.ck_epoch.proofs.RecordsKept.{at_stage}

roles_apart : (g : Stage) → IsOfWriter g → IsOfPass g → ⊥
roles_apart free a b = b
roles_apart (scanning task e rec busy) a b = b
roles_apart (comparing task e rec busy) a b = b
roles_apart (between all started) a b = b
roles_apart g a b = a

load_not_store : (w x v y : ℕ) → Load w x ≢ Store v y
load_not_store w x v y e = cc

lt_yes : (a b : ℕ) → a < b → nat_lt a b ≡ true
lt_yes a b l = grind (arith, nat_tests)

lt_no : (a b : ℕ) → b ≤ a → nat_lt a b ≡ false
lt_no a b l = grind (arith, nat_tests)

clear_is : (b : Bool) (task : Task) (busy : Option ℕ) → (b && is_clear task busy) ≡ true → (b ≡ true) × (task ≡ polling) × (busy ≡ None)
clear_is true polling None z = (refl, refl, refl)
clear_is true polling (Some f) z = absurd cc
clear_is true (first_round all s) busy z = absurd cc
clear_is true (second_round all s) busy z = absurd cc
clear_is false task busy z = absurd cc

never_clear : (b : Bool) (task : Task) (busy : Option ℕ) (r : ℕ) → busy ≡ Some r → (b && is_clear task busy) ≡ false
never_clear b task None r z = record_.none_some r z
never_clear true polling (Some f) r z = refl
never_clear true (first_round all s) (Some f) r z = refl
never_clear true (second_round all s) (Some f) r z = refl
never_clear false task (Some f) r z = refl

module _ (records : ℕ) (past : Run) (words : List ℕ) (at : ℕ → TokenState) (h : AreHeld records past words at) where
  abbrev E : ℕ
  E = get_or words 0 0

  -- the state of each token, and its words, at a step of a pass
  module _ (q : ℕ) (e : Entry) (t : TokenState) (words' : List ℕ) where
    abbrev n : ℕ
    n = suc q

    abbrev now : Run
    now = past ++ (n, e) ∷ []

    writer_made : AreMade (count past 0) (at 0)
    writer_made = are_made records E (account 0 past) (at 0) h.writer

    pass_goes : length words' ≡ length words → get_or words' 0 0 ≡ E
        → ((m : ℕ) → m < records → m ≢ q → (get_or words' (active_word m) 0 ≡ get_or words (active_word m) 0) × (get_or words' (epoch_word m) 0 ≡ get_or words (epoch_word m) 0))
        → t.rec ≡ q → (records ≤ q → t.stage ≡ outside) → (q < records → IsRecordHeld now E (get_or words' (active_word q) 0) (get_or words' (epoch_word q) 0) q (at 0) t.stage)
        → AreHeld records now words' (moved at n t)
    pass_goes long global others rec none mine =
        let stays : moved at n t 0 ≡ at 0 = moved_else at n 0 t (λ z. absurd (omega arith)) in
        record {
          wide = let w = h.wide in omega arith;
          writer = subst (λ (x : ℕ × List Entry × TokenState). IsWriterHeld records x.0 x.1 x.2) (λ i. (sym global i, sym (account_else past n 0 e (λ z. absurd (omega arith))) i, sym stays i)) h.writer;
          numbered = λ r. dite (ℕ_discrete q r)
              (λ same. ap (λ (x : TokenState). x.rec) (moved_here at n (suc r) t (ap suc same)) ∙ (rec ∙ same))
              (λ other. ap (λ (x : TokenState). x.rec) (moved_else at n (suc r) t (λ z. absurd (omega arith))) ∙ h.numbered r);
          unused = λ r l. dite (ℕ_discrete q r)
              (λ same. ap (λ (x : TokenState). x.stage) (moved_here at n (suc r) t (ap suc same)) ∙ none (omega arith))
              (λ other. ap (λ (x : TokenState). x.stage) (moved_else at n (suc r) t (λ z. absurd (omega arith))) ∙ h.unused r l);
          each = λ r l. dite (ℕ_discrete q r)
              (λ same. subst (λ (x : ℕ × TokenState × Stage). IsRecordHeld now x.0 (get_or words' (active_word r) 0) (get_or words' (epoch_word r) 0) r x.1 x.2)
              (λ i. (sym global i, sym stays i, sym (ap (λ (x : TokenState). x.stage) (moved_here at n (suc r) t (ap suc same))) i))
              (subst (λ (x : ℕ). IsRecordHeld now E (get_or words' (active_word x) 0) (get_or words' (epoch_word x) 0) x (at 0) t.stage) same (mine (omega arith))))
              (λ other. let o = others r l (λ z. other (sym z)) in
              subst (λ (x : ℕ × ℕ × ℕ × TokenState × Stage). IsRecordHeld now x.0 x.1 x.2 r x.3 x.4)
              (λ i. (sym global i, sym o.0 i, sym o.1 i, sym stays i, sym (ap (λ (x : TokenState). x.stage) (moved_else at n (suc r) t (λ z. absurd (omega arith)))) i))
              (pass.stays past n e E r (at 0) writer_made (λ z. absurd (omega arith)) (get_or words (active_word r) 0) (get_or words (epoch_word r) 0) (at (suc r)).stage
              (λ o is. open_else past n e r o is (λ z. absurd (omega arith))) (h.each r l)));
        }

  -- and at a step of the writer at this stage
  module _ (s : Stage) (is : (at 0).stage ≡ s) where
    abbrev W : TokenState
    W = at_stage (at 0) s

    same_state : at 0 ≡ W
    same_state i = record (at 0) { stage = is i }

    at_writer : IsWriterHeld records E (account 0 past) W
    at_writer = subst (IsWriterHeld records E (account 0 past)) same_state h.writer

    at_made : AreMade (count past 0) W
    at_made = are_made records E (account 0 past) W at_writer

    writer_goes : (e : Entry) (t : TokenState) (words' : List ℕ) (E' : ℕ) → length words' ≡ length words → get_or words' 0 0 ≡ E' → ((i : ℕ) → 0 < i → i < base records → get_or words' i 0 ≡ get_or words i 0)
        → IsWriterHeld records E' (account 0 past ++ e ∷ []) t
        → ((r : ℕ) → r < records → IsRecordHeld past E (get_or words (active_word r) 0) (get_or words (epoch_word r) 0) r W (at (suc r)).stage
        → IsRecordHeld (past ++ (0, e) ∷ []) E' (get_or words (active_word r) 0) (get_or words (epoch_word r) 0) r t (at (suc r)).stage)
        → AreHeld records (past ++ (0, e) ∷ []) words' (moved at 0 t)
    writer_goes e t words' E' long global rest mine turns = let now : Run = past ++ (0, e) ∷ [] in
        let here : moved at 0 t 0 ≡ t = moved_here at 0 0 t refl in
        let others : (r : ℕ) → moved at 0 t (suc r) ≡ at (suc r) = λ r. moved_else at 0 (suc r) t (λ z. absurd (omega arith)) in
        record {
          wide = let w = h.wide in omega arith;
          writer = subst (λ (x : ℕ × List Entry × TokenState). IsWriterHeld records x.0 x.1 x.2) (λ i. (sym global i, sym (account_here past 0 0 e refl) i, sym here i)) mine;
          numbered = λ r. ap (λ (x : TokenState). x.rec) (others r) ∙ h.numbered r;
          unused = λ r l. ap (λ (x : TokenState). x.stage) (others r) ∙ h.unused r l;
          each = λ r l. subst (λ (x : ℕ × ℕ × ℕ × TokenState × Stage). IsRecordHeld now x.0 x.1 x.2 r x.3 x.4)
              (λ i. (sym global i, sym (rest (active_word r) (omega arith) (omega arith)) i, sym (rest (epoch_word r) (omega arith) (omega arith)) i, sym here i, sym (ap (λ (x : TokenState). x.stage) (others r)) i))
              (turns r l (subst (λ (x : TokenState). IsRecordHeld past E (get_or words (active_word r) 0) (get_or words (epoch_word r) 0) r x (at (suc r)).stage) same_state (h.each r l)));
        }

  -- the steps of a pass
  module _ (q : ℕ) (e : Entry) where
    abbrev T : TokenState
    T = at (suc q)

    abbrev after : Run
    after = past ++ (suc q, e) ∷ []

    made_now : AreMade (count past 0) (at 0)
    made_now = are_made records E (account 0 past) (at 0) h.writer

    stands : (g : Stage) → T.stage ≡ g → q < records → IsRecordHeld past E (get_or words (active_word q) 0) (get_or words (epoch_word q) 0) q (at 0) g
    stands g is l = subst (IsRecordHeld past E (get_or words (active_word q) 0) (get_or words (epoch_word q) 0) q (at 0)) is (h.each q l)

    -- a step that opens no section
    opens_none : (w : ℕ) → word_of e.step ≡ w → w ≢ epoch_word q → (o : ℕ) → IsOpen after q o → IsOpen past q o
    opens_none w at_word other o is = open_stays past (suc q) e q o is (λ g z. other (sym at_word ∙ ap word_of z))

    opens_none_load : (w x : ℕ) → e.step ≡ Load w x → (o : ℕ) → IsOpen after q o → IsOpen past q o
    opens_none_load w x load o is = open_stays past (suc q) e q o is (λ g z. load_not_store w x (epoch_word q) g (sym load ∙ z))

    -- a step on the client's words
    elsewhere : (t : TokenState) (words' : List ℕ) → length words' ≡ length words → ((i : ℕ) → i < base records → get_or words' i 0 ≡ get_or words i 0) → t.rec ≡ T.rec → t.stage ≡ T.stage
        → (q < records → (o : ℕ) → IsOpen after q o → IsOpen past q o) → AreHeld records after words' (moved at (suc q) t)
    elsewhere t words' long rest rec stage opened = pass_goes q e t words' long (rest 0 (omega arith)) (λ m l o. (rest (active_word m) (omega arith), rest (epoch_word m) (omega arith)))
        (rec ∙ h.numbered q) (λ l. stage ∙ h.unused q l)
        (λ l. subst (λ (x : ℕ × ℕ × Stage). IsRecordHeld after E x.0 x.1 q (at 0) x.2) (λ i. (sym (rest (active_word q) (omega arith)) i, sym (rest (epoch_word q) (omega arith)) i, sym stage i))
        (pass.stays past (suc q) e E q (at 0) made_now (λ z. absurd (omega arith)) (get_or words (active_word q) 0) (get_or words (epoch_word q) 0) T.stage (opened l) (h.each q l)))

    -- a store in the active word of its record
    sets : (t : TokenState) (x : ℕ) → q < records → t.rec ≡ q → IsRecordHeld after E x (get_or words (epoch_word q) 0) q (at 0) t.stage → AreHeld records after (set words (active_word q) x) (moved at (suc q) t)
    sets t x l rec mine = let w = h.wide in let i : ℕ = active_word q in
        pass_goes q e t (set words i x) (length-set words i x) (get_or-set_other words i 0 x 0 (omega arith))
        (λ m _ other. (get_or-set_other words i (active_word m) x 0 (omega arith), get_or-set_other words i (epoch_word m) x 0 (omega arith))) rec (λ high. absurd (omega arith))
        (λ _. subst (λ (z : ℕ × ℕ). IsRecordHeld after E z.0 z.1 q (at 0) t.stage) (λ j. (sym (get_or-set_same words i x 0 (omega arith)) j, sym (get_or-set_other words i (epoch_word q) x 0 (omega arith)) j)) mine)

    enters : T.stage ≡ outside → q < records → word_of e.step ≡ active_word q → (c n : ℕ) → AreHeld records after (set words (active_word q) 1) (moved at (suc q) (record T { stage = entering; calls = c; steps = n }))
    enters is l on c n = sets (record T { stage = entering; calls = c; steps = n }) 1 l (h.numbered q)
        (pass.enters past (suc q) e E q (at 0) made_now (λ z. absurd (omega arith)) (get_or words (active_word q) 0) (get_or words (epoch_word q) 0) (opens_none (active_word q) on (λ z. absurd (omega arith))) (stands outside is l))

    -- a nested `begin`, or an `end`
    deepens : (d g x : ℕ) → T.stage ≡ inside d g → q < records → e.step ≡ Store (active_word q) x → (c n : ℕ) → AreHeld records after (set words (active_word q) x) (moved at (suc q) (record T { stage = at_depth x g; calls = c; steps = n }))
    deepens d g zero is l on c n = sets (record T { stage = outside; calls = c; steps = n }) 0 l (h.numbered q)
        (pass.leaves past (suc q) e E q (at 0) made_now (λ z. absurd (omega arith)) (get_or words (active_word q) 0) (get_or words (epoch_word q) 0) d g
        (λ o was. not_ended past (suc q) e q o was (opens_none (active_word q) (ap word_of on) (λ z. absurd (omega arith)) o was) refl on) (stands (inside d g) is l))
    deepens d g (suc x) is l on c n = sets (record T { stage = inside (suc x) g; calls = c; steps = n }) (suc x) l (h.numbered q)
        (pass.deepens past (suc q) e E q (at 0) made_now (λ z. absurd (omega arith)) (get_or words (active_word q) 0) (get_or words (epoch_word q) 0) (opens_none (active_word q) (ap word_of on) (λ z. absurd (omega arith))) d (suc x) g (omega arith) (stands (inside d g) is l))

    loads : (g : ℕ) → T.stage ≡ entering → q < records → e.step ≡ Load 0 g → g ≡ E → (n : ℕ) → AreHeld records after words (moved at (suc q) (record T { stage = holding g; steps = n }))
    loads g is l on found n = pass_goes q e (record T { stage = holding g; steps = n }) words refl refl (λ m _ o. (refl, refl)) (h.numbered q) (λ high. absurd (omega arith))
        (λ _. subst (λ (x : ℕ). IsRecordHeld after E (get_or words (active_word q) 0) (get_or words (epoch_word q) 0) q (at 0) (holding x)) (sym found)
        (pass.loads past (suc q) e E q (at 0) made_now (λ z. absurd (omega arith)) (get_or words (active_word q) 0) (get_or words (epoch_word q) 0) (opens_none_load 0 g on) (stands entering is l)))

    opens : (g : ℕ) → T.stage ≡ holding g → q < records → (n : ℕ) → AreHeld records after (set words (epoch_word q) g) (moved at (suc q) (record T { stage = inside 1 g; steps = n }))
    opens g is l n = let w = h.wide in let i : ℕ = epoch_word q in
        pass_goes q e (record T { stage = inside 1 g; steps = n }) (set words i g) (length-set words i g) (get_or-set_other words i 0 g 0 (omega arith))
        (λ m _ other. (get_or-set_other words i (active_word m) g 0 (omega arith), get_or-set_other words i (epoch_word m) g 0 (omega arith))) (h.numbered q) (λ high. absurd (omega arith))
        (λ _. subst (λ (z : ℕ × ℕ). IsRecordHeld after E z.0 z.1 q (at 0) (inside 1 g)) (λ j. (sym (get_or-set_other words i (active_word q) g 0 (omega arith)) j, sym (get_or-set_same words i g 0 (omega arith)) j))
        (pass.opens past (suc q) e E q (at 0) made_now (λ z. absurd (omega arith)) (get_or words (active_word q) 0) (get_or words (epoch_word q) 0) g
        (λ o was. ⊎_elim (λ old. inl old) (λ new. inr new.0) (open_cases past (suc q) e q o was)) (stands (holding g) is l)))

    used : (g : Stage) → T.stage ≡ g → g ≢ outside → q < records
    used g is other = dite (dec_lt q records) (λ l. l) (λ n. absurd (other (sym is ∙ h.unused q (omega arith))))

    not_writing : (g : Stage) → T.stage ≡ g → IsOfWriter g → g ≢ outside → ⊥
    not_writing g is w other = roles_apart g w (subst IsOfPass is (h.each q (used g is other)).reading)

    -- the client's steps
    client_load : (a x : ℕ) → e.step ≡ Load a x → (n : ℕ) → AreHeld records after words (moved at (suc q) (record T { steps = n }))
    client_load a x on n = elsewhere (record T { steps = n }) words refl (λ i l. refl) refl refl (λ l. opens_none_load a x on)

    client_store : (a x : ℕ) → e.step ≡ Store a x → base records ≤ a → (n : ℕ) → AreHeld records after (set words a x) (moved at (suc q) (record T { steps = n }))
    client_store a x on high n = elsewhere (record T { steps = n }) (set words a x) (length-set words a x) (λ i l. get_or-set_other words a i x 0 (omega arith)) refl refl
        (λ l. opens_none a (ap word_of on) (λ z. absurd (omega arith)))

    -- a store in the active word of its record, or in one of the client's
    by_word : (a x n : ℕ) (t : TokenState) → (SetsActive records T a ⊎ (base records ≤ a)) → e.step ≡ Store a x → (q < records → e.step ≡ Store (active_word q) x → AreHeld records after (set words (active_word q) x) (moved at (suc q) (record t { steps = n })))
        → AreHeld records after (set words a x) (moved at (suc q) (record (cond (nat_lt a (base records)) t T) { steps = n }))
    by_word a x n t may on own = ⊎_elim
        (λ (m : SetsActive records T a). let z = h.numbered q in let l = m.1 in let at_ : a ≡ active_word q = m.0 ∙ ap active_word z in
        let b : nat_lt a (base records) ≡ true = subst (λ (k : ℕ). nat_lt k (base records) ≡ true) (sym at_) (lt_yes (active_word q) (base records) (omega arith)) in
        subst (λ (z : ℕ × Bool). AreHeld records after (set words z.0 x) (moved at (suc q) (record (cond z.1 t T) { steps = n }))) (λ i. (sym at_ i, sym b i)) (own (omega arith) (on ∙ ap (λ (k : ℕ). Store k x) at_)))
        (λ (high : base records ≤ a). subst (λ (z : Bool). AreHeld records after (set words a x) (moved at (suc q) (record (cond z t T) { steps = n }))) (sym (lt_no a (base records) high)) (client_store a x on high n)) may

    pass_kind : (g : Stage) (s : Step) (o i : List ℕ) → T.stage ≡ g → e.step ≡ s → MayStep records T o i g s → Fits words s
        → AreHeld records after (words_after words s) (moved at (suc q) (record (after_step records T o i g s) { steps = T.steps + 1 }))
    pass_kind outside (Load a x) o i is on may fits = client_load a x on (T.steps + 1)
    pass_kind outside (Store a x) o i is on may fits = by_word a x (T.steps + 1) (record T { stage = entering; calls = T.calls + 1 })
        (⊎_elim (λ m. inl m.0) (λ m. inr m.0) may) on
        (λ l own. ⊎_elim
        (λ m. subst (λ (z : ℕ). AreHeld records after (set words (active_word q) z) (moved at (suc q) (record T { stage = entering; calls = T.calls + 1; steps = T.steps + 1 }))) (sym m.1) (enters is l (ap word_of own) (T.calls + 1) (T.steps + 1)))
        (λ m. let high = m.0 in let z = ap word_of (sym on ∙ own) in absurd (omega arith)) may)
    pass_kind entering (Load a x) o i is on may fits = loads x is (used entering is (λ z. cc)) (on ∙ ap (λ (k : ℕ). Load k x) may.0) (fits ∙ ap (λ (k : ℕ). get_or words k 0) may.0) (T.steps + 1)
    pass_kind (holding g) (Store a x) o i is on may fits = let z = h.numbered q in
        subst (λ (z : ℕ × ℕ). AreHeld records after (set words z.0 z.1) (moved at (suc q) (record T { stage = inside 1 g; steps = T.steps + 1 }))) (λ i. (sym (may.0 ∙ ap epoch_word z) i, sym may.2 i))
        (opens g is (used (holding g) is (λ z. cc)) (T.steps + 1))
    pass_kind (inside d g) (Load a x) o i is on may fits = client_load a x on (T.steps + 1)
    pass_kind (inside d g) (Store a x) o i is on may fits = by_word a x (T.steps + 1) (record T { stage = at_depth x g; calls = T.calls + 1 }) (⊎_elim (λ m. inl m.0) (λ m. inr m.0) may) on
        (λ l own. deepens d g x is l own (T.calls + 1) (T.steps + 1))
    pass_kind free s o i is on may fits = absurd (not_writing free is tt (λ z. cc))
    pass_kind (scanning task v rec busy) s o i is on may fits = absurd (not_writing (scanning task v rec busy) is tt (λ z. cc))
    pass_kind (comparing task v rec busy) s o i is on may fits = absurd (not_writing (comparing task v rec busy) is tt (λ z. cc))
    pass_kind (between all started) s o i is on may fits = absurd (not_writing (between all started) is tt (λ z. cc))
    pass_kind g s o i is on may fits = absurd may

  -- the steps of the writer
  module _ (e : Entry) where
    abbrev V : TokenState
    V = at 0

    abbrev then : Run
    then = past ++ (0, e) ∷ []

    not_reading : (g : Stage) → V.stage ≡ g → IsOfPass g → ⊥
    not_reading g is r = roles_apart g (subst IsOfWriter is h.writer.writing) r

    -- a load
    load_goes : (s : Stage) → V.stage ≡ s → (t : TokenState) → (IsWriterHeld records E (account 0 past) (at_stage V s) → IsWriterHeld records E (account 0 past ++ e ∷ []) t)
        → ((r : ℕ) → r < records → IsRecordHeld past E (get_or words (active_word r) 0) (get_or words (epoch_word r) 0) r (at_stage V s) (at (suc r)).stage
        → IsRecordHeld then E (get_or words (active_word r) 0) (get_or words (epoch_word r) 0) r t (at (suc r)).stage)
        → AreHeld records then words (moved at 0 t)
    load_goes s is t mine turns = writer_goes s is e t words E refl refl (λ i _ _. refl) (mine (at_writer s is)) turns

    -- the client's steps
    writer_elsewhere : V.stage ≡ free → (words' : List ℕ) → length words' ≡ length words → ((i : ℕ) → i < base records → get_or words' i 0 ≡ get_or words i 0) → AreHeld records then words' (moved at 0 (record V { steps = V.steps + 1 }))
    writer_elsewhere is words' long rest = subst (λ (x : Stage). AreHeld records then words' (moved at 0 (record V { stage = x; steps = V.steps + 1 }))) (sym is)
        (writer_goes free is e (record V { stage = free; steps = V.steps + 1 }) words' E long (rest 0 (omega arith)) (λ i _ l. rest i l) (writer.elsewhere records E (account 0 past) e V (at_writer free is))
        (λ r l g. record_.elsewhere past e (get_or words (active_word r) 0) (get_or words (epoch_word r) 0) r E (at_stage V free) (at (suc r)).stage (at_made free is) g))

    abbrev Low : ℕ → Retirement → Type 0
    Low up k = k.retired.epoch + up ≤ E

    low : (up : ℕ) (s : Stage) → (is : V.stage ≡ s) → risen s ≡ up → All (Low up) V.pending
    low up s is z k d l = let p = ((at_writer s is).pending k d l).1 in omega arith

    retires : V.stage ≡ free → (opens : List ℕ) (at_ log found : ℕ) → e ≡ handing opens (at_ ∷ log ∷ []) (Load 0 found) → found ≡ E → V.calls < 2 ^ 40
        → AreHeld records then words (moved at 0 (record V { stage = free; calls = V.calls + 1; pending = V.pending ++ retirement V.steps at_ log found ∷ []; steps = V.steps + 1 }))
    retires is opens at_ log found whole same few = load_goes free is _ (writer.retires records E (account 0 past) e V opens at_ log found whole same few)
        (λ r l g. record_.retires past e (get_or words (active_word r) 0) (get_or words (epoch_word r) 0) r E V (at (suc r)).stage (at_made free is) g (V.calls + 1) (V.steps + 1) (retirement V.steps at_ log found) same)

    polls : V.stage ≡ free → (found : ℕ) → found ≡ E → V.calls < 2 ^ 40 → AreHeld records then words (moved at 0 (record (dispatch (found - 2) V) { stage = scanning polling found 0 None; calls = V.calls + 1; steps = V.steps + 1 }))
    polls is found same few = load_goes free is _ (writer.polls records E (account 0 past) e V found same few)
        (λ r l g. record_.polls past e (get_or words (active_word r) 0) (get_or words (epoch_word r) 0) r E V (at (suc r)).stage (at_made free is) g (V.calls + 1) (V.steps + 1) found same h.writer.late (low 0 free is refl))

    begins : V.stage ≡ free → (all : Bool) (found : ℕ) → found ≡ E → V.calls < 2 ^ 40
        → AreHeld records then words (moved at 0 (record V { stage = scanning (first_round all V.steps) found 0 None; calls = V.calls + 1; steps = V.steps + 1 }))
    begins is all found same few = load_goes free is _ (writer.begins records E (account 0 past) e V all found same few)
        (λ r l g. record_.begins past e (get_or words (active_word r) 0) (get_or words (epoch_word r) 0) r E V (at (suc r)).stage (at_made free is) g (V.calls + 1) (V.steps + 1) all V.steps found)

    -- a scan passes a record that it found inactive
    module _ (task : Task) (v rec : ℕ) (busy : Option ℕ) (is : V.stage ≡ scanning task v rec busy) (below : rec < records) where
      goes_past : (none : get_or words (active_word rec) 0 ≡ 0) → AreHeld records then words (moved at 0 (record V { stage = scanning task v (rec + 1) busy; steps = V.steps + 1 }))
      goes_past none = load_goes (scanning task v rec busy) is _ (λ w. writer.scans records E (account 0 past) e V task v rec busy w (rec + 1) busy (omega arith))
          (λ r l g. record_.passes_inactive past e (get_or words (active_word r) 0) (get_or words (epoch_word r) 0) r E V (at (suc r)).stage task v rec busy (at_made (scanning task v rec busy) is) g (V.steps + 1)
          (λ z. ap (λ (k : ℕ). get_or words (active_word k) 0) z ∙ none))

      meets : AreHeld records then words (moved at 0 (record V { stage = comparing task v rec busy; steps = V.steps + 1 }))
      meets = load_goes (scanning task v rec busy) is _ (λ w. writer.compares records E (account 0 past) e V task v rec busy w below)
          (λ r l g. record_.meets past e (get_or words (active_word r) 0) (get_or words (epoch_word r) 0) r E V (at (suc r)).stage task v rec busy (at_made (scanning task v rec busy) is) g (V.steps + 1))

    clears : (v rec : ℕ) → V.stage ≡ scanning polling v rec None → rec + 1 ≡ records → get_or words (active_word rec) 0 ≡ 0 → AreHeld records then words (moved at 0 (record (dispatch_all V) { stage = free; steps = V.steps + 1 }))
    clears v rec is last none = load_goes (scanning polling v rec None) is _ (λ w. writer.clears records E (account 0 past) e V v rec None w)
        (λ r l g. record_.clears past e (get_or words (active_word r) 0) (get_or words (epoch_word r) 0) r E V (at (suc r)).stage v rec (V.steps + 1) (at_made (scanning polling v rec None) is) g (omega arith)
        (λ z. ap (λ (k : ℕ). get_or words (active_word k) 0) z ∙ none))

    -- the record's epoch was compared
    module _ (task : Task) (v rec : ℕ) (busy : Option ℕ) (is : V.stage ≡ comparing task v rec busy) (below : rec < records) where
      abbrev Before : TokenState
      Before = at_stage V (scanning task v rec busy)

      before : IsWriterHeld records E (account 0 past) (at_stage V (comparing task v rec busy)) → IsWriterHeld records E (account 0 past) Before
      before w = writer.as_scanning records E (account 0 past) V task v rec busy w

      before_made : AreMade (count past 0) Before
      before_made = are_made records E (account 0 past) Before (before (at_writer (comparing task v rec busy) is))

      before_record : (r : ℕ) → IsRecordHeld past E (get_or words (active_word r) 0) (get_or words (epoch_word r) 0) r (at_stage V (comparing task v rec busy)) (at (suc r)).stage
          → IsRecordHeld past E (get_or words (active_word r) 0) (get_or words (epoch_word r) 0) r Before (at (suc r)).stage
      before_record r g = record_.as_scanning past E (get_or words (active_word r) 0) (get_or words (epoch_word r) 0) r V (at (suc r)).stage task v rec busy g

      goes_by : (found : ℕ) → get_or words (epoch_word rec) 0 ≡ v → AreHeld records then words (moved at 0 (record V { stage = scanning task v (rec + 1) (Some found); steps = V.steps + 1 }))
      goes_by found same = load_goes (comparing task v rec busy) is _ (λ w. writer.scans records E (account 0 past) e V task v rec busy (before w) (rec + 1) (Some found) (omega arith))
          (λ r l g. record_.passes_current past e (get_or words (active_word r) 0) (get_or words (epoch_word r) 0) r E V (at (suc r)).stage task v rec busy before_made (before_record r g) (V.steps + 1) found
          (λ z. ap (λ (k : ℕ). get_or words (epoch_word k) 0) z ∙ (same ∙ (at_writer (comparing task v rec busy) is).scan.0)))

      repeats : AreHeld records then words (moved at 0 (record V { stage = scanning task v rec busy; steps = V.steps + 1 }))
      repeats = load_goes (comparing task v rec busy) is _ (λ w. writer.scans records E (account 0 past) e V task v rec busy (before w) rec busy (omega arith))
          (λ r l g. record_.repeats past e (get_or words (active_word r) 0) (get_or words (epoch_word r) 0) r E V (at (suc r)).stage task v rec busy before_made (before_record r g) (V.steps + 1))

    gives_up : (v rec : ℕ) (busy : Option ℕ) → V.stage ≡ comparing polling v rec busy → rec < records → AreHeld records then words (moved at 0 (record V { stage = free; steps = V.steps + 1 }))
    gives_up v rec busy is below = load_goes (comparing polling v rec busy) is _ (λ w. writer.gives_up records E (account 0 past) e V v rec busy (before polling v rec busy is below w))
        (λ r l g. record_.gives_up past e (get_or words (active_word r) 0) (get_or words (epoch_word r) 0) r E V (at (suc r)).stage polling v rec busy (before_made polling v rec busy is below) (before_record polling v rec busy is below r g) (V.steps + 1))

    goes_on : (all : Bool) (started found : ℕ) → V.stage ≡ between all started → found ≡ E → AreHeld records then words (moved at 0 (record V { stage = scanning (second_round all started) found 0 None; steps = V.steps + 1 }))
    goes_on all started found is same = load_goes (between all started) is _ (writer.goes_on records E (account 0 past) e V all started found same)
        (λ r l g. record_.goes_on past e (get_or words (active_word r) 0) (get_or words (epoch_word r) 0) r E V (at (suc r)).stage all started found (V.steps + 1) (at_made (between all started) is) g)

    -- the global epoch rises, as it is the one that was loaded
    module _ (v : ℕ) (busy : Option ℕ) where
      raise_goes : (s : Stage) → V.stage ≡ s → v ≡ E → (t : TokenState) → (IsWriterHeld records E (account 0 past) (at_stage V s) → IsWriterHeld records (E + 1) (account 0 past ++ e ∷ []) t)
          → ((r : ℕ) → r < records → IsRecordHeld past E (get_or words (active_word r) 0) (get_or words (epoch_word r) 0) r (at_stage V s) (at (suc r)).stage
          → IsRecordHeld then (E + 1) (get_or words (active_word r) 0) (get_or words (epoch_word r) 0) r t (at (suc r)).stage)
          → AreHeld records then (set words 0 (v + 1)) (moved at 0 t)
      raise_goes s is same t mine turns = let w = h.wide in
          writer_goes s is e t (set words 0 (v + 1)) (E + 1) (length-set words 0 (v + 1)) (get_or-set_same words 0 (v + 1) 0 (omega arith) ∙ ap (λ (k : ℕ). k + 1) same)
          (λ i l _. get_or-set_other words 0 i (v + 1) 0 (omega arith)) (mine (at_writer s is)) turns

      raises : (task : Task) → V.stage ≡ scanning task v records busy → AreHeld records then (set words 0 (v + 1)) (moved at 0 (record (after_raise V task v) { steps = V.steps + 1 }))
      raises polling is = let s : Stage = scanning polling v records busy in let same = (at_writer s is).scan.0 in
          raise_goes s is same _ (λ w. writer.raises records E (account 0 past) e V v records busy w)
          (λ r l g. record_.raises past e (get_or words (active_word r) 0) (get_or words (epoch_word r) 0) r E V (at (suc r)).stage v records busy l (V.steps + 1) same h.writer.late (low 0 s is refl) (at_made s is) g)
      raises (first_round all started) is = let s : Stage = scanning (first_round all started) v records busy in let same = (at_writer s is).scan.0 in
          raise_goes s is same _ (λ w. writer.raises_first records E (account 0 past) e V all started v records busy w)
          (λ r l g. record_.raises_first past e (get_or words (active_word r) 0) (get_or words (epoch_word r) 0) r E V (at (suc r)).stage v records busy l (V.steps + 1) all started (at_made s is) g)
      raises (second_round all started) is = let s : Stage = scanning (second_round all started) v records busy in let same = (at_writer s is).scan.0 in
          raise_goes s is same _ (λ w. writer.raises_second records E (account 0 past) e V all started v records busy w)
          (λ r l g. record_.raises_second past e (get_or words (active_word r) 0) (get_or words (epoch_word r) 0) r E V (at (suc r)).stage v records busy l (V.steps + 1) all started (low 1 s is refl) (at_made s is) g)

    -- the load of the global epoch at which a call of the writer's begins
    opened : (o i : List ℕ) (found : ℕ) → V.stage ≡ free → e ≡ handing o i (Load 0 found) → found ≡ E → V.calls < 2 ^ 40 → Retires i ⊎ Calls poll o i ⊎ Calls synchronize o i ⊎ Calls barrier o i
        → AreHeld records then words (moved at 0 (record (after_load V o i found) { steps = V.steps + 1 }))
    opened o i found is whole same few may = ⊎_elim
        (λ (m : Retires i). subst (λ (l : List ℕ). AreHeld records then words (moved at 0 (record (after_load V o l found) { steps = V.steps + 1 }))) (sym m.2)
        (retires is o m.0 m.1 found (whole ∙ ap (λ (l : List ℕ). handing o l (Load 0 found)) m.2) same few))
        (λ others. ⊎_elim
        (λ (m : Calls poll o i). by_name poll m (polls is found same few))
        (λ rounds. ⊎_elim (λ (m : Calls synchronize o i). by_name synchronize m (begins is false found same few)) (λ (m : Calls barrier o i). by_name barrier m (begins is true found same few)) rounds) others) may
      where
        by_name : (name : ℕ) → Calls name o i → AreHeld records then words (moved at 0 (record (after_load V (name ∷ []) [] found) { steps = V.steps + 1 }))
            → AreHeld records then words (moved at 0 (record (after_load V o i found) { steps = V.steps + 1 }))
        by_name name m held = subst (λ (l : List ℕ × List ℕ). AreHeld records then words (moved at 0 (record (after_load V l.0 l.1 found) { steps = V.steps + 1 }))) (λ j. (sym m.0 j, sym m.1 j)) held

    -- the record was found inactive
    inactive : (task : Task) (v rec : ℕ) (busy : Option ℕ) → V.stage ≡ scanning task v rec busy → rec < records → get_or words (active_word rec) 0 ≡ 0
        → AreHeld records then words (moved at 0 (record (after_record records V task v rec busy) { steps = V.steps + 1 }))
    inactive task v rec busy is below none = by_test ((rec + 1 == records) && is_clear task busy) refl
      where
        by_test : (b : Bool) → ((rec + 1 == records) && is_clear task busy) ≡ b
            → AreHeld records then words (moved at 0 (record (cond b (record (dispatch_all V) { stage = free }) (record V { stage = scanning task v (rec + 1) busy })) { steps = V.steps + 1 }))
        by_test true z = let c = clear_is (rec + 1 == records) task busy z in
            clears v rec (is ∙ (λ i. scanning (c.1 i) v rec (c.2 i))) (eqb-true (rec + 1) records c.0) none
        by_test false z = goes_past task v rec busy is below none

    -- its epoch was compared
    compared : (task : Task) (v rec x : ℕ) (busy : Option ℕ) → V.stage ≡ comparing task v rec busy → rec < records → x ≡ get_or words (epoch_word rec) 0
        → AreHeld records then words (moved at 0 (record (cond (x == v) (after_record records V task v rec (first_busy busy rec)) (after_blocked V task v rec busy)) { steps = V.steps + 1 }))
    compared task v rec x busy is below fits = by_test (x == v) refl
      where
        goes : (found : Option ℕ) → ((r : ℕ) → found ≡ Some r → get_or words (epoch_word rec) 0 ≡ v → AreHeld records then words (moved at 0 (record (after_record records V task v rec found) { steps = V.steps + 1 })))
        goes found r z same = subst (λ (b : Bool). AreHeld records then words (moved at 0 (record (cond b (record (dispatch_all V) { stage = free }) (record V { stage = scanning task v (rec + 1) found })) { steps = V.steps + 1 })))
            (sym (never_clear (rec + 1 == records) task found r z))
            (subst (λ (f : Option ℕ). AreHeld records then words (moved at 0 (record V { stage = scanning task v (rec + 1) f; steps = V.steps + 1 }))) (sym z) (goes_by task v rec busy is below r same))

        passed : (b : Option ℕ) → get_or words (epoch_word rec) 0 ≡ v → AreHeld records then words (moved at 0 (record (after_record records V task v rec (first_busy b rec)) { steps = V.steps + 1 }))
        passed None same = goes (Some rec) rec refl same
        passed (Some r) same = goes (Some r) r refl same

        blocked : (t : Task) → t ≡ task → AreHeld records then words (moved at 0 (record (after_blocked V t v rec busy) { steps = V.steps + 1 }))
        blocked polling z = gives_up v rec busy (is ∙ λ i. comparing (sym z i) v rec busy) below
        blocked (first_round all s) z = repeats (first_round all s) v rec busy (is ∙ λ i. comparing (sym z i) v rec busy) below
        blocked (second_round all s) z = repeats (second_round all s) v rec busy (is ∙ λ i. comparing (sym z i) v rec busy) below

        by_test : (b : Bool) → (x == v) ≡ b
            → AreHeld records then words (moved at 0 (record (cond b (after_record records V task v rec (first_busy busy rec)) (after_blocked V task v rec busy)) { steps = V.steps + 1 }))
        by_test true z = passed busy (sym fits ∙ eqb-true x v z)
        by_test false z = blocked task refl

    writer_kind : (g : Stage) (s : Step) (o i : List ℕ) → V.stage ≡ g → e ≡ handing o i s → MayStep records V o i g s → Fits words s
        → AreHeld records then (words_after words s) (moved at 0 (record (after_step records V o i g s) { steps = V.steps + 1 }))
    writer_kind free (Store a x) o i is whole may fits = let high = may.0 in writer_elsewhere is (set words a x) (length-set words a x) (λ j l. get_or-set_other words a j x 0 (omega arith))
    writer_kind free (Load a x) o i is whole may fits = ⊎_elim
        (λ m. subst (λ (b : Bool). AreHeld records then words (moved at 0 (record (cond b (after_load V o i x) V) { steps = V.steps + 1 }))) (sym (lt_yes a (base records) (let z = m.0 in omega arith)))
        (opened o i x is (whole ∙ ap (λ (k : ℕ). handing o i (Load k x)) m.0) (fits ∙ ap (λ (k : ℕ). get_or words k 0) m.0) m.1 m.2))
        (λ m. subst (λ (b : Bool). AreHeld records then words (moved at 0 (record (cond b (after_load V o i x) V) { steps = V.steps + 1 }))) (sym (lt_no a (base records) m.0))
        (writer_elsewhere is words refl (λ j l. refl))) may
    writer_kind (scanning task v rec busy) (Load a x) o i is whole may fits = by_test (x == 0) refl
      where
        found : x ≡ get_or words (active_word rec) 0
        found = fits ∙ ap (λ (k : ℕ). get_or words k 0) may.0

        by_test : (b : Bool) → (x == 0) ≡ b
            → AreHeld records then words (moved at 0 (record (cond b (after_record records V task v rec busy) (record V { stage = comparing task v rec busy })) { steps = V.steps + 1 }))
        by_test true z = inactive task v rec busy is may.1 (sym found ∙ eqb-true x 0 z)
        by_test false z = meets task v rec busy is may.1
    writer_kind (scanning task v rec busy) (Exchange a old new x) o i is whole may fits =
        let same : v ≡ E = (at_writer (scanning task v rec busy) is).scan.0 in
        let meets_it : x ≡ old = fits ∙ (ap (λ (k : ℕ). get_or words k 0) may.0 ∙ (sym same ∙ sym may.2)) in
        subst (λ (z : ℕ × ℕ). AreHeld records then (set words z.0 z.1) (moved at 0 (record (after_raise V task v) { steps = V.steps + 1 })))
        (λ j. (sym may.0 j, (sym may.3 ∙ ap (λ (b : Bool). cond b new x) (sym (eq-eqb x old meets_it))) j))
        (raises v busy task (is ∙ ap (λ (k : ℕ). scanning task v k busy) may.1))
    writer_kind (comparing task v rec busy) (Load a x) o i is whole may fits = compared task v rec x busy is may.1 (fits ∙ ap (λ (k : ℕ). get_or words k 0) may.0)
    writer_kind (between all started) (Load a x) o i is whole may fits = goes_on all started x is (fits ∙ ap (λ (k : ℕ). get_or words k 0) may.0)
    writer_kind outside s o i is whole may fits = absurd (not_reading outside is tt)
    writer_kind entering s o i is whole may fits = absurd (not_reading entering is tt)
    writer_kind (holding g) s o i is whole may fits = absurd (not_reading (holding g) is tt)
    writer_kind (inside d g) s o i is whole may fits = absurd (not_reading (inside d g) is tt)
    writer_kind g s o i is whole may fits = absurd may

-- What holds of a domain is kept by each step of its tokens
pub keeps : (records : ℕ) → IsInvariantAlong (next records) (May records) (AreHeld records)
keeps records past words at zero e h may fits = writer_kind records past words at h e (at 0).stage e.step e.opens e.item refl refl may fits
keeps records past words at (suc q) e h may fits = pass_kind records past words at h q e (at (suc q)).stage e.step e.opens e.item refl refl may fits
