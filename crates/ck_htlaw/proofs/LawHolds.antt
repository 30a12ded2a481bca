-- The law of a table holds.
use Rattle.std.proofs.Common.{◌≡◌, ◌≢◌, ℕ, zero, suc, ◌+◌, ◌*◌, ◌<◌, ◌≤◌, ◌⊎◌, ⊎_elim, inl, inr, Bool, true, false, not, cond, ◌==◌, ◌&&◌, List, [], ◌∷◌, ◌++◌, length, get_or, refl, sym, ap, ◌∙◌, subst, arith, append-nil, append_assoc, length-append, ne_eqb}
use Rattle.std.proofs.lemmas.Bool.{eqb-true}
use Rattle.std.specs.Prelude.{Option, Some, None}
use Rattle.std.specs.Ordering.{nat_cmp}
use Rattle.ck_run.specs.declared.account.Step.{Step}
use Rattle.ck_run.specs.declared.account.Step.TheVariants.{Load}
use Rattle.ck_run.specs.declared.account.Entry.{Entry}
use Rattle.ck_run.specs.Run.{Run, Fits, words_after, replay, account}
use Rattle.ck_run.specs.Range.{word_of}
use Rattle.ck_run.proofs.Runs.{replay-append, account-append}
use Rattle.ck_run.proofs.Law.{moved_here, moved_else}
use Rattle.ck_history.specs.declared.log.LogEntry.{LogEntry}
use Rattle.ck_history.specs.Map.{find}
use Rattle.ck_slots.specs.Slots.{Order, SlotsView}
use Rattle.ck_slots.specs.Standing.{StandFor}
use Rattle.ck_epoch.specs.State.{Origin, base_of, records_of}
use Rattle.ck_epoch.specs.Epochs.{IsOpen, Reclamation}
use Rattle.ck_epoch.specs.Within.{IsWithin}
use Rattle.ck_reclaim.specs.Reclaim.{ReclaimsPieces}
use Rattle.ck_htlaw.specs.Host.{Host}
use Rattle.ck_htlaw.specs.Regions.{regions}
use Rattle.ck_htlaw.specs.Calls.{key_of, is_single_load}
use Rattle.ck_htlaw.specs.Stages.{Stage, idle, twice, before_tombstone, with_tombstone, retiring_at_end, Maps}
use Rattle.ck_htlaw.specs.Look.{LookState, no_look, at_version, at_state, at_low, at_high, at_value, checking_value, checking_absence, counted, LookInvariant}
use Rattle.ck_htlaw.specs.Trace.{Scene, goes}
use Rattle.ck_htlaw.specs.Table.{Layout, view, count, WriterState, ReaderState, LocalState, writer, reader, is_table_word, linearized_of, after_own, after_other, after_look_step, is_section, MayIf, MayLook, MayLookStep, MayWriterStep, IsLoad, Action, mark}
use Rattle.ck_htlaw.specs.Actions.{action}
use Rattle.ck_reclaim.specs.Reclaim.{IsApartFromRetired}
use Rattle.ck_htlaw.specs.Layout.{region_item}
use Rattle.ck_htlaw.specs.Client.{look_ends, answers_after, table_next, table_may, table}
use Rattle.ck_htlaw.specs.Invariant.{IsRegion, IsDisjoint, IsUnpublishedBy, SideCondition, WriterInvariant, IsSoundAt, ReaderInvariant, SeesPresent, SeesReplaced, TableInvariant, owed}
use Rattle.ck_htlaw.specs.Linearized.{map_after, AreReplies, under_way, linearized_updates}
use Rattle.ck_htlaw.specs.Law.{AreOf, copies_of, copies_by, look_state_of, retries_of, local_in, answers_in, log_in, updates_in, linearized, map_in, root_in, WordsStand, IsLook, until, GaveWithin, KeepsRegion, TableLaw}
use Rattle.ck_htlaw.specs.Answers.{maps_of, then, IsWithinLook, IsGiven, map_at}
use Rattle.ck_htlaw.proofs.Replacing.{not_both}
use Rattle.ck_htlaw.proofs.Scenes.{after-append, after_words}
use Rattle.ck_htlaw.proofs.AtOpening.{opening}
use Rattle.ck_htlaw.proofs.Reclaim.{first, from, l as layout_in, IsTrue, scene, Holds, local_is, is_free, free_item, may, fits, side, look_loads, true_false, range_in, is_out}
use Rattle.ck_htlaw.proofs.Always.{always_at}
use Rattle.ck_htlaw.proofs.Soundness.{plan_right}
use Rattle.ck_htlaw.proofs.Lives.{opt}
use Rattle.ck_htlaw.proofs.Logging.{HasLog, has_log, linearized_is, linearized_grow}
use Rattle.ck_htlaw.proofs.Standing.{stood}
use Rattle.ck_htlaw.proofs.Arena.{region}
use Rattle.ck_htlaw.proofs.Frozen.{MayChange, Leaves, word_left, leaves_else, leaves_load, leaves_store, slots_far, counter_far}
use Rattle.ck_htlaw.proofs.Answered.{found_is_given, absent_is_given}

look_states : (h : LocalState) → look_state_of h ≡ look_state_of h
look_states (writer p) = refl
look_states (reader y) = refl

-- the last load of a look
record Ends (look_state : LookState) (s : Step) (k : ℕ) (x : Option ℕ) : Type 0 where
  c : ℕ
  word : ℕ
  load : s ≡ Load word c
  which : ((z : ℕ) × (x ≡ Some z) × (look_state ≡ checking_value k c z)) ⊎ ((x ≡ None) × (look_state ≡ checking_absence k c))

-- a look's last step answers
ends : (look_state : LookState) (s : Step) (k : ℕ) (x : Option ℕ) → look_ends look_state s ≡ (k, x) ∷ [] → Ends look_state s k x
ends (checking_value j c z) (Load a n) k x e = by (c == n) refl e
  where
    by : (b : Bool) → (c == n) ≡ b → cond {A = List (ℕ × Option ℕ)} b ((j, Some z) ∷ []) [] ≡ (k, x) ∷ [] → Ends (checking_value j c z) (Load a n) k x
    by true is e = let same : c ≡ n = eqb-true c n is in let pair : ◌≡◌ {A = ℕ × Option ℕ} (j, Some z) (k, x) = cc in
        record { c = c; word = a; load = ap (λ (i : ℕ). Load a i) (sym same); which = inl (z, sym (ap (λ (p : ℕ × Option ℕ). p.1) pair), ap (λ (p : ℕ × Option ℕ). checking_value p.0 c z) pair) }
    by false is e = absurd cc
ends (checking_absence j c) (Load a n) k x e = by (c == n) refl e
  where
    by : (b : Bool) → (c == n) ≡ b → cond {A = List (ℕ × Option ℕ)} b ((j, None) ∷ []) [] ≡ (k, x) ∷ [] → Ends (checking_absence j c) (Load a n) k x
    by true is e = let same : c ≡ n = eqb-true c n is in let pair : ◌≡◌ {A = ℕ × Option ℕ} (j, None) (k, x) = cc in
        record { c = c; word = a; load = ap (λ (i : ℕ). Load a i) (sym same); which = inr (sym (ap (λ (p : ℕ × Option ℕ). p.1) pair), ap (λ (p : ℕ × Option ℕ). checking_absence p.0 c) pair) }
    by false is e = absurd cc
ends look_state s k x e = absurd cc

both_true : (a b : Bool) → (a && not b) ≡ true → (a ≡ true) × (b ≡ false)
both_true true false e = (refl, refl)
both_true true true e = absurd cc
both_true false b e = absurd cc

at_most : (g : Stage) (d : LogEntry ℕ) → length (under_way g d) ≤ 1
at_most (twice from w) d = omega arith
at_most (before_tombstone from w) d = omega arith
at_most with_tombstone d = omega arith
at_most (retiring_at_end old) d = omega arith
at_most g d = omega arith

module _ {D : Type 0} (host : Host D) (within : IsWithin table host.client host.place host.part) (law : Reclamation D) (pieces : ReclaimsPieces (regions host)) (origin : Origin D) where
  abbrev l : Layout
  l = layout_in host within law pieces origin

  plan_ok : (ws : List ℕ) (p : WriterState) (e : Entry) → WriterInvariant l ws p → IsSoundAt l ws p.root (p.maps p.linearized) (action l p e) p.stage
  plan_ok = plan_right l (λ root. ((λ k. refl), (λ k. refl)))

  abbrev True : Run → Type 0
  True run = IsTrue host within law pieces origin run

  abbrev sc : Run → Scene LocalState (ℕ → ℕ)
  sc run = scene host within law pieces origin run

  local : (run : Run) (n : ℕ) → (sc run).at n ≡ local_in host origin run n
  local run n = local_is host within law pieces origin run n

  words : (run : Run) → (sc run).words ≡ replay origin.words run
  words run = after_words (table_next l) (table_may l) mark (SideCondition l (action l)) (opening l origin.words) run

  module _ (past more : Run) (r : True (past ++ more)) where
    held : Holds host within law pieces origin past
    held = always_at host within law pieces origin plan_ok past more r

    logs : HasLog host within law pieces origin plan_ok past
    logs = has_log host within law pieces origin plan_ok past more r

    all_linearized : updates_in host origin past ≡ logs.us
    all_linearized = linearized_is logs.writer_state (answers_in host origin past) logs.us logs.local logs.logs

    same_writer : held.is_table.writer_state ≡ logs.writer_state
    same_writer = let z : writer held.is_table.writer_state ≡ writer logs.writer_state = sym held.is_table.is_writer ∙ logs.at_writer in cc

    -- the map at this moment
    map_is : (k : ℕ) → find nat_cmp (map_in host origin past) k ≡ opt (map_at (sc past) k)
    map_is k = ap (λ (us : List (LogEntry ℕ)). find nat_cmp (map_after us) k) all_linearized ∙ (sym (logs.logs.pairs k) ∙ sym (ap (λ (h : LocalState). opt (maps_of h (linearized_of h) k)) logs.at_writer))

    place_is : linearized host origin past ≡ linearized_of ((sc past).at 0)
    place_is = let a = logs.logs in ap length all_linearized ∙ (ap length a.is ∙ (length-append (answers_in host origin past).log (under_way logs.writer_state.stage (answers_in host origin past).due) ∙ (ap (λ (n : ℕ). n + length (under_way logs.writer_state.stage (answers_in host origin past).due)) a.count ∙ (sym a.linearized_is ∙ sym (ap linearized_of logs.at_writer)))))

    stands : WordsStand host origin past
    stands = let p = logs.writer_state in
        let h : WriterInvariant l (replay origin.words past) p = subst (λ (x : List ℕ × WriterState). WriterInvariant l x.0 x.1) (λ i. (words past i, same_writer i)) held.is_table.holds in
        let s = stood (l.order p.root) (view l (replay origin.words past) p.root) p.maps p.linearized p.stage h.map in
        let root = h.root in
        let copies : copies_of p.stage ≡ copies_by (local_in host origin past 0) = ap copies_by (sym logs.at_writer ∙ local past 0) in
        let pairs : (λ k. opt (p.maps p.linearized k)) ≡ (λ k. find nat_cmp (map_in host origin past) k) = λ i k. (logs.logs.pairs k ∙ sym (ap (λ (us : List (LogEntry ℕ)). find nat_cmp (map_after us) k) all_linearized)) i in
        subst (λ (x : ℕ). StandFor (l.order x) (view l (replay origin.words past) x) (copies_by (local_in host origin past 0)) (λ k. find nat_cmp (map_in host origin past) k)) (sym root)
        (subst (λ (x : ℕ → Option ℕ). StandFor (l.order p.root) (view l (replay origin.words past) p.root) (copies_by (local_in host origin past 0)) x) pairs
        (subst (λ c. StandFor (l.order p.root) (view l (replay origin.words past) p.root) c (λ k. opt (p.maps p.linearized k))) copies s))

    replied : AreReplies (updates_in host origin past)
    replied = subst AreReplies (sym all_linearized) logs.logs.replies

    has_all_but_one : (more : List (LogEntry ℕ)) × (updates_in host origin past ≡ log_in host origin past ++ more) × (length more ≤ 1)
    has_all_but_one = (under_way logs.writer_state.stage (answers_in host origin past).due, all_linearized ∙ logs.logs.is, at_most logs.writer_state.stage (answers_in host origin past).due)

    bounded : (r : ℕ) (p : WriterState) → local_in host origin past 0 ≡ writer p → p.stage ≡ idle → retries_of (local_in host origin past (suc r)) ≤ 2 * length (log_in host origin past)
    bounded r p at_p is =
        let writer_state : writer held.is_table.writer_state ≡ writer p = sym held.is_table.is_writer ∙ (local past 0 ∙ at_p) in
        let same : held.is_table.writer_state ≡ p = cc in
        let reader_state = held.is_table.readers r in let a = reader_state.2.retries in let b = held.is_table.holds.bumps in
        let at_rest : owed held.is_table.writer_state.stage ≡ 0 = ap (λ (q : WriterState). owed q.stage) same ∙ ap owed is in
        let answered : length (log_in host origin past) ≡ held.is_table.writer_state.log = logs.logs.count ∙ ap (λ (q : WriterState). q.log) (sym same_writer) in
        subst (λ (h : LocalState). retries_of h ≤ 2 * length (log_in host origin past)) (sym reader_state.1 ∙ local past (suc r)) (omega arith)

  -- what a look's step finds
  module _ (past more : Run) (r : ℕ) (e : Entry) (t : True (past ++ (suc r, e) ∷ more)) (own : (is_table_word l e.step && not (is_single_load e.opens)) ≡ true) where
    abbrev h : Holds host within law pieces origin past
    h = held past ((suc r, e) ∷ more) t

    abbrev y : ReaderState
    y = (h.is_table.readers r).0

    at_y : (sc past).at (suc r) ≡ reader y
    at_y = (h.is_table.readers r).1

    may_look_step : MayLookStep l y.root y.look_state e.step
    may_look_step = let b = both_true (is_table_word l e.step) (is_single_load e.opens) own in
        let m = subst (λ (x : LocalState). table_may l x e) at_y (may host within law pieces origin plan_ok past (suc r) e more t h) in
        (subst (λ (c : Bool). MayLook l (action l) key_of c y e) b.1 (subst (λ (c : Bool). MayIf l (action l) key_of c (reader y) e) b.0 m)).0

    fit : Fits (sc past).words e.step
    fit = fits host within law pieces origin plan_ok past (suc r) e more t h

    look_state_is : (look_state : LookState) → look_state_of (local_in host origin past (suc r)) ≡ look_state → y.look_state ≡ look_state
    look_state_is look_state is = ap look_state_of (sym at_y ∙ local past (suc r)) ∙ is

    -- the last load loads the counter
    counter_word : (look_state : LookState) (word n : ℕ) → (((k : ℕ) × (c : ℕ) × (x : ℕ) × (look_state ≡ checking_value k c x)) ⊎ ((k : ℕ) × (c : ℕ) × (look_state ≡ checking_absence k c))) → y.look_state ≡ look_state → e.step ≡ Load word n → word ≡ l.counter y.root
    counter_word look_state word n which is load = let m : MayLookStep l y.root look_state (Load word n) = subst (λ (x : LookState × Step). MayLookStep l y.root x.0 x.1) (λ i. (is i, load i)) may_look_step in
        ⊎_elim (λ g. subst (λ (x : LookState). MayLookStep l y.root x (Load word n)) g.3 m) (λ g. subst (λ (x : LookState). MayLookStep l y.root x (Load word n)) g.2 m) which

    counter : (look_state : LookState) (word n : ℕ) → (((k : ℕ) × (c : ℕ) × (x : ℕ) × (look_state ≡ checking_value k c x)) ⊎ ((k : ℕ) × (c : ℕ) × (look_state ≡ checking_absence k c))) → y.look_state ≡ look_state → e.step ≡ Load word n → n ≡ count l (sc past).words y.root
    counter look_state word n which is load = let f : Fits (sc past).words (Load word n) = subst (Fits (sc past).words) load fit in
        f ∙ ap (λ (a : ℕ). get_or (sc past).words a 0) (counter_word look_state word n which is load)

    -- and it has risen, or stands
    risen : (look_state : LookState) (c : ℕ) → y.look_state ≡ look_state → (look_state ≡ no_look → ⊥) → ((o : Order) (v : SlotsView) (maps : Maps) (q : ℕ) (g : Stage) (now s : ℕ) → LookInvariant o v maps q g now s look_state → c ≤ now) → c ≤ count l (sc past).words y.root
    risen look_state c is not_out tells = let p = h.is_table.writer_state in let ws = (sc past).words in let s = (sc past).note (suc r) in ⊎_elim
        (λ (u : SeesPresent l ws p s y). subst (λ (root : ℕ). c ≤ count l ws root) (sym u.root) (tells (l.order p.root) (view l ws p.root) p.maps p.linearized p.stage (count l ws p.root) s (subst (LookInvariant (l.order p.root) (view l ws p.root) p.maps p.linearized p.stage (count l ws p.root) s) is u.is_reader)))
        (λ (u : SeesReplaced l ws p s y). tells (l.order y.root) (view l ws y.root) p.maps u.place idle (count l ws y.root) s (subst (LookInvariant (l.order y.root) (view l ws y.root) p.maps u.place idle (count l ws y.root) s) is u.is_reader))
        ((h.is_table.readers r).2.looks (λ z. not_out (sym is ∙ z)))

    again : (word c n : ℕ) → e.step ≡ Load word n → (((k : ℕ) × (x : ℕ) × (y.look_state ≡ checking_value k c x)) ⊎ ((k : ℕ) × (y.look_state ≡ checking_absence k c))) → (word ≡ l.counter y.root) × (c ≤ n)
    again word c n load which = ⊎_elim
        (λ g. let h : LookState = checking_value g.0 c g.1 in
        (counter_word h word n (inl (g.0, c, g.1, refl)) g.2 load, subst (λ (i : ℕ). c ≤ i) (sym (counter h word n (inl (g.0, c, g.1, refl)) g.2 load)) (risen h c g.2 (λ z. cc) (λ o v maps q st now s z. z.risen))))
        (λ g. let h : LookState = checking_absence g.0 c in
        (counter_word h word n (inr (g.0, c, refl)) g.1 load, subst (λ (i : ℕ). c ≤ i) (sym (counter h word n (inr (g.0, c, refl)) g.1 load)) (risen h c g.1 (λ z. cc) (λ o v maps q st now s z. z.risen)))) which

    -- the reader that the run tells is this one
    is_reader : (z : ReaderState) → local_in host origin past (suc r) ≡ reader z → y ≡ z
    is_reader z is = let hands : reader y ≡ reader z = sym at_y ∙ (local past (suc r) ∙ is) in cc

  -- the answer of a look
  abbrev after_run : Scene LocalState (ℕ → ℕ) → Run → Scene LocalState (ℕ → ℕ)
  after_run w run = then l (action l) key_of w run

  scene_then : (past run : Run) → sc (past ++ run) ≡ after_run (sc past) run
  scene_then past run = after-append (table_next l) (table_may l) mark (SideCondition l (action l)) (opening l origin.words) past run

  within_look : (n : ℕ) (w : Scene LocalState (ℕ → ℕ)) (run : Run) → ((before behind : Run) → run ≡ before ++ behind → look_state_of ((after_run w before).at n) ≡ no_look → ⊥) → IsWithinLook l (action l) key_of n w run
  within_look n w [] h = tt
  within_look n w (x ∷ run) h = (h [] (x ∷ run) refl, within_look n (goes (table_next l) (table_may l) mark (SideCondition l (action l)) w x.0 x.1) run (λ before behind z. h (x ∷ before) behind (ap (λ (xs : Run). x ∷ xs) z)))

  module _ (past between more : Run) (r : ℕ) (e e' : Entry) (k : ℕ) (x : Option ℕ) (t : True (until past r e between ++ (suc r, e') ∷ more)) (look : IsLook host origin past r e between e')
      (last : look_ends (look_state_of (local_in host origin (until past r e between) (suc r))) e'.step ≡ (k, x) ∷ []) where
    abbrev rest_of : Run
    rest_of = (suc r, e') ∷ more

    whole : until past r e between ++ rest_of ≡ past ++ (suc r, e) ∷ (between ++ rest_of)
    whole = append_assoc past ((suc r, e) ∷ between) rest_of

    end : Ends (look_state_of (local_in host origin (until past r e between) (suc r))) e'.step k x
    end = ends (look_state_of (local_in host origin (until past r e between) (suc r))) e'.step k x last

    h0 : Holds host within law pieces origin past
    h0 = held past ((suc r, e) ∷ (between ++ rest_of)) (subst True whole t)

    abbrev h1 : Holds host within law pieces origin (until past r e between)
    h1 = held (until past r e between) rest_of t

    abbrev w' : Scene LocalState (ℕ → ℕ)
    w' = goes (table_next l) (table_may l) mark (SideCondition l (action l)) (sc past) (suc r) e

    scene_at : (before : Run) → sc (until past r e before) ≡ after_run w' before
    scene_at before = scene_then past ((suc r, e) ∷ before)

    starts : look_state_of ((sc past).at (suc r)) ≡ no_look
    starts = sym (look_states ((sc past).at (suc r))) ∙ (ap look_state_of (local past (suc r)) ∙ look.starts)

    is_within : IsWithinLook l (action l) key_of (suc r) w' between
    is_within = within_look (suc r) w' between (λ before behind z at_out. look.goes before behind z
        (ap look_state_of (sym (local (until past r e before) (suc r)) ∙ ap (λ (s : Scene LocalState (ℕ → ℕ)). s.at (suc r)) (scene_at before)) ∙ (look_states ((after_run w' before).at (suc r)) ∙ at_out)))

    table_last : TableInvariant l (after_run (sc past) ((suc r, e) ∷ between))
    table_last = subst (TableInvariant l) (scene_at between) h1.is_table

    abbrev y1 : ReaderState
    y1 = (h1.is_table.readers r).0

    at_y1 : (after_run (sc past) ((suc r, e) ∷ between)).at (suc r) ≡ reader y1
    at_y1 = sym (ap (λ (s : Scene LocalState (ℕ → ℕ)). s.at (suc r)) (scene_at between)) ∙ (h1.is_table.readers r).1

    y1_look_state : (look_state : LookState) → look_state_of (local_in host origin (until past r e between) (suc r)) ≡ look_state → y1.look_state ≡ look_state
    y1_look_state look_state is = look_state_is (until past r e between) more r e' t look.last look_state is

    was_counted : (look_state : LookState) → (((k : ℕ) × (c : ℕ) × (x : ℕ) × (look_state ≡ checking_value k c x)) ⊎ ((k : ℕ) × (c : ℕ) × (look_state ≡ checking_absence k c))) → y1.look_state ≡ look_state → end.c ≡ count l (after_run (sc past) ((suc r, e) ∷ between)).words y1.root
    was_counted look_state which is = counter (until past r e between) more r e' t look.last look_state end.word end.c which is end.load ∙ ap (λ (s : Scene LocalState (ℕ → ℕ)). count l s.words y1.root) (scene_at between)

    gave_within : (n : ℕ) → opt n ≡ x → IsGiven l (action l) key_of w' between k n → GaveWithin host origin past r e between k x
    gave_within n is g = let P : Run = until past r e g.before in
        let splits : until past r e between ++ rest_of ≡ P ++ (g.behind ++ rest_of) = ap (λ (b : Run). until past r e b ++ rest_of) g.splits
        ∙ (append_assoc past ((suc r, e) ∷ (g.before ++ g.behind)) rest_of ∙ (ap (λ (b : Run). past ++ (suc r, e) ∷ b) (append_assoc g.before g.behind rest_of) ∙ sym (append_assoc past ((suc r, e) ∷ g.before) (g.behind ++ rest_of)))) in
        let t' : True (P ++ (g.behind ++ rest_of)) = subst True splits t in
        record {
          before = g.before;
          behind = g.behind;
          splits = g.splits;
          gave = map_is P (g.behind ++ rest_of) t' k ∙ (ap (λ (s : Scene LocalState (ℕ → ℕ)). opt (map_at s k)) (scene_at g.before) ∙ (ap opt g.gives ∙ is));
          least = let a = place_is past ((suc r, e) ∷ (between ++ rest_of)) (subst True whole t) in let b = place_is P (g.behind ++ rest_of) t' in
              let c = ap (λ (s : Scene LocalState (ℕ → ℕ)). linearized_of (s.at 0)) (scene_at g.before) in let d = g.least in
              let f : linearized_of (w'.at 0) ≡ linearized_of ((sc past).at 0) = ap linearized_of (moved_else (sc past).at (suc r) 0 (table_next l ((sc past).at (suc r)) e) (λ z. absurd (omega arith))) in omega arith;
        }

    answered : GaveWithin host origin past r e between k x
    answered = ⊎_elim
        (λ g. let is = y1_look_state (checking_value k end.c g.0) g.2 in gave_within (suc g.0) (sym g.1)
        (found_is_given l (action l) key_of plan_ok (sc past) r e between h0.is_table starts table_last is_within y1 k end.c g.0 at_y1 is (was_counted (checking_value k end.c g.0) (inl (k, end.c, g.0, refl)) is)))
        (λ g. let is = y1_look_state (checking_absence k end.c) g.1 in gave_within 0 (sym g.0)
        (absent_is_given l (action l) key_of plan_ok (sc past) r e between h0.is_table starts table_last is_within y1 k end.c at_y1 is (was_counted (checking_absence k end.c) (inr (k, end.c, refl)) is)))
        end.which

  -- what is retired since a section opened isn't given again
  reclaimed : (past more : Run) (e : Entry) (p : WriterState) (root : ℕ) → True (past ++ (0, e) ∷ more) → local_in host origin past 0 ≡ writer p → is_table_word l e.step ≡ true → IsUnpublishedBy (action l p e) p.stage root
      → (r o : ℕ) → r < records_of origin → IsOpen past r o → IsApartFromRetired (regions host) origin past o (region_item (from host within law pieces origin) root)
  reclaimed past more e p root t at_p own begins_rebuild r o low section =
      let h = held past ((0, e) ∷ more) t in
      let at = local past 0 ∙ at_p in
      let f = is_free host within law pieces origin plan_ok past 0 e more t h refl own p root at begins_rebuild in
      pieces.retired origin past ((0, e) ∷ more) (region_item (from host within law pieces origin) root) t
      (free_item host within law pieces origin plan_ok past 0 e more t h p root at (λ other. not_both (action l p e) p.stage root other begins_rebuild) f) r o low section

  -- a region that was replaced keeps its words
  module _ (past more : Run) (n : ℕ) (e : Entry) (t : True (past ++ (n, e) ∷ more)) (r : ℕ) (y : ReaderState) (at : local_in host origin past (suc r) ≡ reader y) (looking : y.look_state ≡ no_look → ⊥) (old : y.root ≢ root_in host origin past) where
    abbrev hf : Holds host within law pieces origin past
    hf = held past ((n, e) ∷ more) t

    abbrev p : WriterState
    p = hf.is_table.writer_state

    abbrev ws : List ℕ
    ws = (sc past).words

    at_now : (sc past).at (suc r) ≡ reader y
    at_now = local past (suc r) ∙ at

    replaced_reader : SeesReplaced l ws p ((sc past).note (suc r)) y
    replaced_reader = let y0 = hf.is_table.readers r in let both : reader y0.0 ≡ reader y = sym y0.1 ∙ at_now in let same : y0.0 ≡ y = cc in
        let reader_state = subst (ReaderInvariant l ws p ((sc past).note (suc r))) same y0.2 in
        ⊎_elim (λ (u : SeesPresent l ws p ((sc past).note (suc r)) y). absurd (old (u.root ∙ (sym hf.is_table.holds.root ∙ ap (λ (w : List ℕ). get_or w l.base 0) (words past))))) (λ (u : SeesReplaced l ws p ((sc past).note (suc r)) y). u) (reader_state.looks looking)

    -- each word that the step may change is another
    leaves : (i : ℕ) → (l.base ≤ i) × (i < l.base + l.size) → ((a : Action) (g : Stage) → ((root : ℕ) → IsUnpublishedBy a g root → IsDisjoint l y.root root × IsRegion l (length ws) root) → (x : ℕ) → MayChange l ws p hf.is_table.holds a g x → x ≢ i) → Leaves e.step i
    leaves i own far = by (is_table_word l e.step) refl
      where
        by_token : (m : ℕ) → n ≡ m → is_table_word l e.step ≡ true → Leaves e.step i
        by_token zero z on = by_writer
          where
            writer_may : MayWriterStep l p (action l p e) p.stage e.step
            writer_may = let m = subst (λ (k : ℕ). table_may l ((sc past).at k) e) z (may host within law pieces origin plan_ok past n e more t hf) in
                (subst (λ (b : Bool). MayIf l (action l) key_of b (writer p) e) on (subst (λ (x : LocalState). table_may l x e) hf.is_table.is_writer m)).0

            hidden : (root : ℕ) → IsUnpublishedBy (action l p e) p.stage root → IsDisjoint l y.root root × IsRegion l (length ws) root
            hidden root begins_rebuild = let c = side host within law pieces origin plan_ok past n e more t hf z on p hf.is_table.is_writer in
                let f = is_free host within law pieces origin plan_ok past n e more t hf z on p root hf.is_table.is_writer begins_rebuild in
                (c.1 r y root at_now looking begins_rebuild, region (base_of origin) (first host within law pieces origin) _ _ (length ws) root f.piece hf.is_table.holds.fits)

            by_writer : Leaves e.step i
            by_writer = leaves_store l ws p hf.is_table.holds (action l p e) e.step i (plan_ok ws p e hf.is_table.holds) writer_may (λ root begins_rebuild. (hidden root begins_rebuild).1.some_slot) (far (action l p e) p.stage hidden)
        by_token (suc m) z on = leaves_load e.step i (by_look (is_single_load e.opens) (subst (λ (b : Bool). MayIf l (action l) key_of b (reader ym.0) e) on (subst (λ (x : LocalState). table_may l x e) ym.1 (subst (λ (k : ℕ). table_may l ((sc past).at k) e) z (may host within law pieces origin plan_ok past n e more t hf)))))
          where
            ym : (u : ReaderState) × ((sc past).at (suc m) ≡ reader u)
            ym = ((hf.is_table.readers m).0, (hf.is_table.readers m).1)

            by_look : (b : Bool) → MayLook l (action l) key_of b ym.0 e → IsLoad e.step
            by_look true m = m
            by_look false m = look_loads l ym.0.root ym.0.look_state e.step m.0

        by : (b : Bool) → is_table_word l e.step ≡ b → Leaves e.step i
        by true on = by_token n refl on
        by false off = leaves_else e.step i (λ z. true_false (is_table_word l e.step) (range_in l.base (l.base + l.size) (word_of e.step) (let a = own.0 in omega arith) (let b = own.1 in omega arith)) off)

    frozen_keeps : KeepsRegion host origin past (past ++ (n, e) ∷ []) y.root
    frozen_keeps = record {
      slots = λ s i b d. kept (l.word y.root s i) (leaves (l.word y.root s i) (replaced_reader.region.own s i b d) (λ a g hid x c. slots_far l ws p hf.is_table.holds a g y.root replaced_reader.region replaced_reader.apart hid x s i b d c));
      counter = kept (l.counter y.root) (leaves (l.counter y.root) replaced_reader.region.counter_own (λ a g hid x c. counter_far l ws p hf.is_table.holds a g y.root replaced_reader.region replaced_reader.apart hid x c));
    }
      where
        kept : (i : ℕ) → Leaves e.step i → get_or (replay origin.words (past ++ (n, e) ∷ [])) i 0 ≡ get_or (replay origin.words past) i 0
        kept i h = ap (λ (w : List ℕ). get_or w i 0) (replay-append origin.words past ((n, e) ∷ [])) ∙ word_left (replay origin.words past) e.step i h

  -- A look beside which no other token steps: its counter stands
  if_counted : (now c : ℕ) (b : Bool) (u v : LookState) → counted now u ≡ c → counted now v ≡ c → counted now (cond b u v) ≡ c
  if_counted now c true u v x z = x
  if_counted now c false u v x z = z

  even_after_look_step : (ws : List ℕ) (y : ReaderState) (key : ℕ) (look_state : LookState) (s : Step) → MayLookStep l y.root look_state s → Fits ws s → counted (count l ws y.root) look_state ≡ count l ws y.root
      → counted (count l ws (after_look_step l y key look_state s).root) (after_look_step l y key look_state s).look_state ≡ count l ws (after_look_step l y key look_state s).root
  even_after_look_step ws y key no_look (Load a x) m f h = refl
  even_after_look_step ws y key (at_version k) (Load a x) m f h = f ∙ ap (λ (i : ℕ). get_or ws i 0) m
  even_after_look_step ws y key (at_state k c i) (Load a x) m f h = if_counted _ _ (x == 0) (checking_absence k c) _ h (if_counted _ _ (x == 1) (at_low k c i) _ h (if_counted _ _ (suc i == (l.order y.root).slots) (checking_absence k c) (at_state k c (suc i)) h h))
  even_after_look_step ws y key (at_low k c i) (Load a x) m f h = h
  even_after_look_step ws y key (at_high k c i z) (Load a x) m f h =
      let on = if_counted (count l ws y.root) (count l ws y.root) (suc i == (l.order y.root).slots) (checking_absence k c) (at_state k c (suc i)) h h in
      if_counted _ _ (z == (l.order y.root).low_of k) _ _ (if_counted _ _ (x == (l.order y.root).high_of k) (at_value k c i) _ h on) on
  even_after_look_step ws y key (at_value k c i) (Load a x) m f h = h
  even_after_look_step ws y key (checking_value k c z) (Load a x) m f h = refl
  even_after_look_step ws y key (checking_absence k c) (Load a x) m f h = refl
  even_after_look_step ws y key look_state s m f h = absurd m

  abbrev Even : Run → ℕ → Type 0
  Even run r = (y : ReaderState) → (sc run).at (suc r) ≡ reader y → counted (count l (sc run).words y.root) y.look_state ≡ count l (sc run).words y.root

  module _ (past more : Run) (r : ℕ) (e : Entry) (t : True (past ++ (suc r, e) ∷ more)) (even : Even past r) where
    abbrev he : Holds host within law pieces origin past
    he = held past ((suc r, e) ∷ more) t

    abbrev ye : ReaderState
    ye = (he.is_table.readers r).0

    at_ye : (sc past).at (suc r) ≡ reader ye
    at_ye = (he.is_table.readers r).1

    even_now : counted (count l (sc past).words ye.root) ye.look_state ≡ count l (sc past).words ye.root
    even_now = even ye at_ye

    may_ye : table_may l (reader ye) e
    may_ye = subst (λ (x : LocalState). table_may l x e) at_ye (may host within law pieces origin plan_ok past (suc r) e more t he)

    next_is : (sc (past ++ (suc r, e) ∷ [])).at (suc r) ≡ table_next l (reader ye) e
    next_is = ap (λ (s : Scene LocalState (ℕ → ℕ)). s.at (suc r)) (scene_then past ((suc r, e) ∷ [])) ∙ (moved_here (sc past).at (suc r) (suc r) (table_next l ((sc past).at (suc r)) e) refl ∙ ap (λ (x : LocalState). table_next l x e) at_ye)

    words_are : (sc (past ++ (suc r, e) ∷ [])).words ≡ words_after (sc past).words e.step
    words_are = ap (λ (s : Scene LocalState (ℕ → ℕ)). s.words) (scene_then past ((suc r, e) ∷ []))

    load_same : (s : Step) → IsLoad s → words_after (sc past).words s ≡ (sc past).words
    load_same (Load a x) m = refl
    load_same s m = absurd m

    -- the counter of the region that is looked at is a word of the table's
    own_counter : (ye.look_state ≡ no_look → ⊥) → (l.base ≤ l.counter ye.root) × (l.counter ye.root < l.base + l.size)
    own_counter not_out = let p = he.is_table.writer_state in let ws = (sc past).words in let s = (sc past).note (suc r) in ⊎_elim
        (λ (u : SeesPresent l ws p s ye). subst (λ (root : ℕ). (l.base ≤ l.counter root) × (l.counter root < l.base + l.size)) (sym u.root) he.is_table.holds.region.counter_own)
        (λ (u : SeesReplaced l ws p s ye). u.region.counter_own) ((he.is_table.readers r).2.looks not_out)

    abbrev EvenOf : List ℕ → ReaderState → Type 0
    EvenOf ws y = counted (count l ws y.root) y.look_state ≡ count l ws y.root

    even_next : Even (past ++ (suc r, e) ∷ []) r
    even_next y at = subst (λ (ws : List ℕ). EvenOf ws y) (sym words_are) (by (is_table_word l e.step) refl may_ye (sym next_is ∙ at))
      where
        lone : (b : Bool) → MayLook l (action l) key_of b ye e → reader (cond b ye (after_look_step l ye (key_of e.opens) ye.look_state e.step)) ≡ reader y → EvenOf (words_after (sc past).words e.step) y
        lone true m is = let same : ye ≡ y = let u : reader ye ≡ reader y = is in cc in subst (EvenOf (words_after (sc past).words e.step)) same (subst (λ (ws : List ℕ). EvenOf ws ye) (sym (load_same e.step m)) even_now)
        lone false m is = let same : after_look_step l ye (key_of e.opens) ye.look_state e.step ≡ y = let u : reader (after_look_step l ye (key_of e.opens) ye.look_state e.step) ≡ reader y = is in cc in
            subst (EvenOf (words_after (sc past).words e.step)) same (subst (λ (ws : List ℕ). EvenOf ws (after_look_step l ye (key_of e.opens) ye.look_state e.step)) (sym (load_same e.step (look_loads l ye.root ye.look_state e.step m.0)))
            (even_after_look_step (sc past).words ye (key_of e.opens) ye.look_state e.step m.0 (fits host within law pieces origin plan_ok past (suc r) e more t he) even_now))

        elsewhere : is_table_word l e.step ≡ false → (b : Bool) → EvenOf (words_after (sc past).words e.step) (record ye { look_state = cond b no_look ye.look_state })
        elsewhere off true = refl
        elsewhere off false = ⊎_elim
            (λ (o : ye.look_state ≡ no_look). subst (λ (look_state : LookState). counted (count l (words_after (sc past).words e.step) ye.root) look_state ≡ count l (words_after (sc past).words e.step) ye.root) (sym o) refl)
            (λ (o : ye.look_state ≡ no_look → ⊥). let c = own_counter o in subst (λ (n : ℕ). counted n ye.look_state ≡ n)
            (sym (word_left (sc past).words e.step (l.counter ye.root) (leaves_else e.step (l.counter ye.root) (λ z. true_false (is_table_word l e.step) (range_in l.base (l.base + l.size) (word_of e.step) (let a = c.0 in omega arith) (let b = c.1 in omega arith)) off)))) even_now)
            (is_out ye.look_state)

        by : (b : Bool) → is_table_word l e.step ≡ b → MayIf l (action l) key_of b (reader ye) e → cond b (after_own l (action l) key_of (reader ye) e) (after_other l (reader ye) e) ≡ reader y → EvenOf (words_after (sc past).words e.step) y
        by true on m is = lone (is_single_load e.opens) m is
        by false off m is = let same : record ye { look_state = cond (is_section l e.step) no_look ye.look_state } ≡ y = let u : reader (record ye { look_state = cond (is_section l e.step) no_look ye.look_state }) ≡ reader y = is in cc in
            subst (EvenOf (words_after (sc past).words e.step)) same (elsewhere off (is_section l e.step))

  -- at the last step of such a look
  alone_even : (past run more : Run) (r : ℕ) → True (past ++ (run ++ more)) → AreOf (suc r) run → Even past r → Even (past ++ run) r
  alone_even past [] more r t only h = subst (λ (p : Run). Even p r) (sym (append-nil past)) h
  alone_even past (y ∷ run) more r t only h = let mine = only [] y.0 y.1 run refl in
      let t' = subst (λ (n : ℕ). True (past ++ (n, y.1) ∷ (run ++ more))) mine t in
      let e' : Even (past ++ (suc r, y.1) ∷ []) r = even_next past (run ++ more) r y.1 t' h in
      let e'' : Even (past ++ y ∷ []) r = subst (λ (n : ℕ). Even (past ++ (n, y.1) ∷ []) r) (sym mine) e' in
      subst (λ (p : Run). Even p r) (append_assoc past (y ∷ []) run)
      (alone_even (past ++ y ∷ []) run more r (subst True (sym (append_assoc past (y ∷ []) (run ++ more))) t) (λ before m d behind z. only (y ∷ before) m d behind (ap (λ (xs : Run). y ∷ xs) z)) e'')

  alone_same : (past between more : Run) (r : ℕ) (e e' : Entry) (word c n : ℕ) → True (until past r e between ++ (suc r, e') ∷ more) → IsLook host origin past r e between e' → AreOf (suc r) between → e'.step ≡ Load word n
      → (((k : ℕ) × (x : ℕ) × (look_state_of (local_in host origin (until past r e between) (suc r)) ≡ checking_value k c x)) ⊎ ((k : ℕ) × (look_state_of (local_in host origin (until past r e between) (suc r)) ≡ checking_absence k c))) → c ≡ n
  alone_same past between more r e e' word c n t look only load which =
      let h = held (until past r e between) ((suc r, e') ∷ more) t in let y = h.is_table.readers r in
      let first_even : Even past r = λ y at. let is : y.look_state ≡ no_look = ap look_state_of (sym at ∙ local past (suc r)) ∙ look.starts in subst (λ (look_state : LookState). counted (count l (sc past).words y.root) look_state ≡ count l (sc past).words y.root) (sym is) refl in
      let even = alone_even past ((suc r, e) ∷ between) ((suc r, e') ∷ more) r (subst True (append_assoc past ((suc r, e) ∷ between) ((suc r, e') ∷ more)) t) whole_only first_even in
      let now = even y.0 y.1 in
      ⊎_elim
      (λ g. let is = look_state_is (until past r e between) more r e' t look.last (checking_value g.0 c g.1) g.2 in subst (λ (look_state : LookState). counted (count l (sc (until past r e between)).words y.0.root) look_state ≡ count l (sc (until past r e between)).words y.0.root) is now
      ∙ sym (counter (until past r e between) more r e' t look.last (checking_value g.0 c g.1) word n (inl (g.0, c, g.1, refl)) is load))
      (λ g. let is = look_state_is (until past r e between) more r e' t look.last (checking_absence g.0 c) g.1 in subst (λ (look_state : LookState). counted (count l (sc (until past r e between)).words y.0.root) look_state ≡ count l (sc (until past r e between)).words y.0.root) is now
      ∙ sym (counter (until past r e between) more r e' t look.last (checking_absence g.0 c) word n (inr (g.0, c, refl)) is load)) which
    where
      whole_only : AreOf (suc r) ((suc r, e) ∷ between)
      whole_only [] m d behind z = let same : (suc r, e) ≡ (m, d) = cc in sym (ap (λ (p : ℕ × Entry). p.0) same)
      whole_only (y ∷ before) m d behind z = only before m d behind (let same : between ≡ before ++ (m, d) ∷ behind = ap (λ (xs : Run). tail xs) z in same)
        where
          tail : Run → Run
          tail [] = []
          tail (x ∷ xs) = xs

  alone_gives : (past between more : Run) (r : ℕ) (e e' : Entry) (k : ℕ) (x : Option ℕ) → AreOf (suc r) between → GaveWithin host origin past r e between k x → find nat_cmp (map_in host origin past) k ≡ x
  alone_gives past between more r e e' k x only w = ap (λ (es : List Entry). find nat_cmp (map_after (linearized_updates (answers_after l origin.words 0 es))) k) (sym same) ∙ w.gave
    where
      none : (run : Run) → AreOf (suc r) run → account 0 run ≡ []
      none [] h = refl
      none (y ∷ run) h = ap (λ (b : Bool). cond b (y.1 ∷ account 0 run) (account 0 run)) (ne_eqb y.0 0 (λ z. let m = h [] y.0 y.1 run refl in absurd (omega arith))) ∙ none run (λ before m e behind z. h (y ∷ before) m e behind (ap (λ (xs : Run). y ∷ xs) z))

      same : account 0 (until past r e w.before) ≡ account 0 past
      same = account-append 0 past ((suc r, e) ∷ w.before) ∙ (ap (λ (b : Bool). account 0 past ++ cond b (e ∷ account 0 w.before) (account 0 w.before)) (ne_eqb (suc r) 0 (λ z. absurd (omega arith))) ∙ ap (λ (es : List Entry). account 0 past ++ es) (none w.before (λ before m d behind z. only before m d (behind ++ w.behind) (w.splits ∙ (ap (λ (b : Run). b ++ w.behind) z ∙ append_assoc before ((m, d) ∷ behind) w.behind)))) ∙ append-nil (account 0 past))

  pub table_law : TableLaw host origin
  table_law = record {
    stand = λ past more t. stands past more t;
    replies = λ past more t. replied past more t;
    log = λ past more t. has_all_but_one past more t;
    grows = λ past more idle t. linearized_grow host within law pieces origin plan_ok more past idle t;
    answers = λ past between more r e e' k x t look last. answered past between more r e e' k x t look last;
    again = λ past more r e z word c n t own load is which. subst (λ (q : ReaderState). (((k : ℕ) × (x : ℕ) × (q.look_state ≡ checking_value k c x)) ⊎ ((k : ℕ) × (q.look_state ≡ checking_absence k c))) → (word ≡ l.counter q.root) × (c ≤ n)) (is_reader past more r e t own z is) (again past more r e t own word c n load) which;
    bounded = λ past more r p t at_p is. bounded past more t r p at_p is;
    alone = λ past between more r e e' k x t look only last. alone_gives past between more r e e' k x only (answered past between more r e e' k x t look last);
    alone_answers = λ past between more r e e' word c n t look only load which. alone_same past between more r e e' word c n t look only load which;
    frozen = λ past more n e r y t at looking old. frozen_keeps past more n e t r y at looking old;
    reclaimed = λ past more e p root t at_p own begins_rebuild r o low section. reclaimed past more e p root t at_p own begins_rebuild r o low section;
  }
