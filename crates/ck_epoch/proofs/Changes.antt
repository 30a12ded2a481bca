-- What a step of the writer does with the items that are pending: one that was pending stays so or is dispatched, and only a retirement adds
-- one.
use Rattle.std.proofs.Common.{◌≡◌, ℕ, suc, ◌+◌, ◌-◌, ◌%◌, ◌<◌, ◌⊎◌, ⊎_elim, inl, inr, Bool, true, false, not, cond, nat_lt, ◌==◌, ◌&&◌, List, [], ◌∷◌, ◌++◌, length, All, Contains, refl, sym, ap, ◌∙◌, subst, arith, eq-eqb}
use Rattle.std.proofs.lemmas.List.Elements.{All-head, All-tail, All-nil, All-cons}
use Rattle.std.proofs.lemmas.Bool.Decides.{nat_tests}
use Rattle.std.specs.Prelude.{Option, None, slice_index}
use Rattle.std.specs.List.{filter}
use mathlib.Core.Logic.{dite}
use native.Mathlib.Decide.{ℕ_discrete}
use Rattle.ck_run.specs.declared.account.Step.{Step}
use Rattle.ck_run.specs.declared.account.Step.TheVariants.{Load, Store, Exchange}
use Rattle.ck_run.specs.declared.account.Entry.{Entry}
use Rattle.ck_epoch.specs.Lists.{is_on}
use Rattle.ck_epoch.specs.State.{base, poll, barrier, Task, polling, first_round, second_round, Stage, outside, entering, holding, inside, free, scanning, comparing, between, at_depth, Retirement, retirement, TokenState, on_list, off_list, list_by_list, dispatch, dispatch_all, is_clear, after_load, after_blocked, after_raise, after_record, after_step, next, MayStep, May}
use Rattle.ck_run.specs.Run.{Run, account}
use Rattle.ck_run.specs.Rule.{IsRun}
use Rattle.ck_run.specs.Machine.{follows_of}
use Rattle.ck_run.proofs.Runs.{account_here}
use Rattle.ck_run.proofs.Law.{state-append}
use Rattle.ck_run.proofs.Moments.{run_before, at_step}
use Rattle.ck_epoch.specs.State.{Origin, records_of, epochs, state_at}
use Rattle.ck_epoch.specs.Epochs.{writer_in, IsRetiredBy, ChangesTo, ChangesPending}
use Rattle.ck_epoch.proofs.EpochLaw.{held_after}

-- a list has an element
abbrev pub Has : {A : Type 0} → A → List A → Type 0
Has x [] = ⊥
Has x (a ∷ rest) = (a ≡ x) ⊎ Has x rest

-- as std says it
has_contains : {A : Type 0} (x : A) (xs : List A) → Has x xs → Contains xs x
has_contains x [] h = absurd h
has_contains x (a ∷ xs) h = ⊎_elim (λ (e : a ≡ x). (0, (omega arith), e)) (λ (r : Has x xs). let c = has_contains x xs r in (suc c.0, (let l = c.1 in omega arith), c.2)) h

pub all_has : {A : Type 0} (P : A → Type 0) (xs : List A) → ((x : A) → Has x xs → P x) → All P xs
all_has P [] h = All-nil P
all_has P (a ∷ xs) h = All-cons P a xs (h a (inl refl)) (all_has P xs (λ x has. h x (inr has)))

module _ {A : Type 0} (x : A) where
  pub has_left : (xs ys : List A) → Has x xs → Has x (xs ++ ys)
  has_left [] ys h = absurd h
  has_left (a ∷ xs) ys h = ⊎_elim (λ (e : a ≡ x). inl e) (λ (r : Has x xs). inr (has_left xs ys r)) h

  pub has_right : (xs ys : List A) → Has x ys → Has x (xs ++ ys)
  has_right [] ys h = h
  has_right (a ∷ xs) ys h = inr (has_right xs ys h)

  pub has_either : (xs ys : List A) → Has x (xs ++ ys) → Has x xs ⊎ Has x ys
  has_either [] ys h = inr h
  has_either (a ∷ xs) ys h = ⊎_elim (λ (e : a ≡ x). inl (inl e)) (λ (r : Has x (xs ++ ys)). ⊎_elim (λ (u : Has x xs). inl (inr u)) (λ (u : Has x ys). inr u) (has_either xs ys r)) h

  pub has_all : (P : A → Type 0) (xs : List A) → All P xs → Has x xs → P x
  has_all P [] all h = absurd h
  has_all P (a ∷ xs) all h = ⊎_elim (λ (e : a ≡ x). subst P e (All-head P a xs all)) (λ (r : Has x xs). has_all P xs (All-tail P a xs all) r) h

  module _ (p : A → Bool) where
    pub filter_has : (xs : List A) → p x ≡ true → Has x xs → Has x (filter p xs)
    filter_has [] t h = absurd h
    filter_has (a ∷ xs) t h = by (p a) refl (λ r. filter_has xs t r)
      where
        by : (b : Bool) → p a ≡ b → (Has x xs → Has x (filter p xs)) → Has x (cond b (a ∷ filter p xs) (filter p xs))
        by true e more = ⊎_elim (λ (z : a ≡ x). inl z) (λ (r : Has x xs). inr (more r)) h
        by false e more = ⊎_elim (λ (z : a ≡ x). absurd (let c : true ≡ false = sym t ∙ (ap p (sym z) ∙ e) in cc)) (λ (r : Has x xs). more r) h

    pub has_filter : (xs : List A) → Has x (filter p xs) → Has x xs
    has_filter [] h = h
    has_filter (a ∷ xs) h = by (p a) (λ r. has_filter xs r) h
      where
        by : (b : Bool) → (Has x (filter p xs) → Has x xs) → Has x (cond b (a ∷ filter p xs) (filter p xs)) → Has x (a ∷ xs)
        by true more g = ⊎_elim (λ (z : a ≡ x). inl z) (λ (r : Has x (filter p xs)). inr (more r)) g
        by false more g = inr (more g)

module _ (k : Retirement) where
  -- it stands on its list, or on none that is gone
  on_or_off : (list : ℕ) (xs : List Retirement) → Has k xs → Has k (off_list list xs) ⊎ Has k (on_list list xs)
  on_or_off list xs h = by (is_on list k.retired) refl
    where
      by : (b : Bool) → is_on list k.retired ≡ b → Has k (off_list list xs) ⊎ Has k (on_list list xs)
      by true e = inr (filter_has k (λ (r : Retirement). is_on list r.retired) xs e h)
      by false e = inl (filter_has k (λ (r : Retirement). not (is_on list r.retired)) xs (ap not e) h)

  on_its_list : (list : ℕ) (xs : List Retirement) → k.retired.epoch % 4 ≡ list → Has k xs → Has k (on_list list xs)
  on_its_list list xs e h = filter_has k (λ (r : Retirement). is_on list r.retired) xs (eq-eqb (k.retired.epoch % 4) list e) h

  on_one : (xs : List Retirement) → Has k xs → Has k (list_by_list xs)
  on_one xs h = dite (ℕ_discrete (k.retired.epoch % 4) 0)
      (λ a. has_left k (on_list 0 xs) (on_list 1 xs ++ (on_list 2 xs ++ on_list 3 xs)) (on_its_list 0 xs a h))
      (λ n0. has_right k (on_list 0 xs) (on_list 1 xs ++ (on_list 2 xs ++ on_list 3 xs)) (dite (ℕ_discrete (k.retired.epoch % 4) 1)
      (λ a. has_left k (on_list 1 xs) (on_list 2 xs ++ on_list 3 xs) (on_its_list 1 xs a h))
      (λ n1. has_right k (on_list 1 xs) (on_list 2 xs ++ on_list 3 xs) (dite (ℕ_discrete (k.retired.epoch % 4) 2)
      (λ a. has_left k (on_list 2 xs) (on_list 3 xs) (on_its_list 2 xs a h))
      (λ n2. has_right k (on_list 2 xs) (on_list 3 xs) (on_its_list 3 xs (omega arith) h))))))

  -- what is pending stays so, or is dispatched
  abbrev StaysOrGoes : TokenState → TokenState → Type 0
  StaysOrGoes t u = Has k t.pending → Has k u.pending ⊎ Has k u.dispatched

  goes : (e : ℕ) (t : TokenState) → StaysOrGoes t (dispatch e t)
  goes e t h = ⊎_elim (λ (a : Has k (off_list (e % 4) t.pending)). inl a) (λ (a : Has k (on_list (e % 4) t.pending)). inr (has_right k t.dispatched (on_list (e % 4) t.pending) a)) (on_or_off (e % 4) t.pending h)

  goes_all : (t : TokenState) → StaysOrGoes t (dispatch_all t)
  goes_all t h = inr (has_right k t.dispatched (list_by_list t.pending) (on_one t.pending h))

  -- of two states
  either : (b : Bool) (t u v : TokenState) → StaysOrGoes t u → StaysOrGoes t v → StaysOrGoes t (cond b u v)
  either true t u v a c = a
  either false t u v a c = c

  at_load : (t : TokenState) (opens item : List ℕ) (e : ℕ) → StaysOrGoes t (after_load t opens item e)
  at_load t opens (at ∷ log ∷ rest) e h = inl (has_left k t.pending (retirement t.steps at log e ∷ []) h)
  at_load t opens item e h = either (slice_index opens 0 == poll) t (record (dispatch (e - 2) t) { stage = scanning polling e 0 None; calls = t.calls + 1 })
      (record t { stage = scanning (first_round (slice_index opens 0 == barrier) t.steps) e 0 None; calls = t.calls + 1 }) (goes (e - 2) t) (λ x. inl x) h

  at_blocked : (t : TokenState) (task : Task) (e rec : ℕ) (busy : Option ℕ) → StaysOrGoes t (after_blocked t task e rec busy)
  at_blocked t polling e rec busy h = inl h
  at_blocked t task e rec busy h = inl h

  at_raise : (t : TokenState) (task : Task) (e : ℕ) → StaysOrGoes t (after_raise t task e)
  at_raise t polling e h = goes (e - 1) t h
  at_raise t (first_round all started) e h = inl h
  at_raise t (second_round true started) e h = goes_all t h
  at_raise t (second_round false started) e h = inl h

  at_record : (R : ℕ) (t : TokenState) (task : Task) (e rec : ℕ) (busy : Option ℕ) → StaysOrGoes t (after_record R t task e rec busy)
  at_record R t task e rec busy h = either ((rec + 1 == R) && is_clear task busy) t (record (dispatch_all t) { stage = free }) (record t { stage = scanning task e (rec + 1) busy }) (goes_all t) (λ x. inl x) h

  module _ (R : ℕ) (t : TokenState) (opens item : List ℕ) where
    step_keeps : (g : Stage) (s : Step) → StaysOrGoes t (after_step R t opens item g s)
    step_keeps outside (Store at n) h = either (nat_lt at (base R)) t (record t { stage = entering; calls = t.calls + 1 }) t (λ x. inl x) (λ x. inl x) h
    step_keeps entering (Load at g) h = inl h
    step_keeps (holding g) (Store at n) h = inl h
    step_keeps (inside d g) (Store at n) h = either (nat_lt at (base R)) t (record t { stage = at_depth n g; calls = t.calls + 1 }) t (λ x. inl x) (λ x. inl x) h
    step_keeps free (Load at e) h = either (nat_lt at (base R)) t (after_load t opens item e) t (at_load t opens item e) (λ x. inl x) h
    step_keeps (scanning task e rec busy) (Load at n) h = either (n == 0) t (after_record R t task e rec busy) (record t { stage = comparing task e rec busy }) (at_record R t task e rec busy) (λ x. inl x) h
    step_keeps (scanning task e rec busy) (Exchange at expected new found) h = at_raise t task e h
    step_keeps (comparing task e rec busy) (Load at n) h = either (n == e) t (after_record R t task e rec _) (after_blocked t task e rec busy) (at_record R t task e rec _) (at_blocked t task e rec busy) h
    step_keeps (between all started) (Load at e) h = inl h
    step_keeps g s h = inl h

  pub stays_or_goes : (R : ℕ) (t : TokenState) (e : Entry) → Has k t.pending → Has k (next R t e).pending ⊎ Has k (next R t e).dispatched
  stays_or_goes R t e h = step_keeps R t e.opens e.item t.stage e.step h

  -- what is pending after a step was pending before, or the step retired it
  abbrev WasOrIs : TokenState → List ℕ → Step → TokenState → Type 0
  WasOrIs t item s u = Has k u.pending → Has k t.pending ⊎ ((item ≡ k.retired.item.at ∷ k.retired.item.log ∷ []) × (s ≡ Load 0 k.retired.epoch) × (k.number ≡ t.steps))

  was_if : (b : Bool) (t u v : TokenState) (item : List ℕ) (s : Step) → WasOrIs t item s u → WasOrIs t item s v → WasOrIs t item s (cond b u v)
  was_if true t u v item s a c = a
  was_if false t u v item s a c = c

  was_off : (list : ℕ) (xs : List Retirement) → Has k (off_list list xs) → Has k xs
  was_off list xs h = has_filter k (λ (r : Retirement). not (is_on list r.retired)) xs h

  was_load : (t : TokenState) (opens item : List ℕ) (at e : ℕ) → ((at' log : ℕ) (rest : List ℕ) → item ≡ at' ∷ log ∷ rest → (at ≡ 0) × (rest ≡ [])) → WasOrIs t item (Load at e) (after_load t opens item e)
  was_load t opens (a ∷ log ∷ rest) at e alone h = let z = alone a log rest refl in ⊎_elim
      (λ (u : Has k t.pending). inl u)
      (λ (u : (retirement t.steps a log e ≡ k) ⊎ ⊥). ⊎_elim
      (λ (v : retirement t.steps a log e ≡ k). inr ((λ i. (v i).retired.item.at ∷ (v i).retired.item.log ∷ z.1 i), (λ i. Load (z.0 i) (v i).retired.epoch), sym (ap (λ (r : Retirement). r.number) v)))
      (λ (v : ⊥). absurd v) u)
      (has_either k t.pending (retirement t.steps a log e ∷ []) h)
  was_load t opens item at e alone h = was_if (slice_index opens 0 == poll) t (record (dispatch (e - 2) t) { stage = scanning polling e 0 None; calls = t.calls + 1 })
      (record t { stage = scanning (first_round (slice_index opens 0 == barrier) t.steps) e 0 None; calls = t.calls + 1 }) item (Load at e) (λ x. inl (was_off ((e - 2) % 4) t.pending x)) (λ x. inl x) h

  was_blocked : (t : TokenState) (item : List ℕ) (s : Step) (task : Task) (e rec : ℕ) (busy : Option ℕ) → WasOrIs t item s (after_blocked t task e rec busy)
  was_blocked t item s polling e rec busy h = inl h
  was_blocked t item s task e rec busy h = inl h

  was_raise : (t : TokenState) (item : List ℕ) (s : Step) (task : Task) (e : ℕ) → WasOrIs t item s (after_raise t task e)
  was_raise t item s polling e h = inl (was_off ((e - 1) % 4) t.pending h)
  was_raise t item s (first_round all started) e h = inl h
  was_raise t item s (second_round true started) e h = absurd h
  was_raise t item s (second_round false started) e h = inl h

  was_record : (R : ℕ) (t : TokenState) (item : List ℕ) (s : Step) (task : Task) (e rec : ℕ) (busy : Option ℕ) → WasOrIs t item s (after_record R t task e rec busy)
  was_record R t item s task e rec busy h = was_if ((rec + 1 == R) && is_clear task busy) t (record (dispatch_all t) { stage = free }) (record t { stage = scanning task e (rec + 1) busy }) item s (λ x. absurd x) (λ x. inl x) h

  module _ (R : ℕ) (t : TokenState) (opens item : List ℕ) where
    alone : (at e : ℕ) → MayStep R t opens item free (Load at e) → (at' log : ℕ) (rest : List ℕ) → item ≡ at' ∷ log ∷ rest → (at ≡ 0) × (rest ≡ [])
    alone at e may a log rest is = ⊎_elim
        (λ m. (
          m.0,
          ⊎_elim (λ (r : (x : ℕ) × (y : ℕ) × (item ≡ x ∷ y ∷ [])). ap (λ (l : List ℕ). tail (tail l)) (sym is ∙ r.2))
              (λ r. absurd (none r)) m.2,
        ))
        (λ m. absurd (let z : [] ≡ a ∷ log ∷ rest = sym m.1 ∙ is in cc)) may
      where
        tail : List ℕ → List ℕ
        tail [] = []
        tail (x ∷ xs) = xs

        none : ((opens ≡ poll ∷ []) × (item ≡ [])) ⊎ (((opens ≡ 5 ∷ []) × (item ≡ [])) ⊎ ((opens ≡ barrier ∷ []) × (item ≡ []))) → ⊥
        none r = let e : item ≡ [] = ⊎_elim (λ x. x.1) (λ x. ⊎_elim (λ y. y.1) (λ y. y.1) x) r in let z : [] ≡ a ∷ log ∷ rest = sym e ∙ is in cc

    step_was : (g : Stage) (s : Step) → MayStep R t opens item g s → WasOrIs t item s (after_step R t opens item g s)
    step_was outside (Store at n) may h = was_if (nat_lt at (base R)) t (record t { stage = entering; calls = t.calls + 1 }) t item (Store at n) (λ x. inl x) (λ x. inl x) h
    step_was entering (Load at g) may h = inl h
    step_was (holding g) (Store at n) may h = inl h
    step_was (inside d g) (Store at n) may h = was_if (nat_lt at (base R)) t (record t { stage = at_depth n g; calls = t.calls + 1 }) t item (Store at n) (λ x. inl x) (λ x. inl x) h
    step_was free (Load at e) may h = was_if (nat_lt at (base R)) t (after_load t opens item e) t item (Load at e) (was_load t opens item at e (alone at e may)) (λ x. inl x) h
    step_was (scanning task e rec busy) (Load at n) may h = was_if (n == 0) t (after_record R t task e rec busy) (record t { stage = comparing task e rec busy }) item (Load at n) (was_record R t item (Load at n) task e rec busy) (λ x. inl x) h
    step_was (scanning task e rec busy) (Exchange at expected new found) may h = was_raise t item (Exchange at expected new found) task e h
    step_was (comparing task e rec busy) (Load at n) may h = was_if (n == e) t (after_record R t task e rec _) (after_blocked t task e rec busy) item (Load at n) (was_record R t item (Load at n) task e rec _) (was_blocked t item (Load at n) task e rec busy) h
    step_was (between all started) (Load at e) may h = inl h
    step_was g s may h = inl h

  pub was_or_is : (R : ℕ) (t : TokenState) (e : Entry) → May R t e → Has k (next R t e).pending → Has k t.pending ⊎ ((e.item ≡ k.retired.item.at ∷ k.retired.item.log ∷ []) × (e.step ≡ Load 0 k.retired.epoch) × (k.number ≡ t.steps))
  was_or_is R t e may h = step_was R t e.opens e.item t.stage e.step may h

-- The step that hands an item over adds it
module _ (R : ℕ) (t : TokenState) (opens : List ℕ) (at log : ℕ) where
  abbrev it : List ℕ
  it = at ∷ log ∷ []

  no_item : {A : Type 0} (item : List ℕ) → item ≡ [] → item ≡ it → A
  no_item item e f = absurd (let z : [] ≡ it = sym e ∙ f in cc)

  goes_no : {A : Type 0} → ([] ≡ it) → A
  goes_no z = absurd cc

  lt_yes : (a b : ℕ) → a < b → nat_lt a b ≡ true
  lt_yes a b l = grind (arith, nat_tests)

  adds : (g : Stage) (s : Step) → MayStep R t opens it g s → (found : ℕ) × Has (retirement t.steps at log found) (after_step R t opens it g s).pending
  adds outside (Store w n) may = ⊎_elim (λ m. no_item it m.2.1 refl) (λ m. no_item it m.1 refl) may
  adds outside (Load w n) may = no_item it may.1 refl
  adds entering (Load w g) may = no_item it may.1.1 refl
  adds (holding g) (Store w n) may = no_item it may.3.1 refl
  adds (inside d g) (Store w n) may = ⊎_elim (λ m. ⊎_elim (λ b. no_item it b.2.1 refl) (λ b. no_item it b.1.1 refl) m.1) (λ m. no_item it m.1 refl) may
  adds (inside d g) (Load w n) may = no_item it may.1 refl
  adds free (Load w e) may = ⊎_elim
      (λ m. (e, subst (λ (b : Bool). Has (retirement t.steps at log e) (cond b (after_load t opens it e) t).pending) (sym (lt_yes w (base R) (let z = m.0 in omega arith))) (has_right (retirement t.steps at log e) t.pending (retirement t.steps at log e ∷ []) (inl refl))))
      (λ m. no_item it m.1 refl) may
  adds free (Store w n) may = no_item it may.1 refl
  adds (scanning task e rec busy) (Load w n) may = no_item it may.2.1 refl
  adds (scanning task e rec busy) (Exchange w expected new found) may = no_item it may.4.1 refl
  adds (comparing task e rec busy) (Load w n) may = no_item it may.2.1 refl
  adds (between all started) (Load w e) may = no_item it may.1.1 refl
  adds g s may = absurd may

pub retires : (R : ℕ) (t : TokenState) (e : Entry) (at log : ℕ) → e.item ≡ at ∷ log ∷ [] → May R t e → (found : ℕ) × Has (retirement t.steps at log found) (next R t e).pending
retires R t e at log is may = subst (λ (item : List ℕ). (found : ℕ) × Has (retirement t.steps at log found) (after_step R t e.opens item t.stage e.step).pending) (sym is)
    (adds R t e.opens at log t.stage e.step (subst (λ (item : List ℕ). MayStep R t e.opens item t.stage e.step) is may))

-- what a step of the writer does, at any moment of a true run
pub changes_pending : {C : Type 0} (origin : Origin C) (past rest : Run) (e : Entry) → IsRun (follows_of epochs) origin (past ++ (0, e) ∷ rest) → ChangesPending origin past e
changes_pending origin past rest e run =
    let R : ℕ = records_of origin in
    let t : TokenState = writer_in origin past in
    let may : May R t e = (at_step epochs origin past rest 0 e run).0 in
    let steps : t.steps ≡ length (account 0 past) = (held_after origin past (run_before epochs origin past ((0, e) ∷ rest) run)).writer.steps in
    let now : next R t e ≡ writer_in origin (past ++ (0, e) ∷ []) = sym (ap (state_at origin 0) (account_here past 0 0 e refl) ∙ state-append (epochs.next origin) (epochs.start origin 0) (account 0 past) (e ∷ [])) in
    subst (ChangesTo e t (length (account 0 past))) now
    record {
      stays = all_has (λ (k : Retirement). Contains (next R t e).pending k ⊎ Contains (next R t e).dispatched k) t.pending
          (λ k h. ⊎_elim (λ (s : Has k (next R t e).pending). inl (has_contains k (next R t e).pending s)) (λ (s : Has k (next R t e).dispatched). inr (has_contains k (next R t e).dispatched s)) (stays_or_goes k R t e h));
      came = all_has (λ (k : Retirement). Contains t.pending k ⊎ IsRetiredBy e (length (account 0 past)) k) (next R t e).pending
          (λ k h. ⊎_elim (λ (s : Has k t.pending). inl (has_contains k t.pending s)) (λ s. inr (s.0, s.1, s.2 ∙ steps)) (was_or_is k R t e may h));
      retires = λ at log is. let r = retires R t e at log is may in
          (r.0, subst (λ (n : ℕ). Contains (next R t e).pending (retirement n at log r.0)) steps (has_contains (retirement t.steps at log r.0) (next R t e).pending r.1));
    }
