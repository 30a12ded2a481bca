-- The map that the words stand for is the map after the updates that have taken place, and their replies are the map's.
use Rattle.std.proofs.Common.{◌≡◌, ◌≢◌, ℕ, suc, ◌+◌, Bool, true, false, cond, nat_lt, ◌==◌, List, [], ◌∷◌, ◌++◌, length, refl, sym, ap, ◌∙◌, subst, arith, append-nil, length-append}
use Rattle.std.proofs.lemmas.Bool.Decides.{nat_tests}
use Rattle.std.specs.Prelude.{Option, Some}
use Rattle.std.specs.Ordering.{nat_cmp}
use mathlib.Core.Logic.{dite}
use native.Mathlib.Decide.{ℕ_discrete}
use Rattle.ck_run.specs.declared.account.Step.{Step}
use Rattle.ck_run.specs.declared.account.Step.TheVariants.{Load, Store}
use Rattle.ck_history.specs.declared.log.LogEntry.{LogEntry}
use Rattle.ck_history.specs.declared.update.Update.{Update}
use Rattle.ck_history.specs.Map.{Map, IsMap, find, step}
use Rattle.ck_slots.specs.Changes.{IsUpdate}
use Rattle.ck_htlaw.specs.Calls.{opening_of}
use Rattle.ck_htlaw.specs.Stages.{Target, empty, reuse, move, Insertion, Stage, idle, with_bump, with_value, with_low, with_high, twice, before_tombstone, with_tombstone, clearing, copying, retiring, retiring_at_end, after_rebuild, Maps}
use Rattle.ck_htlaw.specs.Table.{Layout, Action, inserts, stands, deletes, nothing, begins_rebuild, copies, publishes, tidies, WriterState, grown, repeated, after_first, filled, copy, second, MayDo, MayWriterStep, released, released_log}
use Rattle.ck_htlaw.specs.Actions.{most}
use Rattle.ck_htlaw.specs.Linearized.{map_after, AreReplies, under_way, update_of}
use Rattle.ck_htlaw.proofs.UpdateSteps.{grown_step, repeated_here}
use Rattle.ck_htlaw.proofs.Lives.{opt}
use Rattle.ck_htlaw.proofs.Effects.{step_sorted, map_next, replies_next, Makes}

-- the answer d to an update that gives the key k the value x, or none
abbrev pub Does : Map ℕ → LogEntry ℕ → ℕ → Option ℕ → Type 0
Does m d k x = IsUpdate (find nat_cmp m) (find nat_cmp (step nat_cmp most m d.update).0) k x × ((step nat_cmp most m d.update).1 ≡ d.reply)

-- the answer d to a call
abbrev pub IsCall : Map ℕ → LogEntry ℕ → List ℕ → Type 0
IsCall m d call = (d.update ≡ update_of (opening_of call)) × ((step nat_cmp most m d.update).1 ≡ d.reply)

abbrev pub IsDue : Map ℕ → LogEntry ℕ → Stage → Type 0
IsDue m d (with_bump c w) = Does m d w.key (Some w.number)
IsDue m d (with_value c w) = Does m d w.key (Some w.number)
IsDue m d (with_low c w) = Does m d w.key (Some w.number)
IsDue m d (with_high c w) = Does m d w.key (Some w.number)
IsDue m d (clearing call root i) = IsCall m d call
IsDue m d (copying call root j g) = IsCall m d call
IsDue m d (retiring old call) = IsCall m d call
IsDue m d (after_rebuild call) = IsCall m d call
IsDue m d g = Unit {0}

-- Of the writer at this stage, with so many updates placed and answered: its log, and what has taken place
pub record Logged (g : Stage) (linearized n : ℕ) (maps : Maps) (log us : List (LogEntry ℕ)) (d : LogEntry ℕ) : Type 0 where
  pub is : us ≡ log ++ under_way g d
  pub linearized_is : linearized ≡ n + length (under_way g d)
  pub count : length log ≡ n
  pub pairs : (k : ℕ) → opt (maps linearized k) ≡ find nat_cmp (map_after us) k
  pub sorted : IsMap nat_cmp (map_after us)
  pub replies : AreReplies us
  pub due : IsDue (map_after us) d g

more_one : (xs : List (LogEntry ℕ)) (d : LogEntry ℕ) → length (xs ++ d ∷ []) ≡ suc (length xs)
more_one xs d = length-append xs (d ∷ []) ∙ plus (length xs)
  where
    plus : (a : ℕ) → a + 1 ≡ suc a
    plus a = omega arith

not_less : (n : ℕ) → nat_lt n n ≡ false
not_less n = grind (arith, nat_tests)

one_less : (n : ℕ) → nat_lt n (suc n) ≡ true
one_less n = grind (arith, nat_tests)

-- the log after a step by which n answers became n'
abbrev pub log_then : List (LogEntry ℕ) → ℕ → ℕ → LogEntry ℕ → List (LogEntry ℕ)
log_then log n n' d = log ++ cond (nat_lt n n') (d ∷ []) []

-- of a writer whose log was this, and by whom these updates had been placed
abbrev pub After : WriterState → ℕ → List (LogEntry ℕ) → List (LogEntry ℕ) → LogEntry ℕ → Type 0
After p n log us d = (us' : List (LogEntry ℕ)) × ((more : List (LogEntry ℕ)) × (us' ≡ us ++ more)) × Logged p.stage p.linearized p.log p.maps (log_then log n p.log d) us' d

module _ (g : Stage) (linearized n : ℕ) (maps : Maps) (log us : List (LogEntry ℕ)) (d0 : LogEntry ℕ) (h : Logged g linearized n maps log us d0) where
  same_log : (d : LogEntry ℕ) → log ≡ log_then log n n d
  same_log d = sym (ap (λ (b : Bool). log ++ cond b (d ∷ []) []) (not_less n) ∙ append-nil log)

  -- what is under way stays, and nothing is answered
  stays_as : (g' : Stage) (d : LogEntry ℕ) → under_way g d0 ≡ under_way g' d → IsDue (map_after us) d g' → Logged g' linearized n maps (log_then log n n d) us d
  stays_as g' d same due = record {
    is = h.is ∙ (λ i. same_log d i ++ same i);
    linearized_is = h.linearized_is ∙ ap (λ (l : List (LogEntry ℕ)). n + length l) same;
    count = ap length (sym (same_log d)) ∙ h.count;
    pairs = h.pairs;
    sorted = h.sorted;
    replies = h.replies;
    due = due;
  }

  -- no update took place
  pub stays_at : (g' : Stage) (d : LogEntry ℕ) → under_way g d0 ≡ [] → under_way g' d ≡ [] → IsDue (map_after us) d g' → Logged g' linearized n maps (log_then log n n d) us d
  stays_at g' d none none' = stays_as g' d (none ∙ sym none')

  -- the update of the call has taken place
  pub stays_under : (g' : Stage) → under_way g d0 ≡ d0 ∷ [] → under_way g' d0 ≡ d0 ∷ [] → IsDue (map_after us) d0 g' → Logged g' linearized n maps (log_then log n n d0) us d0
  stays_under g' one one' = stays_as g' d0 (one ∙ sym one')

  -- it is answered
  pub is_answered : under_way g d0 ≡ d0 ∷ [] → Logged idle linearized (suc n) maps (log_then log n (suc n) d0) us d0
  is_answered one = let longer : log ++ d0 ∷ [] ≡ log_then log n (suc n) d0 = sym (ap (λ (b : Bool). log ++ cond b (d0 ∷ []) []) (one_less n)) in record {
    is = h.is ∙ (ap (λ (l : List (LogEntry ℕ)). log ++ l) one ∙ (longer ∙ sym (append-nil (log_then log n (suc n) d0))));
    linearized_is = h.linearized_is ∙ (ap (λ (l : List (LogEntry ℕ)). n + length l) one ∙ plus n);
    count = ap length (sym longer) ∙ (more_one log d0 ∙ ap suc h.count);
    pairs = h.pairs;
    sorted = h.sorted;
    replies = h.replies;
    due = tt;
  }
    where
      plus : (a : ℕ) → a + 1 ≡ suc a + 0
      plus a = omega arith

  -- the update takes place
  module _ (d : LogEntry ℕ) (maps' : Maps) (none : under_way g d0 ≡ []) (right : (step nat_cmp most (map_after us) d.update).1 ≡ d.reply)
      (pairs' : (k : ℕ) → opt (maps' (suc linearized) k) ≡ find nat_cmp (step nat_cmp most (map_after us) d.update).0 k) where
    no_more : us ≡ log
    no_more = h.is ∙ (ap (λ (l : List (LogEntry ℕ)). log ++ l) none ∙ append-nil log)

    linearized_n : linearized ≡ n
    linearized_n = h.linearized_is ∙ (ap (λ (l : List (LogEntry ℕ)). n + length l) none ∙ plus n)
      where
        plus : (a : ℕ) → a + 0 ≡ a
        plus a = omega arith

    -- and is answered at once
    pub places : (g' : Stage) → under_way g' d ≡ [] → IsDue (map_after (us ++ d ∷ [])) d g' → Logged g' (suc linearized) (suc n) maps' (log_then log n (suc n) d) (us ++ d ∷ []) d
    places g' none' due = let longer : log ++ d ∷ [] ≡ log_then log n (suc n) d = sym (ap (λ (b : Bool). log ++ cond b (d ∷ []) []) (one_less n)) in record {
      is = ap (λ (l : List (LogEntry ℕ)). l ++ d ∷ []) no_more ∙ (longer ∙ (sym (append-nil (log_then log n (suc n) d)) ∙ ap (λ (l : List (LogEntry ℕ)). log_then log n (suc n) d ++ l) (sym none')));
      linearized_is = ap suc linearized_n ∙ (plus (suc n) ∙ ap (λ (l : List (LogEntry ℕ)). suc n + length l) (sym none'));
      count = ap length (sym longer) ∙ (more_one log d ∙ ap suc h.count);
      pairs = λ k. pairs' k ∙ ap (λ (m : Map ℕ). find nat_cmp m k) (sym (map_next us d));
      sorted = subst (IsMap nat_cmp) (sym (map_next us d)) (step_sorted (map_after us) d.update h.sorted);
      replies = replies_next us d h.replies right;
      due = due;
    }
      where
        plus : (a : ℕ) → a ≡ a + 0
        plus a = omega arith

    -- or later
    pub places_under : (g' : Stage) → under_way g' d ≡ d ∷ [] → IsDue (map_after (us ++ d ∷ [])) d g' → Logged g' (suc linearized) n maps' (log_then log n n d) (us ++ d ∷ []) d
    places_under g' one due = record {
      is = ap (λ (l : List (LogEntry ℕ)). l ++ d ∷ []) (no_more ∙ same_log d) ∙ ap (λ (l : List (LogEntry ℕ)). log_then log n n d ++ l) (sym one);
      linearized_is = ap suc linearized_n ∙ (plus n ∙ ap (λ (l : List (LogEntry ℕ)). n + length l) (sym one));
      count = ap length (sym (same_log d)) ∙ h.count;
      pairs = λ k. pairs' k ∙ ap (λ (m : Map ℕ). find nat_cmp m k) (sym (map_next us d));
      sorted = subst (IsMap nat_cmp) (sym (map_next us d)) (step_sorted (map_after us) d.update h.sorted);
      replies = replies_next us d h.replies right;
      due = due;
    }
      where
        plus : (a : ℕ) → suc a ≡ a + 1
        plus a = omega arith

-- the map grows by an update
opt_grown : (maps : Maps) (q k x : ℕ) (m m' : ℕ → Option ℕ) → ((j : ℕ) → opt (maps q j) ≡ m j) → IsUpdate m m' k (opt x) → (j : ℕ) → opt (grown maps q k x (suc q) j) ≡ m' j
opt_grown maps q k x m m' pairs u j = let s = grown_step maps q k x in dite (ℕ_discrete j k)
    (λ (e : j ≡ k). ap (λ (i : ℕ). opt (grown maps q k x (suc q) i)) e ∙ (ap opt s.here ∙ (sym u.here ∙ ap m' (sym e))))
    (λ (n : j ≢ k). ap opt (s.others j n) ∙ (pairs j ∙ sym (u.others j n)))

module _ (l : Layout) (log us : List (LogEntry ℕ)) where
  abbrev m : Map ℕ
  m = map_after us

  -- a call goes on from a writer that has made no update of it
  module _ (call : List ℕ) (q : WriterState) (d0 d : LogEntry ℕ) (g : Stage) (h : Logged g q.linearized q.log q.maps log us d0) (none : (e : LogEntry ℕ) → under_way g e ≡ []) (at : q.stage ≡ idle) (is : IsCall m d call) where
    pub first_logs : (a : Action) (s : Step) → MayDo l q a s → Makes m d.update a → After (after_first l call q a) q.log log us d
    first_logs (inserts empty w) (Store x y) may makes = (us, ([], sym (append-nil us)), stays_at g q.linearized q.log q.maps log us d0 h (with_value empty w) d (none d0) refl (makes, is.1))
    first_logs (inserts reuse w) (Store x y) may makes = (us, ([], sym (append-nil us)), stays_at g q.linearized q.log q.maps log us d0 h (with_bump reuse w) d (none d0) refl (makes, is.1))
    first_logs (inserts (move from) w) (Store x y) may makes = (us, ([], sym (append-nil us)), stays_at g q.linearized q.log q.maps log us d0 h (with_bump (move from) w) d (none d0) refl (makes, is.1))
    first_logs (stands k s n) (Store x y) may makes = (
      us ++ d ∷ [],
      (d ∷ [], refl),
      places g q.linearized q.log q.maps log us d0 h d (grown q.maps q.linearized k (suc n)) (none d0) is.1
          (opt_grown q.maps q.linearized k (suc n) (find nat_cmp m) (find nat_cmp (step nat_cmp most m d.update).0) h.pairs makes) idle refl tt,
    )
    first_logs (deletes k s) (Store x y) may makes = (
      us ++ d ∷ [],
      (d ∷ [], refl),
      places_under g q.linearized q.log q.maps log us d0 h d (grown q.maps q.linearized k 0) (none d0) is.1
          (opt_grown q.maps q.linearized k 0 (find nat_cmp m) (find nat_cmp (step nat_cmp most m d.update).0) h.pairs makes) with_tombstone refl tt,
    )
    first_logs nothing (Load x y) may makes = (
      us ++ d ∷ [],
      (d ∷ [], refl),
      subst (λ (g' : Stage). Logged g' (suc q.linearized) (suc q.log) (repeated q.maps q.linearized) (log_then log q.log (suc q.log) d) (us ++ d ∷ []) d) (sym at)
          (places g q.linearized q.log q.maps log us d0 h d (repeated q.maps q.linearized) (none d0) is.1 (λ k. ap opt (repeated_here q.maps q.linearized k) ∙ (h.pairs k ∙ sym (makes k))) idle refl tt),
    )
    first_logs (begins_rebuild root) (Store x y) may makes = (us, ([], sym (append-nil us)), by (1 == (l.order root).slots))
      where
        by : (b : Bool) → Logged (cond b (copying call root 0 idle) (clearing call root 1)) q.linearized q.log q.maps (log_then log q.log q.log d) us d
        by true = stays_at g q.linearized q.log q.maps log us d0 h (copying call root 0 idle) d (none d0) refl is
        by false = stays_at g q.linearized q.log q.maps log us d0 h (clearing call root 1) d (none d0) refl is
    first_logs a s may makes = absurd may

  module _ (p : WriterState) (d : LogEntry ℕ) where
    abbrev At : Stage → Type 0
    At g = Logged g p.linearized p.log p.maps log us d

    stays : (g : Stage) → At g → (g' : Stage) → under_way g d ≡ [] → under_way g' d ≡ [] → IsDue m d g' → Logged g' p.linearized p.log p.maps (log_then log p.log p.log d) us d
    stays g h g' none none' due = stays_at g p.linearized p.log p.maps log us d h g' d none none' due

    -- the store of state 1
    filled_logs : (c : Target) (w : Insertion) → At (with_high c w) → After (filled p c w) p.log log us d
    filled_logs empty w h = (
      us ++ d ∷ [],
      (d ∷ [], refl),
      places (with_high empty w) p.linearized p.log p.maps log us d h d (grown p.maps p.linearized w.key (suc w.number)) refl h.due.1
          (opt_grown p.maps p.linearized w.key (suc w.number) (find nat_cmp m) (find nat_cmp (step nat_cmp most m d.update).0) h.pairs h.due.0) idle refl tt,
    )
    filled_logs reuse w h = (
      us ++ d ∷ [],
      (d ∷ [], refl),
      places (with_high reuse w) p.linearized p.log p.maps log us d h d (grown p.maps p.linearized w.key (suc w.number)) refl h.due.1
          (opt_grown p.maps p.linearized w.key (suc w.number) (find nat_cmp m) (find nat_cmp (step nat_cmp most m d.update).0) h.pairs h.due.0) idle refl tt,
    )
    filled_logs (move from) w h = (
      us ++ d ∷ [],
      (d ∷ [], refl),
      places_under (with_high (move from) w) p.linearized p.log p.maps log us d h d (grown p.maps p.linearized w.key (suc w.number)) refl h.due.1
          (opt_grown p.maps p.linearized w.key (suc w.number) (find nat_cmp m) (find nat_cmp (step nat_cmp most m d.update).0) h.pairs h.due.0) (twice from w) refl tt,
    )

    -- a step of a copy
    pub copy_logs : (c : List ℕ) (root j : ℕ) (a : Action) (g : Stage) → At (copying c root j g) → (g ≡ idle → Makes m (update_of (opening_of c)) a) → After (copy p c root j a g) p.log log us d
    copy_logs c root j publishes idle h makes = (us, ([], sym (append-nil us)), stays (copying c root j idle) h (retiring p.root c) refl refl h.due)
    copy_logs c root j tidies idle h makes = let same = subst (λ (u : Update ℕ). Makes m u tidies) (sym h.due.0) (makes refl) in
        (us ++ d ∷ [], (d ∷ [], refl), places_under (copying c root j idle) p.linearized p.log p.maps log us d h d (repeated p.maps p.linearized) refl h.due.1 (λ k. ap opt (repeated_here p.maps p.linearized k) ∙ (h.pairs k ∙ sym (same k))) (retiring_at_end p.root) refl tt)
    copy_logs c root j (copies i w) idle h makes = (us, ([], sym (append-nil us)), stays (copying c root j idle) h (copying c root i (with_value empty w)) refl refl h.due)
    copy_logs c root j a (with_value k w) h makes = (us, ([], sym (append-nil us)), stays (copying c root j (with_value k w)) h (copying c root j (with_low k w)) refl refl h.due)
    copy_logs c root j a (with_low k w) h makes = (us, ([], sym (append-nil us)), stays (copying c root j (with_low k w)) h (copying c root j (with_high k w)) refl refl h.due)
    copy_logs c root j a (with_high k w) h makes = (us, ([], sym (append-nil us)), stays (copying c root j (with_high k w)) h (copying c root (suc j) idle) refl refl h.due)
    copy_logs c root j a g h makes = (us, ([], sym (append-nil us)), stays (copying c root j g) h (copying c root j g) refl refl h.due)

    -- Any step of the table's, at a stage other than rest
    pub second_logs : (call : List ℕ) (a : Action) (g : Stage) (s : Step) → (g ≡ idle → ⊥) → At g → MayWriterStep l p a g s
        → ((c : List ℕ) → g ≡ after_rebuild c → Makes m (update_of (opening_of c)) a) → ((c : List ℕ) (root j : ℕ) → g ≡ copying c root j idle → Makes m (update_of (opening_of c)) a) → After (second l call p a g) p.log log us d
    second_logs call a idle s not_rest h may ma mb = absurd (not_rest refl)
    second_logs call a (clearing c root i) s not_rest h may ma mb = (us, ([], sym (append-nil us)), by (suc i == (l.order root).slots))
      where
        by : (b : Bool) → Logged (cond b (copying c root 0 idle) (clearing c root (suc i))) p.linearized p.log p.maps (log_then log p.log p.log d) us d
        by true = stays (clearing c root i) h (copying c root 0 idle) refl refl h.due
        by false = stays (clearing c root i) h (clearing c root (suc i)) refl refl h.due
    second_logs call a (copying c root j g) s not_rest h may ma mb = copy_logs c root j a g h (λ e. mb c root j (ap (copying c root j) e))
    second_logs call a (after_rebuild c) s not_rest h may ma mb = first_logs c record p { stage = idle } d d (after_rebuild c) h (λ e. refl) refl h.due a s may (subst (λ (u : Update ℕ). Makes m u a) (sym h.due.0) (ma c refl))
    second_logs call a (retiring old c) s not_rest h may ma mb = absurd may
    second_logs call a (retiring_at_end old) s not_rest h may ma mb = absurd may
    second_logs call a (with_bump c w) s not_rest h may ma mb = (us, ([], sym (append-nil us)), stays (with_bump c w) h (with_value c w) refl refl h.due)
    second_logs call a (with_value c w) s not_rest h may ma mb = (us, ([], sym (append-nil us)), stays (with_value c w) h (with_low c w) refl refl h.due)
    second_logs call a (with_low c w) s not_rest h may ma mb = (us, ([], sym (append-nil us)), stays (with_low c w) h (with_high c w) refl refl h.due)
    second_logs call a (with_high c w) s not_rest h may ma mb = filled_logs c w h
    second_logs call a (twice from w) s not_rest h may ma mb = (us, ([], sym (append-nil us)), stays_under (twice from w) p.linearized p.log p.maps log us d h (before_tombstone from w) refl refl tt)
    second_logs call a (before_tombstone from w) s not_rest h may ma mb = (us, ([], sym (append-nil us)), is_answered (before_tombstone from w) p.linearized p.log p.maps log us d h refl)
    second_logs call a with_tombstone s not_rest h may ma mb = (us, ([], sym (append-nil us)), is_answered with_tombstone p.linearized p.log p.maps log us d h refl)

    -- the retirement, or a step elsewhere
    pub released_logs : (g : Stage) → At g → Logged (released g) p.linearized (released_log g p.log) p.maps (log_then log p.log (released_log g p.log) d) us d
    released_logs (retiring old c) h = stays (retiring old c) h (after_rebuild c) refl refl h.due
    released_logs (retiring_at_end old) h = is_answered (retiring_at_end old) p.linearized p.log p.maps log us d h refl
    released_logs g h = else_logs g h
      where
        else_logs : (g : Stage) → At g → Logged g p.linearized p.log p.maps (log_then log p.log p.log d) us d
        else_logs g h = subst (λ (x : List (LogEntry ℕ)). Logged g p.linearized p.log p.maps x us d) (same_log g p.linearized p.log p.maps log us d h d) h

    pub else_logs : (g : Stage) → At g → Logged g p.linearized p.log p.maps (log_then log p.log p.log d) us d
    else_logs g h = subst (λ (x : List (LogEntry ℕ)). Logged g p.linearized p.log p.maps x us d) (same_log g p.linearized p.log p.maps log us d h d) h
