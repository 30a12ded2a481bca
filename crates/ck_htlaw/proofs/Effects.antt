-- What the writer does makes its call's update of the map, and its answer is the map's.
use Rattle.std.proofs.Common.{◌≡◌, ℕ, suc, ◌+◌, ◌*◌, ⊎_elim, Bool, true, false, cond, nat_lt, nat_le, ◌==◌, List, [], ◌∷◌, ◌++◌, length, map, refl, sym, ap, ◌∙◌, subst}
use Rattle.std.specs.Prelude.{Option, Some, None}
use Rattle.std.specs.Ordering.{nat_cmp}
use Rattle.std.proofs.lemmas.Cmp.{nat_cmp_total}
use Rattle.std.specs.BTreeMap.{insert_entry, is_at}
use Rattle.ck_history.specs.declared.log.LogEntry.{LogEntry}
use Rattle.ck_history.specs.declared.update.Update.{Update}
use Rattle.ck_history.specs.declared.update.Update.TheVariants.{Set, Put, Del, Tidy}
use Rattle.ck_history.specs.declared.update.Reply.{Reply}
use Rattle.ck_history.specs.declared.update.Reply.TheVariants.{Fresh, Full}
use Rattle.ck_history.specs.Map.{Map, IsMap, find, add, step, after_from, replies_from}
use Rattle.ck_history.proofs.Order.{IsMap-insert_entry, IsMap-remove_entry}
use Rattle.ck_history.proofs.Step.{step-Set_found, step-Put_found, step-Del_found, step-Set_absent, step-Put_absent, step-Del_absent}
use Rattle.ck_slots.specs.Slots.{Order, SlotsView, Holds}
use Rattle.ck_slots.specs.Counting.{count as how_many, used, rebuilt_log}
use Rattle.ck_slots.specs.Changes.{IsUpdate}
use Rattle.ck_slots.proofs.Maps.{find-insert_entry, find-insert_entry_other, find-remove_entry, find-remove_entry_other}
use Rattle.ck_htplan.specs.declared.cases.Plan.{Plan}
use Rattle.ck_htplan.specs.declared.cases.Plan.TheVariants.{Empty, Reuse, Stand, Move}
use Rattle.ck_htlaw.specs.Calls.{Opening, setting, putting, removing, tidying, looking, other}
use Rattle.ck_htlaw.specs.Stages.{Target, empty, reuse, move, idle, IsMap as IsSlotMap}
use Rattle.ck_htlaw.specs.Table.{Layout, view, Action, inserts, stands, deletes, nothing, begins_rebuild, copies, tidies, no_action, WriterState}
use Rattle.ck_htlaw.specs.Layout.{log_of}
use Rattle.ck_htlaw.specs.Actions.{most, job, slots_now, keys_now, tombstones_now, plan_now, root_at, goes_in, adds, to_set, to_put, to_remove, by_call, added, set_reply, put_reply, remove_reply, answer_to, key_at, when_copied, copies_to, to_copy}
use Rattle.ck_htplan.specs.Planning.{plan_of}
use Rattle.ck_htlaw.specs.Invariant.{WriterInvariant}
use Rattle.ck_htlaw.specs.Linearized.{updates, map_after, AreReplies, update_of}
use Rattle.ck_htplan.proofs.Says.{Says}
use Rattle.ck_htlaw.proofs.Planning.{missing}
use Rattle.ck_htlaw.proofs.Soundness.{now, plan_says}
use Rattle.ck_slots.proofs.Lives.{nat_exact}
use Rattle.ck_htlaw.proofs.Lives.{opt, live_keys}

-- a map stays in order: where there is room for a fresh key and where there is none
added_sorted : (m : Map ℕ) (k x : ℕ) → IsMap nat_cmp m → (b : Bool) → IsMap nat_cmp (cond {A = Map ℕ × Reply} b (insert_entry nat_cmp m k x, Fresh) (m, Full)).0
added_sorted m k x sorted true = IsMap-insert_entry nat_cmp_total k x m sorted
added_sorted m k x sorted false = sorted

pub step_sorted : (m : Map ℕ) (u : Update ℕ) → IsMap nat_cmp m → IsMap nat_cmp (step nat_cmp most m u).0
step_sorted m (Set k x) sorted = by (find nat_cmp m k) refl
  where
    by : (r : Option ℕ) → find nat_cmp m k ≡ r → IsMap nat_cmp (step nat_cmp most m (Set k x)).0
    by (Some v) e = subst (λ (z : Map ℕ × Reply). IsMap nat_cmp z.0) (sym (step-Set_found nat_cmp most m k v e x)) (IsMap-insert_entry nat_cmp_total k x m sorted)
    by None e = subst (λ (z : Map ℕ × Reply). IsMap nat_cmp z.0) (sym (step-Set_absent nat_cmp most m k e x)) (added_sorted m k x sorted (nat_lt (length m) most))
step_sorted m (Put k x) sorted = by (find nat_cmp m k) refl
  where
    by : (r : Option ℕ) → find nat_cmp m k ≡ r → IsMap nat_cmp (step nat_cmp most m (Put k x)).0
    by (Some v) e = subst (λ (z : Map ℕ × Reply). IsMap nat_cmp z.0) (sym (step-Put_found nat_cmp most m k v e x)) sorted
    by None e = subst (λ (z : Map ℕ × Reply). IsMap nat_cmp z.0) (sym (step-Put_absent nat_cmp most m k e x)) (added_sorted m k x sorted (nat_lt (length m) most))
step_sorted m (Del k) sorted = by (find nat_cmp m k) refl
  where
    by : (r : Option ℕ) → find nat_cmp m k ≡ r → IsMap nat_cmp (step nat_cmp most m (Del k)).0
    by (Some v) e = subst (λ (z : Map ℕ × Reply). IsMap nat_cmp z.0) (sym (step-Del_found nat_cmp most m k v e)) (IsMap-remove_entry nat_cmp (is_at (nat_cmp k)) m sorted)
    by None e = subst (λ (z : Map ℕ × Reply). IsMap nat_cmp z.0) (sym (step-Del_absent nat_cmp most m k e)) sorted
step_sorted m Tidy sorted = sorted

-- one update more
after_more : (m : Map ℕ) (us : List (Update ℕ)) (u : Update ℕ) → after_from nat_cmp most m (us ++ u ∷ []) ≡ (step nat_cmp most (after_from nat_cmp most m us) u).0
after_more m [] u = refl
after_more m (x ∷ us) u = after_more (step nat_cmp most m x).0 us u

replies_more : (m : Map ℕ) (us : List (Update ℕ)) (u : Update ℕ) → replies_from nat_cmp most m (us ++ u ∷ []) ≡ replies_from nat_cmp most m us ++ (step nat_cmp most (after_from nat_cmp most m us) u).1 ∷ []
replies_more m [] u = refl
replies_more m (x ∷ us) u = ap (λ (l : List Reply). (step nat_cmp most m x).1 ∷ l) (replies_more (step nat_cmp most m x).0 us u)

map_more : {A B : Type 0} (f : A → B) (xs : List A) (x : A) → map f (xs ++ x ∷ []) ≡ map f xs ++ f x ∷ []
map_more f [] x = refl
map_more f (a ∷ xs) x = ap (λ l. f a ∷ l) (map_more f xs x)

pub map_next : (us : List (LogEntry ℕ)) (d : LogEntry ℕ) → map_after (us ++ d ∷ []) ≡ (step nat_cmp most (map_after us) d.update).0
map_next us d = ap (after_from nat_cmp most []) (map_more (λ (e : LogEntry ℕ). e.update) us d) ∙ after_more [] (updates us) d.update

pub replies_next : (us : List (LogEntry ℕ)) (d : LogEntry ℕ) → AreReplies us → (step nat_cmp most (map_after us) d.update).1 ≡ d.reply → AreReplies (us ++ d ∷ [])
replies_next us d are is = map_more (λ (e : LogEntry ℕ). e.reply) us d ∙ ((λ i. are i ++ sym is i ∷ []) ∙ sym (ap (replies_from nat_cmp most []) (map_more (λ (e : LogEntry ℕ). e.update) us d) ∙ replies_more [] (updates us) d.update))

-- What an action makes of the map m, by the update u
abbrev pub Makes : Map ℕ → Update ℕ → Action → Type 0
Makes m u (inserts c w) = IsUpdate (find nat_cmp m) (find nat_cmp (step nat_cmp most m u).0) w.key (Some w.number)
Makes m u (stands k s n) = IsUpdate (find nat_cmp m) (find nat_cmp (step nat_cmp most m u).0) k (Some n)
Makes m u (deletes k s) = IsUpdate (find nat_cmp m) (find nat_cmp (step nat_cmp most m u).0) k None
Makes m u nothing = (k : ℕ) → find nat_cmp (step nat_cmp most m u).0 k ≡ find nat_cmp m k
Makes m u tidies = (k : ℕ) → find nat_cmp (step nat_cmp most m u).0 k ≡ find nat_cmp m k
Makes m u a = Unit {0}

module _ (m : Map ℕ) (k x : ℕ) where
  inserted : (m' : Map ℕ) → m' ≡ insert_entry nat_cmp m k x → IsUpdate (find nat_cmp m) (find nat_cmp m') k (Some x)
  inserted m' e = subst (λ (z : Map ℕ). IsUpdate (find nat_cmp m) (find nat_cmp z) k (Some x)) (sym e)
      record { here = find-insert_entry nat_cmp nat_cmp_total nat_exact k x m; others = λ j n. find-insert_entry_other nat_cmp nat_cmp_total nat_exact k x j n m }

  abbrev Added : Map ℕ × Reply
  Added = add nat_cmp most m k x

  added_yes : nat_lt (length m) most ≡ true → Added ≡ (insert_entry nat_cmp m k x, Fresh)
  added_yes e = ap (λ (b : Bool). cond b (insert_entry nat_cmp m k x, Fresh) (m, Full)) e

  added_no : nat_lt (length m) most ≡ false → Added ≡ (m, Full)
  added_no e = ap (λ (b : Bool). cond b (insert_entry nat_cmp m k x, Fresh) (m, Full)) e

-- of the writer between two updates, whose words stand for the map m
module _ (l : Layout) (ws : List ℕ) (p : WriterState) (h : WriterInvariant l ws p) (slots : IsSlotMap (l.order p.root) (view l ws p.root) p.maps p.linearized idle) (m : Map ℕ) (sorted : IsMap nat_cmp m) (pairs : (k : ℕ) → opt (p.maps p.linearized k) ≡ find nat_cmp m k) where
  abbrev o : Order
  o = l.order p.root

  abbrev v : SlotsView
  v = view l ws p.root

  keys_are : keys_now l p ≡ length m
  keys_are = ap (λ (u : SlotsView). how_many u.state 1 o.slots) (now l ws p h) ∙ live_keys o h.region.ok v p.maps p.linearized slots m sorted pairs

  absent : (k : ℕ) → ((t : ℕ) → Holds o v k t → ⊥) → find nat_cmp m k ≡ None
  absent k none = sym (pairs k) ∙ ap opt (missing o v p.maps p.linearized slots k 0 none)

  found : (k s : ℕ) → Holds o v k s → find nat_cmp m k ≡ Some ((slots_now l p).value s)
  found k s y = sym (pairs k) ∙ (ap opt (⊎_elim (λ (z : ⊥). absurd z) (λ (z : p.maps p.linearized k ≡ suc (v.value s)). z) (slots.present k s y)) ∙ ap (λ (u : SlotsView). Some (u.value s)) (sym (now l ws p h)))

  room : nat_lt (keys_now l p) most ≡ nat_lt (length m) most
  room = ap (λ (n : ℕ). nat_lt n most) keys_are

  step_of : Update ℕ → Map ℕ × Reply
  step_of u = step nat_cmp most m u

  if : (u : Update ℕ) (b : Bool) (a c : Action) → (b ≡ true → Makes m u a) → (b ≡ false → Makes m u c) → Makes m u (cond b a c)
  if u true a c x y = x refl
  if u false a c x y = y refl

  -- a fresh key, by an update that adds it
  module _ (k n : ℕ) (u : Update ℕ) (is : step nat_cmp most m u ≡ add nat_cmp most m k n) where
    entered : nat_lt (keys_now l p) most ≡ true → IsUpdate (find nat_cmp m) (find nat_cmp (step nat_cmp most m u).0) k (Some n)
    entered e = inserted m k n (step nat_cmp most m u).0 (ap (λ (z : Map ℕ × Reply). z.0) (is ∙ added_yes m k n (sym room ∙ e)))

    refused : nat_lt (keys_now l p) most ≡ false → (j : ℕ) → find nat_cmp (step nat_cmp most m u).0 j ≡ find nat_cmp m j
    refused e j = ap (λ (z : Map ℕ × Reply). find nat_cmp z.0 j) (is ∙ added_no m k n (sym room ∙ e))

    adds_makes : (c : Target) (s word : ℕ) → Makes m u (adds l p c (job l p k n s) word)
    adds_makes empty s word = if u (nat_lt (keys_now l p) most) (goes_in l p empty (job l p k n s) word) nothing
        (λ e. if u (nat_le (4 * (keys_now l p + tombstones_now l p + 1)) (3 * o.slots)) (inserts empty (job l p k n s)) (begins_rebuild (root_at l p word (rebuilt_log (log_of p.root) (keys_now l p))))
        (λ _. entered e) (λ _. tt)) refused
    adds_makes reuse s word = if u (nat_lt (keys_now l p) most) (inserts reuse (job l p k n s)) nothing entered refused
    adds_makes (move from) s word = if u (nat_lt (keys_now l p) most) (inserts (move from) (job l p k n s)) nothing entered refused

    added_reply : (step nat_cmp most m u).1 ≡ added l p
    added_reply = ap (λ (z : Map ℕ × Reply). z.1) is ∙ (by (nat_lt (length m) most) ∙ sym (ap (λ (b : Bool). cond b Fresh Full) room))
      where
        by : (b : Bool) → (cond {A = Map ℕ × Reply} b (insert_entry nat_cmp m k n, Fresh) (m, Full)).1 ≡ cond b Fresh Full
        by true = refl
        by false = refl

  set_makes : (k n word : ℕ) (plan : Plan) → Says o v k plan → Makes m (Set k n) (to_set l p plan k n word)
  set_makes k n word (Empty s) x = adds_makes k n (Set k n) (step-Set_absent nat_cmp most m k (absent k x.3) n) empty s word
  set_makes k n word (Reuse s) x = adds_makes k n (Set k n) (step-Set_absent nat_cmp most m k (absent k x.3) n) reuse s word
  set_makes k n word (Stand s) x = inserted m k n (step nat_cmp most m (Set k n)).0 (ap (λ (z : Map ℕ × Reply). z.0) (step-Set_found nat_cmp most m k _ (found k s x) n))
  set_makes k n word (Move t s) x = inserted m k n (step nat_cmp most m (Set k n)).0 (ap (λ (z : Map ℕ × Reply). z.0) (step-Set_found nat_cmp most m k _ (found k s x.2) n))

  set_right : (k n : ℕ) (plan : Plan) → Says o v k plan → (step nat_cmp most m (Set k n)).1 ≡ set_reply l p plan
  set_right k n (Empty s) x = added_reply k n (Set k n) (step-Set_absent nat_cmp most m k (absent k x.3) n)
  set_right k n (Reuse s) x = added_reply k n (Set k n) (step-Set_absent nat_cmp most m k (absent k x.3) n)
  set_right k n (Stand s) x = ap (λ (z : Map ℕ × Reply). z.1) (step-Set_found nat_cmp most m k _ (found k s x) n)
  set_right k n (Move t s) x = ap (λ (z : Map ℕ × Reply). z.1) (step-Set_found nat_cmp most m k _ (found k s x.2) n)

  put_makes : (k n word : ℕ) (plan : Plan) → Says o v k plan → Makes m (Put k n) (to_put l p plan k n word)
  put_makes k n word (Empty s) x = adds_makes k n (Put k n) (step-Put_absent nat_cmp most m k (absent k x.3) n) empty s word
  put_makes k n word (Reuse s) x = adds_makes k n (Put k n) (step-Put_absent nat_cmp most m k (absent k x.3) n) reuse s word
  put_makes k n word (Stand s) x = λ j. ap (λ (z : Map ℕ × Reply). find nat_cmp z.0 j) (step-Put_found nat_cmp most m k _ (found k s x) n)
  put_makes k n word (Move t s) x = λ j. ap (λ (z : Map ℕ × Reply). find nat_cmp z.0 j) (step-Put_found nat_cmp most m k _ (found k s x.2) n)

  put_right : (k n : ℕ) (plan : Plan) → Says o v k plan → (step nat_cmp most m (Put k n)).1 ≡ put_reply l p plan
  put_right k n (Empty s) x = added_reply k n (Put k n) (step-Put_absent nat_cmp most m k (absent k x.3) n)
  put_right k n (Reuse s) x = added_reply k n (Put k n) (step-Put_absent nat_cmp most m k (absent k x.3) n)
  put_right k n (Stand s) x = ap (λ (z : Map ℕ × Reply). z.1) (step-Put_found nat_cmp most m k _ (found k s x) n)
  put_right k n (Move t s) x = ap (λ (z : Map ℕ × Reply). z.1) (step-Put_found nat_cmp most m k _ (found k s x.2) n)

  taken_out : (k s : ℕ) → Holds o v k s → IsUpdate (find nat_cmp m) (find nat_cmp (step nat_cmp most m (Del k)).0) k None
  taken_out k s y = subst (λ (z : Map ℕ). IsUpdate (find nat_cmp m) (find nat_cmp z) k None) (sym (ap (λ (z : Map ℕ × Reply). z.0) (step-Del_found nat_cmp most m k _ (found k s y))))
      record { here = find-remove_entry nat_cmp nat_cmp_total nat_exact k m sorted; others = λ j n. find-remove_entry_other nat_cmp nat_cmp_total nat_exact k j n m }

  remove_makes : (k : ℕ) (plan : Plan) → Says o v k plan → Makes m (Del k) (to_remove l p plan k)
  remove_makes k (Empty s) x = λ j. ap (λ (z : Map ℕ × Reply). find nat_cmp z.0 j) (step-Del_absent nat_cmp most m k (absent k x.3))
  remove_makes k (Reuse s) x = λ j. ap (λ (z : Map ℕ × Reply). find nat_cmp z.0 j) (step-Del_absent nat_cmp most m k (absent k x.3))
  remove_makes k (Stand s) x = taken_out k s x
  remove_makes k (Move t s) x = taken_out k s x.2

  remove_right : (k : ℕ) (plan : Plan) → Says o v k plan → (step nat_cmp most m (Del k)).1 ≡ remove_reply l p plan
  remove_right k (Empty s) x = ap (λ (z : Map ℕ × Reply). z.1) (step-Del_absent nat_cmp most m k (absent k x.3))
  remove_right k (Reuse s) x = ap (λ (z : Map ℕ × Reply). z.1) (step-Del_absent nat_cmp most m k (absent k x.3))
  remove_right k (Stand s) x = ap (λ (z : Map ℕ × Reply). z.1) (step-Del_found nat_cmp most m k _ (found k s x))
  remove_right k (Move t s) x = ap (λ (z : Map ℕ × Reply). z.1) (step-Del_found nat_cmp most m k _ (found k s x.2))

  pub call_makes : (c : Opening) (word : ℕ) → Makes m (update_of c) (by_call l p c word)
  call_makes (setting k n) word = set_makes k n word (plan_now l p k) (plan_says l ws p h slots k)
  call_makes (putting k n) word = put_makes k n word (plan_now l p k) (plan_says l ws p h slots k)
  call_makes (removing k) word = remove_makes k (plan_now l p k) (plan_says l ws p h slots k)
  call_makes tidying word = if Tidy (tombstones_now l p == 0) nothing (begins_rebuild (root_at l p word (log_of p.root))) (λ _ j. refl) (λ _. tt)
  call_makes (looking k) word = tt
  call_makes other word = tt

  -- the answer
  pub answer_right : (c : Opening) → (step nat_cmp most m (answer_to l p c).update).1 ≡ (answer_to l p c).reply
  answer_right (setting k n) = set_right k n (plan_now l p k) (plan_says l ws p h slots k)
  answer_right (putting k n) = put_right k n (plan_now l p k) (plan_says l ws p h slots k)
  answer_right (removing k) = remove_right k (plan_now l p k) (plan_says l ws p h slots k)
  answer_right tidying = refl
  answer_right (looking k) = refl
  answer_right other = refl

pub answer_update : (l : Layout) (p : WriterState) (c : Opening) → (answer_to l p c).update ≡ update_of c
answer_update l p (setting k n) = refl
answer_update l p (putting k n) = refl
answer_update l p (removing k) = refl
answer_update l p tidying = refl
answer_update l p (looking k) = refl
answer_update l p other = refl

-- the end of a copy
module _ (l : Layout) (p : WriterState) (m : Map ℕ) where
  pub copies_make : (c : Opening) (root j : ℕ) (r : Option ℕ) → Makes m (update_of c) (to_copy l p c root j r)
  copies_make c root j (Some s) = of_plan (plan_of (l.order root) (view l p.words root) (key_at l p s))
    where
      if : (b : Bool) (a : Action) → Makes m (update_of c) a → Makes m (update_of c) (cond b a no_action)
      if true a x = x
      if false a x = tt

      of_plan : (plan : Plan) → Makes m (update_of c) (copies_to l p root s (key_at l p s) plan)
      of_plan (Empty at) = if (nat_le (used (view l p.words root).state (l.order root).slots + 2) (l.order root).slots) (copies s (job l p (key_at l p s) ((slots_now l p).value s) at)) tt
      of_plan plan = tt
  copies_make c root j None = if (nat_le j (l.order p.root).slots) (when_copied l p c) (ended c)
    where
      if : (b : Bool) (a : Action) → Makes m (update_of c) a → Makes m (update_of c) (cond b a no_action)
      if true a x = x
      if false a x = tt

      ended : (c : Opening) → Makes m (update_of c) (when_copied l p c)
      ended tidying = λ k. refl
      ended (setting k n) = tt
      ended (putting k n) = tt
      ended (removing k) = tt
      ended (looking k) = tt
      ended other = tt
