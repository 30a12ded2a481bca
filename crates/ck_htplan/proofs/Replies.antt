-- What is decided by the plan does to the map what the update does, and is answered by the map's reply.
use Rattle.std.proofs.Common.{◌≡◌, ℕ, ◌+◌, ◌*◌, ◌<◌, ◌≤◌, Bool, true, false, cond, nat_lt, nat_le, ◌==◌, length, refl, sym, ap, ◌∙◌, subst}
use Rattle.std.specs.Prelude.{Some, None}
use Rattle.std.specs.Ordering.{nat_cmp}
use Rattle.std.specs.BTreeMap.{insert_entry}
use Rattle.std.proofs.lemmas.Cmp.{nat_cmp_total}
use Rattle.ck_history.specs.declared.update.Update.{Update}
use Rattle.ck_history.specs.declared.update.Update.TheVariants.{Set, Put, Del, Tidy}
use Rattle.ck_history.specs.declared.update.Reply.{Reply}
use Rattle.ck_history.specs.declared.update.Reply.TheVariants.{Fresh, Full}
use Rattle.ck_history.specs.Map.{Map, IsMap, find, add, step}
use Rattle.ck_history.proofs.Step.{step-Set_found, step-Put_found, step-Del_found, step-Set_absent, step-Put_absent, step-Del_absent}
use Rattle.ck_slots.specs.Slots.{Order, IsOrder, SlotsView, Holds}
use Rattle.ck_slots.specs.Standing.{single}
use Rattle.ck_slots.specs.Holding.{IsHeld}
use Rattle.ck_slots.specs.Counting.{rebuilt_log}
use Rattle.ck_slots.specs.Changes.{IsUpdate}
use Rattle.ck_slots.proofs.Stores.{in_map}
use Rattle.ck_slots.proofs.Maps.{find-insert_entry, find-insert_entry_other, find-remove_entry, find-remove_entry_other}
use Rattle.ck_slots.proofs.Lives.{nat_exact, live_keys}
use Rattle.ck_htplan.specs.declared.cases.Plan.{Plan}
use Rattle.ck_htplan.specs.declared.cases.Plan.TheVariants.{Empty, Reuse, Stand, Move}
use Rattle.ck_htplan.specs.Planning.{plan_of}
use Rattle.ck_htplan.specs.Deciding.{Decision, adds, stays, rebuilds, keys, tombstones, into_empty, to_set, to_put, to_remove, decide, added, set_reply, put_reply, remove_reply, reply, Changes, DoesAsUpdate}
use Rattle.ck_htplan.proofs.Says.{Says}
use Rattle.ck_htplan.proofs.Decided.{absent, plan_says}

-- the value stands beside the key from then on
inserts : (m m' : Map ℕ) (k x : ℕ) → m' ≡ insert_entry nat_cmp m k x → IsUpdate (find nat_cmp m) (find nat_cmp m') k (Some x)
inserts m m' k x e = subst (λ (z : Map ℕ). IsUpdate (find nat_cmp m) (find nat_cmp z) k (Some x)) (sym e)
    record { here = find-insert_entry nat_cmp nat_cmp_total nat_exact k x m; others = λ j n. find-insert_entry_other nat_cmp nat_cmp_total nat_exact k x j n m }

-- Slots that stand for the map m: each full one has the two words of a key
module _ (o : Order) (ok : IsOrder o) (v : SlotsView) (states : (s : ℕ) → s < o.slots → v.state s ≤ 2) (keyed : (s : ℕ) → s < o.slots → v.state s ≡ 1 → (k : ℕ) × Holds o v k s) (most c : ℕ) (m : Map ℕ) (sorted : IsMap nat_cmp m) (h : IsHeld o v single (find nat_cmp m)) where
  missing : (k : ℕ) → ((t : ℕ) → Holds o v k t → ⊥) → find nat_cmp m k ≡ None
  missing k none = absent o ok v (find nat_cmp m) h states k none

  found : (k s : ℕ) → Holds o v k s → find nat_cmp m k ≡ Some (v.value s)
  found k s x = in_map o v (find nat_cmp m) h k s x

  -- the keys are counted on the slots
  room : nat_lt (keys most c o v) most ≡ nat_lt (length m) most
  room = ap (λ (n : ℕ). nat_lt n most) (live_keys o ok v keyed (find nat_cmp m) h m sorted (λ k. refl))

  if : (u : Update ℕ) (b : Bool) (a d : Decision) → (b ≡ true → DoesAsUpdate most m u a) → (b ≡ false → DoesAsUpdate most m u d) → DoesAsUpdate most m u (cond b a d)
  if u true a d x y = x refl
  if u false a d x y = y refl

  -- an update that adds a fresh key
  module _ (k x : ℕ) (u : Update ℕ) (is : step nat_cmp most m u ≡ add nat_cmp most m k x) where
    there_is : nat_lt (keys most c o v) most ≡ true → (step nat_cmp most m u).0 ≡ insert_entry nat_cmp m k x
    there_is e = ap (λ (z : Map ℕ × Reply). z.0) is ∙ ap (λ (b : Bool). (cond {A = Map ℕ × Reply} b (insert_entry nat_cmp m k x, Fresh) (m, Full)).0) (sym room ∙ e)

    refused : nat_lt (keys most c o v) most ≡ false → (j : ℕ) → find nat_cmp (step nat_cmp most m u).0 j ≡ find nat_cmp m j
    refused e j = ap (λ (z : Map ℕ × Reply). find nat_cmp z.0 j) is ∙ ap (λ (b : Bool). find nat_cmp (cond {A = Map ℕ × Reply} b (insert_entry nat_cmp m k x, Fresh) (m, Full)).0 j) (sym room ∙ e)

    added_reply : (step nat_cmp most m u).1 ≡ added most c o v
    added_reply = ap (λ (z : Map ℕ × Reply). z.1) is ∙ (by (nat_lt (length m) most) ∙ sym (ap (λ (b : Bool). cond b Fresh Full) room))
      where
        by : (b : Bool) → (cond {A = Map ℕ × Reply} b (insert_entry nat_cmp m k x, Fresh) (m, Full)).1 ≡ cond b Fresh Full
        by true = refl
        by false = refl

  set_inserts : (k x : ℕ) → nat_lt (keys most c o v) most ≡ true → ((t : ℕ) → Holds o v k t → ⊥) → Changes most m (Set k x) (Some x)
  set_inserts k x e none = inserts m (step nat_cmp most m (Set k x)).0 k x (there_is k x (Set k x) (step-Set_absent nat_cmp most m k (missing k none) x) e)

  put_inserts : (k x : ℕ) → nat_lt (keys most c o v) most ≡ true → ((t : ℕ) → Holds o v k t → ⊥) → Changes most m (Put k x) (Some x)
  put_inserts k x e none = inserts m (step nat_cmp most m (Put k x)).0 k x (there_is k x (Put k x) (step-Put_absent nat_cmp most m k (missing k none) x) e)

  into : (u : Update ℕ) (s : ℕ) → DoesAsUpdate most m u (adds s) → DoesAsUpdate most m u (into_empty most c o v s)
  into u s x = if u (nat_le (4 * (keys most c o v + tombstones most c o v + 1)) (3 * o.slots)) (adds s) (rebuilds (rebuilt_log c (keys most c o v))) (λ _. x) (λ _. tt)

  set_does : (k x : ℕ) (p : Plan) → Says o v k p → DoesAsUpdate most m (Set k x) (to_set most c o v p)
  set_does k x (Empty s) y = if (Set k x) (nat_lt (keys most c o v) most) (into_empty most c o v s) stays (λ e. into (Set k x) s (set_inserts k x e y.3)) (refused k x (Set k x) (step-Set_absent nat_cmp most m k (missing k y.3) x))
  set_does k x (Reuse s) y = if (Set k x) (nat_lt (keys most c o v) most) (adds s) stays (λ e. set_inserts k x e y.3) (refused k x (Set k x) (step-Set_absent nat_cmp most m k (missing k y.3) x))
  set_does k x (Stand s) y = inserts m (step nat_cmp most m (Set k x)).0 k x (ap (λ (z : Map ℕ × Reply). z.0) (step-Set_found nat_cmp most m k _ (found k s y) x))
  set_does k x (Move t s) y = inserts m (step nat_cmp most m (Set k x)).0 k x (ap (λ (z : Map ℕ × Reply). z.0) (step-Set_found nat_cmp most m k _ (found k s y.2) x))

  set_answers : (k x : ℕ) (p : Plan) → Says o v k p → (step nat_cmp most m (Set k x)).1 ≡ set_reply most c o v p
  set_answers k x (Empty s) y = added_reply k x (Set k x) (step-Set_absent nat_cmp most m k (missing k y.3) x)
  set_answers k x (Reuse s) y = added_reply k x (Set k x) (step-Set_absent nat_cmp most m k (missing k y.3) x)
  set_answers k x (Stand s) y = ap (λ (z : Map ℕ × Reply). z.1) (step-Set_found nat_cmp most m k _ (found k s y) x)
  set_answers k x (Move t s) y = ap (λ (z : Map ℕ × Reply). z.1) (step-Set_found nat_cmp most m k _ (found k s y.2) x)

  put_does : (k x : ℕ) (p : Plan) → Says o v k p → DoesAsUpdate most m (Put k x) (to_put most c o v p)
  put_does k x (Empty s) y = if (Put k x) (nat_lt (keys most c o v) most) (into_empty most c o v s) stays (λ e. into (Put k x) s (put_inserts k x e y.3)) (refused k x (Put k x) (step-Put_absent nat_cmp most m k (missing k y.3) x))
  put_does k x (Reuse s) y = if (Put k x) (nat_lt (keys most c o v) most) (adds s) stays (λ e. put_inserts k x e y.3) (refused k x (Put k x) (step-Put_absent nat_cmp most m k (missing k y.3) x))
  put_does k x (Stand s) y = λ j. ap (λ (z : Map ℕ × Reply). find nat_cmp z.0 j) (step-Put_found nat_cmp most m k _ (found k s y) x)
  put_does k x (Move t s) y = λ j. ap (λ (z : Map ℕ × Reply). find nat_cmp z.0 j) (step-Put_found nat_cmp most m k _ (found k s y.2) x)

  put_answers : (k x : ℕ) (p : Plan) → Says o v k p → (step nat_cmp most m (Put k x)).1 ≡ put_reply most c o v p
  put_answers k x (Empty s) y = added_reply k x (Put k x) (step-Put_absent nat_cmp most m k (missing k y.3) x)
  put_answers k x (Reuse s) y = added_reply k x (Put k x) (step-Put_absent nat_cmp most m k (missing k y.3) x)
  put_answers k x (Stand s) y = ap (λ (z : Map ℕ × Reply). z.1) (step-Put_found nat_cmp most m k _ (found k s y) x)
  put_answers k x (Move t s) y = ap (λ (z : Map ℕ × Reply). z.1) (step-Put_found nat_cmp most m k _ (found k s y.2) x)

  takes : (k s : ℕ) → Holds o v k s → Changes most m (Del k) None
  takes k s y = subst (λ (z : Map ℕ). IsUpdate (find nat_cmp m) (find nat_cmp z) k None) (sym (ap (λ (z : Map ℕ × Reply). z.0) (step-Del_found nat_cmp most m k _ (found k s y))))
      record { here = find-remove_entry nat_cmp nat_cmp_total nat_exact k m sorted; others = λ j n. find-remove_entry_other nat_cmp nat_cmp_total nat_exact k j n m }

  remove_does : (k : ℕ) (p : Plan) → Says o v k p → DoesAsUpdate most m (Del k) (to_remove most c o v p)
  remove_does k (Empty s) y = λ j. ap (λ (z : Map ℕ × Reply). find nat_cmp z.0 j) (step-Del_absent nat_cmp most m k (missing k y.3))
  remove_does k (Reuse s) y = λ j. ap (λ (z : Map ℕ × Reply). find nat_cmp z.0 j) (step-Del_absent nat_cmp most m k (missing k y.3))
  remove_does k (Stand s) y = takes k s y
  remove_does k (Move t s) y = takes k s y.2

  remove_answers : (k : ℕ) (p : Plan) → Says o v k p → (step nat_cmp most m (Del k)).1 ≡ remove_reply most c o v p
  remove_answers k (Empty s) y = ap (λ (z : Map ℕ × Reply). z.1) (step-Del_absent nat_cmp most m k (missing k y.3))
  remove_answers k (Reuse s) y = ap (λ (z : Map ℕ × Reply). z.1) (step-Del_absent nat_cmp most m k (missing k y.3))
  remove_answers k (Stand s) y = ap (λ (z : Map ℕ × Reply). z.1) (step-Del_found nat_cmp most m k _ (found k s y))
  remove_answers k (Move t s) y = ap (λ (z : Map ℕ × Reply). z.1) (step-Del_found nat_cmp most m k _ (found k s y.2))

  plan_right : (k : ℕ) → Says o v k (plan_of o v k)
  plan_right k = plan_says o ok v (find nat_cmp m) h states k

  pub does_as_update : (u : Update ℕ) → DoesAsUpdate most m u (decide most c o v u)
  does_as_update (Set k x) = set_does k x (plan_of o v k) (plan_right k)
  does_as_update (Put k x) = put_does k x (plan_of o v k) (plan_right k)
  does_as_update (Del k) = remove_does k (plan_of o v k) (plan_right k)
  does_as_update Tidy = if Tidy (tombstones most c o v == 0) stays (rebuilds c) (λ _ j. refl) (λ _. tt)

  pub replies_as_map : (u : Update ℕ) → (step nat_cmp most m u).1 ≡ reply most c o v u
  replies_as_map (Set k x) = set_answers k x (plan_of o v k) (plan_right k)
  replies_as_map (Put k x) = put_answers k x (plan_of o v k) (plan_right k)
  replies_as_map (Del k) = remove_answers k (plan_of o v k) (plan_right k)
  replies_as_map Tidy = refl
