-- The pairs of a map after some updates: how many they are, and that their keys are among those that the updates bring.
use Rattle.std.proofs.Common.{◌≡◌, ℕ, zero, suc, ◌+◌, ◌<◌, ◌≤◌, nat_lt, Bool, true, false, cond, List, [], ◌∷◌, ◌++◌, length, max, take, Some, None, refl, sym, ap, ◌∙◌, arith}
use Rattle.std.specs.Prelude.{All}
use Rattle.std.proofs.lemmas.List.{length-append}
use Rattle.std.proofs.lemmas.List.Elements.{All-nil, All-cons, All-head, All-tail, All-push, All-weaker}
use Rattle.std.proofs.lemmas.Bool.Decides.{nat_tests}
use Rattle.std.specs.List.Sorted.{IsStrictlySortedBy}
use Rattle.std.specs.Option.{option_map_or}
use Rattle.std.specs.Map.{keys_of, remove_entry}
use Rattle.std.proofs.lemmas.Map.{lookup-none}
use Rattle.std.proofs.lemmas.Map.Entries.{length-keys_of, none_below_head}
use Rattle.std.proofs.lemmas.Map.Keys.{sorted_tail}
use Rattle.std.proofs.lemmas.Map.Views.{All-keys-insert_entry, All-map-remove_entry}
use Rattle.std.specs.BTreeMap.{is_at, insert_entry}
use Rattle.std.specs.Ordering.{nat_cmp, match_ordering, is_eq}
use Rattle.std.proofs.lemmas.Bool.{cond-false}
use Rattle.std.proofs.lemmas.Cmp.{nat_cmp_total}
use Rattle.std.specs.Cmp.{IsTotalOrder}
use Rattle.std.specs.declared.cmp.Ordering.{Ordering}
use Rattle.std.specs.declared.cmp.Ordering.TheVariants.{Less, Equal, Greater}
use Rattle.ck_history.specs.declared.update.Update.{Update}
use Rattle.ck_history.specs.declared.update.Update.TheVariants.{Set, Put, Del, Tidy}
use Rattle.ck_history.specs.declared.update.Reply.{Reply}
use Rattle.ck_history.specs.declared.update.Reply.TheVariants.{Fresh, Was, Has, Missing, Full}
use Rattle.ck_history.specs.Map.{Map, IsMap, find, add, step, after_from, after}
use Rattle.ck_history.proofs.Order.{IsMap-step, IsMap-after_from}
use Rattle.ck_jobs.specs.Room.{brought_by, brought}
use Rattle.ck_jobs.proofs.Ascending.{length_ascending}

module _ {A : Type 0} (P : A → Type 0) where
  all_left : (xs ys : List A) → All P (xs ++ ys) → All P xs
  all_left [] ys each = All-nil P
  all_left (x ∷ xs) ys each = All-cons P x xs (All-head P x (xs ++ ys) each) (all_left xs ys (All-tail P x (xs ++ ys) each))

  last_of : (xs : List A) (y : A) → All P (xs ++ y ∷ []) → P y
  last_of [] y each = All-head P y [] each
  last_of (x ∷ xs) y each = last_of xs y (All-tail P x (xs ++ y ∷ []) each)

-- updates, and the keys of which they can add pairs
module _ {K : Type 0} where
  pub brought-append : (us vs : List (Update K)) → brought (us ++ vs) ≡ brought us ++ brought vs
  brought-append [] vs = refl
  brought-append (Set k x ∷ us) vs = ap (λ (ks : List K). k ∷ ks) (brought-append us vs)
  brought-append (Put k x ∷ us) vs = ap (λ (ks : List K). k ∷ ks) (brought-append us vs)
  brought-append (Del k ∷ us) vs = brought-append us vs
  brought-append (Tidy ∷ us) vs = brought-append us vs

  length-brought-take : (p : ℕ) (us : List (Update K)) → length (brought (take p us)) ≤ length (brought us)
  length-brought-take zero us = omega arith
  length-brought-take (suc p) [] = omega arith
  length-brought-take (suc p) (Set k x ∷ us) = let h = length-brought-take p us in omega arith
  length-brought-take (suc p) (Put k x ∷ us) = let h = length-brought-take p us in omega arith
  length-brought-take (suc p) (Del k ∷ us) = length-brought-take p us
  length-brought-take (suc p) (Tidy ∷ us) = length-brought-take p us

  module _ (P : K → Type 0) where
    All-brought-take : (p : ℕ) (us : List (Update K)) → All P (brought us) → All P (brought (take p us))
    All-brought-take zero us each = All-nil P
    All-brought-take (suc p) [] each = All-nil P
    All-brought-take (suc p) (Set k x ∷ us) each = All-cons P k (brought (take p us)) (All-head P k (brought us) each) (All-brought-take p us (All-tail P k (brought us) each))
    All-brought-take (suc p) (Put k x ∷ us) each = All-cons P k (brought (take p us)) (All-head P k (brought us) each) (All-brought-take p us (All-tail P k (brought us) each))
    All-brought-take (suc p) (Del k ∷ us) each = All-brought-take p us each
    All-brought-take (suc p) (Tidy ∷ us) each = All-brought-take p us each

module _ {K : Type 0} (cmp : K → K → Ordering) where
  length-insert_entry : (m : Map K) (k : K) (x : ℕ) → length (insert_entry cmp m k x) ≤ length m + 1
  length-insert_entry [] k x = omega arith
  length-insert_entry (e ∷ m) k x =
      let h = length-insert_entry m k x in
      elim (cmp k e.0) as (λ r. length (match_ordering r ((k, x) ∷ e ∷ m) ((e.0, x) ∷ m) (e ∷ insert_entry cmp m k x)) ≤ length (e ∷ m) + 1) [
        | Less ↦ omega arith
        | Equal ↦ omega arith
        | Greater ↦ omega arith
      ]

  length-remove_entry : (test : K → Bool) (m : Map K) → length (remove_entry test m) ≤ length m
  length-remove_entry test [] = omega arith
  length-remove_entry test (e ∷ m) =
      let h = length-remove_entry test m in
      elim (test e.0) as (λ b. length (cond {A = Map K} b m (e ∷ remove_entry test m)) ≤ length (e ∷ m)) [
        | true ↦ omega arith
        | false ↦ omega arith
      ]

  module _ (most : ℕ) where
    length-add : (m : Map K) (k : K) (x : ℕ) → length (add cmp most m k x).0 ≤ length m + 1
    length-add m k x =
        elim (nat_lt (length m) most) as (λ b. let answer : Map K × Reply = cond b (insert_entry cmp m k x, Fresh) (m, Full) in length answer.0 ≤ length m + 1) [
          | true ↦ length-insert_entry m k x
          | false ↦ omega arith
        ]

    length-step : (m : Map K) (u : Update K) → length (step cmp most m u).0 ≤ length m + length (brought_by u)
    length-step m (Set k x) =
        elim (find cmp m k) as (λ r. let answer = option_map_or {U = Map K × Reply} (λ v. (insert_entry cmp m k x, Was v)) r (add cmp most m k x) in length answer.0 ≤ length m + 1) [
          | None ↦ length-add m k x
          | Some v ↦ length-insert_entry m k x
        ]
    length-step m (Put k x) =
        elim (find cmp m k) as (λ r. let answer = option_map_or {U = Map K × Reply} (λ v. (m, Has v)) r (add cmp most m k x) in length answer.0 ≤ length m + 1) [
          | None ↦ length-add m k x
          | Some v ↦ omega arith
        ]
    length-step m (Del k) =
        let h = length-remove_entry (is_at (cmp k)) m in
        elim (find cmp m k) as (λ r. let answer = option_map_or {U = Map K × Reply} (λ v. (remove_entry (is_at (cmp k)) m, Was v)) r (m, Missing) in length answer.0 ≤ length m + 0) [
          | None ↦ omega arith
          | Some v ↦ omega arith
        ]
    length-step m Tidy = omega arith

    length-after_from : (m : Map K) (us : List (Update K)) → length (after_from cmp most m us) ≤ length m + length (brought us)
    length-after_from m [] = omega arith
    length-after_from m (u ∷ us) =
        let one = length-step m u in
        let more = length-after_from (step cmp most m u).0 us in
        let both = length-append (brought_by u) (brought us) in
        omega arith

    pub after_from-snoc : (m : Map K) (us : List (Update K)) (u : Update K) → after_from cmp most m (us ++ u ∷ []) ≡ (step cmp most (after_from cmp most m us) u).0
    after_from-snoc m [] u = refl
    after_from-snoc m (v ∷ us) u = after_from-snoc (step cmp most m v).0 us u

    -- what holds of the keys of a map and of those that the updates bring holds of the keys afterwards
    module _ (P : K → Type 0) where
      All-keys-add : (m : Map K) (k : K) (x : ℕ) → P k → All P (keys_of m) → All P (keys_of (add cmp most m k x).0)
      All-keys-add m k x here each =
          elim (nat_lt (length m) most) as (λ b. let answer : Map K × Reply = cond b (insert_entry cmp m k x, Fresh) (m, Full) in All P (keys_of answer.0)) [
            | true ↦ All-keys-insert_entry cmp k x P m each here
            | false ↦ each
          ]

      All-keys-after_from : (m : Map K) (us : List (Update K)) → All P (keys_of m) → All P (brought us) → All P (keys_of (after_from cmp most m us))
      All-keys-after_from m [] each more = each
      All-keys-after_from m (Set k x ∷ us) each more =
          let here = All-head P k (brought us) more in
          let next = elim (find cmp m k) as (λ r. let answer = option_map_or {U = Map K × Reply} (λ v. (insert_entry cmp m k x, Was v)) r (add cmp most m k x) in All P (keys_of answer.0)) [
            | None ↦ All-keys-add m k x here each
            | Some v ↦ All-keys-insert_entry cmp k x P m each here
          ] in
          All-keys-after_from (step cmp most m (Set k x)).0 us next (All-tail P k (brought us) more)
      All-keys-after_from m (Put k x ∷ us) each more =
          let here = All-head P k (brought us) more in
          let next = elim (find cmp m k) as (λ r. let answer = option_map_or {U = Map K × Reply} (λ v. (m, Has v)) r (add cmp most m k x) in All P (keys_of answer.0)) [
            | None ↦ All-keys-add m k x here each
            | Some v ↦ each
          ] in
          All-keys-after_from (step cmp most m (Put k x)).0 us next (All-tail P k (brought us) more)
      All-keys-after_from m (Del k ∷ us) each more =
          let next = elim (find cmp m k) as (λ r. let answer = option_map_or {U = Map K × Reply} (λ v. (remove_entry (is_at (cmp k)) m, Was v)) r (m, Missing) in All P (keys_of answer.0)) [
            | None ↦ each
            | Some v ↦ All-map-remove_entry (is_at (cmp k)) (λ (e : K × ℕ). e.0) P m each
          ] in
          All-keys-after_from (step cmp most m (Del k)).0 us next more
      All-keys-after_from m (Tidy ∷ us) each more = All-keys-after_from m us each more

module _ {K : Type 0} {cmp : K → K → Ordering} (total : IsTotalOrder cmp) where
  -- a key that is there gets its value where it stands
  length-replaced : (k : K) (x v : ℕ) (m : Map K) → IsMap cmp m → find cmp m k ≡ Some v → length (insert_entry cmp m k x) ≡ length m
  length-replaced k x v [] ordered found = absurd (let z : None ≡ Some v = found in cc)
  length-replaced k x v (e ∷ m) ordered found = by (cmp k e.0) refl (λ later. length-replaced k x v m (sorted_tail cmp e.0 (keys_of m) ordered) later)
    where
      by : (c : Ordering) → cmp k e.0 ≡ c → (find cmp m k ≡ Some v → length (insert_entry cmp m k x) ≡ length m)
          → length (match_ordering c ((k, x) ∷ e ∷ m) ((e.0, x) ∷ m) (e ∷ insert_entry cmp m k x)) ≡ length (e ∷ m)
      by Less is same = absurd (let z : None ≡ Some v = sym (lookup-none {K = K} (is_at (cmp k)) (e ∷ m) (none_below_head total k e m ordered is)) ∙ found in cc)
      by Equal is same = refl
      by Greater is same = let r = same (sym (cond-false _ _ _ (ap is_eq is)) ∙ found) in omega arith

  module _ (most : ℕ) where
    few-added : (k : K) (x : ℕ) (m : Map K) → length m ≤ most → length (add cmp most m k x).0 ≤ most
    few-added k x m few = by (nat_lt (length m) most) refl
      where
        by : (b : Bool) → nat_lt (length m) most ≡ b → let answer : Map K × Reply = cond b (insert_entry cmp m k x, Fresh) (m, Full) in length answer.0 ≤ most
        by true is = let more = length-insert_entry cmp m k x in let lt : length m < most = grind (arith, nat_tests) in omega arith
        by false is = few

    few-step : (m : Map K) (u : Update K) → IsMap cmp m → length m ≤ most → length (step cmp most m u).0 ≤ most
    few-step m (Set k x) ordered few =
        (elim (find cmp m k) as (λ r. find cmp m k ≡ r → let answer = option_map_or {U = Map K × Reply} (λ v. (insert_entry cmp m k x, Was v)) r (add cmp most m k x) in length answer.0 ≤ most) [
          | None ↦ λ absent. few-added k x m few
          | Some v ↦ λ found. let same = length-replaced k x v m ordered found in omega arith
        ]) refl
    few-step m (Put k x) ordered few =
        elim (find cmp m k) as (λ r. let answer = option_map_or {U = Map K × Reply} (λ v. (m, Has v)) r (add cmp most m k x) in length answer.0 ≤ most) [
          | None ↦ few-added k x m few
          | Some v ↦ few
        ]
    few-step m (Del k) ordered few =
        let h = length-remove_entry cmp (is_at (cmp k)) m in
        elim (find cmp m k) as (λ r. let answer = option_map_or {U = Map K × Reply} (λ v. (remove_entry (is_at (cmp k)) m, Was v)) r (m, Missing) in length answer.0 ≤ most) [
          | None ↦ few
          | Some v ↦ omega arith
        ]
    few-step m Tidy ordered few = few

    pub few-after_from : (m : Map K) (us : List (Update K)) → IsMap cmp m → length m ≤ most → length (after_from cmp most m us) ≤ most
    few-after_from m [] ordered few = few
    few-after_from m (u ∷ us) ordered few = few-after_from (step cmp most m u).0 us (IsMap-step total most m u ordered) (few-step m u ordered few)

pub none_sorted : IsMap nat_cmp []
unfolding IsStrictlySortedBy
none_sorted = tt

-- How many pairs a map has after the first p updates: at most one for each key that they bring, at most as many as there are numbers from 1 to the
-- greatest of these keys, and no more than it may have
pub record IsBounded (most : ℕ) (us : List (Update ℕ)) (greatest pairs : ℕ) : Type 0 where
  pub by_keys : pairs ≤ length (brought us)
  pub by_greatest : pairs ≤ greatest
  pub by_most : pairs ≤ most

pub bounded_after : (most greatest : ℕ) (us : List (Update ℕ)) → All (λ k. (1 ≤ k) × (k ≤ greatest)) (brought us) → (p : ℕ) → IsBounded most us greatest (length (after nat_cmp most us p))
bounded_after most greatest us each p =
    let m = after nat_cmp most us p in
    let lines = length-after_from nat_cmp most [] (take p us) in
    let fewer = length-brought-take p us in
    let sorted = IsMap-after_from nat_cmp_total most [] (take p us) none_sorted in
    let within = All-keys-after_from nat_cmp most (λ k. (1 ≤ k) × (k ≤ greatest)) [] (take p us) (All-nil (λ k. (1 ≤ k) × (k ≤ greatest))) (All-brought-take (λ k. (1 ≤ k) × (k ≤ greatest)) p us each) in
    let ascending = length_ascending 1 greatest (keys_of m) sorted within in
    let same = length-keys_of m in
    record {
      by_keys = omega arith;
      by_greatest = omega arith;
      by_most = few-after_from nat_cmp_total most [] (take p us) none_sorted (omega arith);
    }

-- the keys are so many, and the greatest of them is this; 0 where there are none
pub record IsCounted (keys : List ℕ) (pairs greatest : ℕ) : Type 0 where
  pub so_many : pairs ≡ length keys
  pub between : All (λ key. (1 ≤ key) × (key ≤ greatest)) keys
  pub least : (n : ℕ) → All (λ key. key ≤ n) keys → greatest ≤ n

pub none_counted : IsCounted [] 0 0
none_counted = record { so_many = refl; between = All-nil (λ key. (1 ≤ key) × (key ≤ 0)); least = λ n each. omega arith }

pub one_more_counted : (keys : List ℕ) (pairs greatest key : ℕ) → 1 ≤ key → IsCounted keys pairs greatest → IsCounted (keys ++ key ∷ []) (pairs + 1) (max greatest key)
one_more_counted keys pairs greatest key some counted = record {
  so_many = let more = length-append keys (key ∷ []) in let same = counted.so_many in omega arith;
  between = All-push (λ k. (1 ≤ k) × (k ≤ max greatest key)) keys key
      (All-weaker (λ k. (1 ≤ k) × (k ≤ greatest)) (λ k. (1 ≤ k) × (k ≤ max greatest key)) (λ k h. let to = h.1 in (h.0, omega arith)) keys counted.between)
      (some, omega arith);
  least = λ n each.
      let first = counted.least n (all_left (λ k. k ≤ n) keys (key ∷ []) each) in
      let last = last_of (λ k. k ≤ n) keys key each in
      omega arith;
}
