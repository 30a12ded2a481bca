-- The keys of a map that is never full, kept in a set beside it, and the most pairs that it came to.
use Rattle.std.proofs.Common.{◌≡◌, ◌≢◌, ℕ, zero, suc, ◌+◌, ◌<◌, ◌≤◌, nat_lt, Bool, true, false, cond, ◌⊎◌, inl, inr, ⊎_elim, List, [], ◌∷◌, ◌++◌, length, max, Some, None, refl, sym, ap, ◌∙◌, subst, arith}
use Rattle.std.specs.Prelude.{nat_eq, is_some, Option}
use Rattle.std.specs.List.{IsDistinct, list_any}
use Rattle.std.specs.Map.{keys_of, remove_entry}
use Rattle.std.specs.BTreeMap.{is_at, insert_entry}
use Rattle.ck_history.specs.declared.update.Reply.{Reply}
use Rattle.ck_history.specs.declared.update.Reply.TheVariants.{Fresh, Full}
use Rattle.std.proofs.lemmas.Map.Made.{length-from_same_keys, is_some-lookup}
use Rattle.std.proofs.lemmas.Map.Keys.{IsDistinct-from_sorted}
use Rattle.std.proofs.lemmas.Map.Entries.{length-keys_of}
use Rattle.std.specs.Ordering.{nat_cmp, is_eq, eq_by_cmp}
use Rattle.std.specs.Cmp.{nat_eq_equiv}
use Rattle.std.proofs.lemmas.Cmp.{nat_cmp_total}
use Rattle.std.proofs.lemmas.Bool.{cases_eq, cases_lt, ne_eqb}
use Rattle.std.proofs.lemmas.Bool.Decides.{nat_tests}
use Rattle.std.proofs.lemmas.List.{length-append, take-append-le, take_all}
use Rattle.ck_history.specs.declared.update.Update.{Update}
use Rattle.ck_history.specs.declared.update.Update.TheVariants.{Set, Put, Del}
use Rattle.ck_history.specs.Map.{Map, IsMap, find, add, step, after_from}
use Rattle.ck_history.proofs.Order.{IsMap-after_from}
use Rattle.ck_history.proofs.Step.{step-Set_found, step-Put_found, step-Del_found, step-Set_absent, step-Put_absent, step-Del_absent}
use Rattle.ck_slots.proofs.Lives.{nat_exact}
use Rattle.ck_slots.proofs.Maps.{find-insert_entry, find-insert_entry_other, find-remove_entry, find-remove_entry_other}
use Rattle.ck_htlaw.specs.Actions.{most}
use Rattle.ck_jobs.specs.Room.{pairs_after, AreKeysOf}
use Rattle.ck_jobs.proofs.Bringing.{after_from-snoc, few-after_from, none_sorted}

-- the set has the key or not, as the map does afterwards, and each other key as before
module _ (keys keys' : List ℕ) (m m' : Map ℕ) (k : ℕ) (b : Bool) (are : AreKeysOf keys m) (now : list_any (nat_eq k) keys' ≡ b) (rest : (q : ℕ) → nat_eq k q ≡ false → list_any (nat_eq q) keys' ≡ list_any (nat_eq q) keys) where
  changed : is_some (find nat_cmp m' k) ≡ b → ((q : ℕ) → q ≢ k → find nat_cmp m' q ≡ find nat_cmp m q) → AreKeysOf keys' m'
  changed here others q = ⊎_elim
      (λ (same : q ≡ k). subst (λ (n : ℕ). list_any (nat_eq n) keys' ≡ is_some (find nat_cmp m' n)) (sym same) (now ∙ sym here))
      (λ (apart : q ≢ k). rest q (ne_eqb k q (λ (same : k ≡ q). apart (sym same))) ∙ (are q ∙ ap is_some (sym (others q apart))))
      (cases_eq q k)

module _ (m : Map ℕ) (k x : ℕ) where
  inserts : (keys keys' : List ℕ) (m' : Map ℕ) → m' ≡ insert_entry nat_cmp m k x → AreKeysOf keys m → list_any (nat_eq k) keys' ≡ true → ((q : ℕ) → nat_eq k q ≡ false → list_any (nat_eq q) keys' ≡ list_any (nat_eq q) keys) → AreKeysOf keys' m'
  inserts keys keys' m' is are now rest = changed keys keys' m m' k true are now rest
      (ap (λ (n : Map ℕ). is_some (find nat_cmp n k)) is ∙ ap is_some (find-insert_entry nat_cmp nat_cmp_total nat_exact k x m))
      (λ q apart. ap (λ (n : Map ℕ). find nat_cmp n q) is ∙ find-insert_entry_other nat_cmp nat_cmp_total nat_exact k x q apart m)

  added : length m < most → (add nat_cmp most m k x).0 ≡ insert_entry nat_cmp m k x
  added room =
      let lt : nat_lt (length m) most ≡ true = grind (arith, nat_tests) in
      ap (λ (b : Bool). (cond {A = Map ℕ × Reply} b (insert_entry nat_cmp m k x, Fresh) (m, Full)).0) lt

-- An update of a map that isn't full, and of the set beside it
module _ (keys keys' : List ℕ) (m : Map ℕ) (k : ℕ) (are : AreKeysOf keys m) (rest : (q : ℕ) → nat_eq k q ≡ false → list_any (nat_eq q) keys' ≡ list_any (nat_eq q) keys) where
  pub keys_after_set : (x : ℕ) → length m < most → list_any (nat_eq k) keys' ≡ true → AreKeysOf keys' (step nat_cmp most m (Set k x)).0
  keys_after_set x room now = by (find nat_cmp m k) refl
    where
      by : (r : Option ℕ) → find nat_cmp m k ≡ r → AreKeysOf keys' (step nat_cmp most m (Set k x)).0
      by (Some v) found = inserts m k x keys keys' (step nat_cmp most m (Set k x)).0 (ap (λ (z : Map ℕ × Reply). z.0) (step-Set_found nat_cmp most m k v found x)) are now rest
      by None absent = inserts m k x keys keys' (step nat_cmp most m (Set k x)).0 (ap (λ (z : Map ℕ × Reply). z.0) (step-Set_absent nat_cmp most m k absent x) ∙ added m k x room) are now rest

  pub keys_after_put : (x : ℕ) → length m < most → list_any (nat_eq k) keys' ≡ true → AreKeysOf keys' (step nat_cmp most m (Put k x)).0
  keys_after_put x room now = by (find nat_cmp m k) refl
    where
      by : (r : Option ℕ) → find nat_cmp m k ≡ r → AreKeysOf keys' (step nat_cmp most m (Put k x)).0
      by (Some v) found =
          let same : (step nat_cmp most m (Put k x)).0 ≡ m = ap (λ (z : Map ℕ × Reply). z.0) (step-Put_found nat_cmp most m k v found x) in
          changed keys keys' m (step nat_cmp most m (Put k x)).0 k true are now rest (ap (λ (n : Map ℕ). is_some (find nat_cmp n k)) same ∙ ap is_some found) (λ q apart. ap (λ (n : Map ℕ). find nat_cmp n q) same)
      by None absent = inserts m k x keys keys' (step nat_cmp most m (Put k x)).0 (ap (λ (z : Map ℕ × Reply). z.0) (step-Put_absent nat_cmp most m k absent x) ∙ added m k x room) are now rest

  pub keys_after_del : IsMap nat_cmp m → list_any (nat_eq k) keys' ≡ false → AreKeysOf keys' (step nat_cmp most m (Del k)).0
  keys_after_del sorted now = by (find nat_cmp m k) refl
    where
      by : (r : Option ℕ) → find nat_cmp m k ≡ r → AreKeysOf keys' (step nat_cmp most m (Del k)).0
      by (Some v) found =
          let less : (step nat_cmp most m (Del k)).0 ≡ remove_entry (is_at (nat_cmp k)) m = ap (λ (z : Map ℕ × Reply). z.0) (step-Del_found nat_cmp most m k v found) in
          changed keys keys' m (step nat_cmp most m (Del k)).0 k false are now rest
          (ap (λ (n : Map ℕ). is_some (find nat_cmp n k)) less ∙ ap is_some (find-remove_entry nat_cmp nat_cmp_total nat_exact k m sorted))
          (λ q apart. ap (λ (n : Map ℕ). find nat_cmp n q) less ∙ find-remove_entry_other nat_cmp nat_cmp_total nat_exact k q apart m)
      by None absent =
          let same : (step nat_cmp most m (Del k)).0 ≡ m = ap (λ (z : Map ℕ × Reply). z.0) (step-Del_absent nat_cmp most m k absent) in
          changed keys keys' m (step nat_cmp most m (Del k)).0 k false are now rest (ap (λ (n : Map ℕ). is_some (find nat_cmp n k)) same ∙ ap is_some absent) (λ q apart. ap (λ (n : Map ℕ). find nat_cmp n q) same)

same_test : nat_eq ≡ eq_by_cmp nat_cmp
same_test = λ i a b. pointwise a b i
  where
    pointwise : (a b : ℕ) → nat_eq a b ≡ is_eq (nat_cmp a b)
    pointwise a b = grind (arith, nat_tests)

-- the set has as many keys as the map has pairs
pub as_many : (keys : List ℕ) (m : Map ℕ) → IsDistinct nat_eq keys → IsMap nat_cmp m → AreKeysOf keys m → length keys ≡ length m
as_many keys m distinct sorted are = length-from_same_keys nat_eq_equiv keys (keys_of m) distinct
    (subst (λ (t : ℕ → ℕ → Bool). IsDistinct t (keys_of m)) (sym same_test) (IsDistinct-from_sorted nat_cmp (keys_of m) sorted))
    (λ q. are q ∙ (is_some-lookup (is_at (nat_cmp q)) m ∙ ap (λ (t : ℕ → ℕ → Bool). list_any (t q) (keys_of m)) (sym same_test)))
    ∙ length-keys_of m

-- the map after these updates
abbrev pub map_of : List (Update ℕ) → Map ℕ
map_of us = after_from nat_cmp most [] us

-- What is known after some updates: no map so far had more pairs than `pairs`, which one of them had, and as long as none was full the keys are
-- those of the map
pub record IsCounting (us : List (Update ℕ)) (keys : List ℕ) (pairs : ℕ) : Type 0 where
  pub are_keys : pairs < most → AreKeysOf keys (map_of us)
  pub enough : (p : ℕ) → pairs_after us p ≤ pairs
  pub reached : (p : ℕ) × (pairs_after us p ≡ pairs)

pub none_counting : IsCounting [] [] 0
none_counting = record { are_keys = λ some q. refl; enough = λ p. none p; reached = (0, refl) }
  where
    none : (p : ℕ) → pairs_after [] p ≤ 0
    none zero = omega arith
    none (suc p) = omega arith

-- the map after the first updates, where there is one more, and after all
pairs_before : (us : List (Update ℕ)) (u : Update ℕ) (p : ℕ) → p ≤ length us → pairs_after (us ++ u ∷ []) p ≡ pairs_after us p
pairs_before us u p le = ap (λ (vs : List (Update ℕ)). length (map_of vs)) (take-append-le p us (u ∷ []) le)

pairs_at_end : (us : List (Update ℕ)) (p : ℕ) → length us ≤ p → pairs_after us p ≡ length (map_of us)
pairs_at_end us p le = ap (λ (vs : List (Update ℕ)). length (map_of vs)) (take_all p us le)

module _ (us : List (Update ℕ)) (u : Update ℕ) (keys keys' : List ℕ) (pairs pairs' : ℕ) (h : IsCounting us keys pairs) (are : pairs' < most → AreKeysOf keys' (step nat_cmp most (map_of us) u).0) where
  next : map_of (us ++ u ∷ []) ≡ (step nat_cmp most (map_of us) u).0
  next = after_from-snoc nat_cmp most [] us u

  at_most : length (step nat_cmp most (map_of us) u).0 ≤ pairs' → pairs ≤ pairs' → (p : ℕ) → pairs_after (us ++ u ∷ []) p ≤ pairs'
  at_most last before p = by (cases_lt (length us) p)
    where
      by : (length us < p) ⊎ (p ≤ length us) → pairs_after (us ++ u ∷ []) p ≤ pairs'
      by (inl past) =
          let longer = length-append us (u ∷ []) in
          let all = pairs_at_end (us ++ u ∷ []) p (omega arith) in
          let same : length (map_of (us ++ u ∷ [])) ≡ length (step nat_cmp most (map_of us) u).0 = ap (λ (m : Map ℕ). length m) next in
          omega arith
      by (inr le) = let same = pairs_before us u p le in let few = h.enough p in omega arith

  -- one of both maps has the most
  counting_next : pairs' ≡ max pairs (length (step nat_cmp most (map_of us) u).0) → IsCounting (us ++ u ∷ []) keys' pairs'
  counting_next last = record {
    are_keys = λ some q. are some q ∙ ap (λ (m : Map ℕ). is_some (find nat_cmp m q)) (sym next);
    enough = at_most (omega arith) (omega arith);
    reached = by (cases_lt pairs (length (step nat_cmp most (map_of us) u).0));
  }
    where
      by : (pairs < length (step nat_cmp most (map_of us) u).0) ⊎ (length (step nat_cmp most (map_of us) u).0 ≤ pairs) → (p : ℕ) × (pairs_after (us ++ u ∷ []) p ≡ pairs')
      by (inl more) = let longer = length-append us (u ∷ []) in (length us + 1, pairs_at_end (us ++ u ∷ []) (length us + 1) (omega arith) ∙ (ap (λ (m : Map ℕ). length m) next ∙ omega arith))
      by (inr same) = before h.reached.0 h.reached.1 (cases_lt (length us) h.reached.0)
        where
          before : (p : ℕ) → pairs_after us p ≡ pairs → (length us < p) ⊎ (p ≤ length us) → (p : ℕ) × (pairs_after (us ++ u ∷ []) p ≡ pairs')
          before p is (inl past) = (length us, pairs_before us u (length us) (omega arith) ∙ (pairs_at_end us (length us) (omega arith) ∙ (sym (pairs_at_end us p (omega arith)) ∙ (is ∙ omega arith))))
          before p is (inr le) = (p, pairs_before us u p le ∙ (is ∙ omega arith))

sorted_map : (us : List (Update ℕ)) → IsMap nat_cmp (map_of us)
sorted_map us = IsMap-after_from nat_cmp_total most [] us none_sorted

few_pairs : (us : List (Update ℕ)) → length (map_of us) ≤ most
few_pairs us = few-after_from nat_cmp_total most [] us none_sorted (omega arith)

module _ (us : List (Update ℕ)) (u : Update ℕ) (keys : List ℕ) (pairs : ℕ) (h : IsCounting us keys pairs) where
  few_next : length (step nat_cmp most (map_of us) u).0 ≤ most
  few_next = subst (λ (m : Map ℕ). length m ≤ most) (after_from-snoc nat_cmp most [] us u) (few_pairs (us ++ u ∷ []))

  -- one update more, where no map was full so far
  pub counting_on : (keys' : List ℕ) → pairs < most → ((m : Map ℕ) → IsMap nat_cmp m → length m < most → AreKeysOf keys m → AreKeysOf keys' (step nat_cmp most m u).0) → IsDistinct nat_eq keys'
      → IsCounting (us ++ u ∷ []) keys' (max pairs (length keys')) × (max pairs (length keys') ≤ most)
  counting_on keys' some kept distinct =
      let now = pairs_at_end us (length us) (omega arith) in
      let few = h.enough (length us) in
      let are = kept (map_of us) (sorted_map us) (omega arith) (h.are_keys some) in
      let long = as_many keys' (step nat_cmp most (map_of us) u).0 distinct (subst (λ (m : Map ℕ). IsMap nat_cmp m) (after_from-snoc nat_cmp most [] us u) (sorted_map (us ++ u ∷ []))) are in
      let last = few_next in
      (counting_next us u keys keys' pairs (max pairs (length keys')) h (λ less. are) (ap (max pairs) long), omega arith)

  -- .. and where one was
  pub counting_past : most ≤ pairs → IsCounting (us ++ u ∷ []) keys pairs
  counting_past full = let last = few_next in counting_next us u keys keys pairs pairs h (λ less. absurd (omega arith)) (omega arith)
