-- The changes that updates make are entries of what each key has.
use Rattle.std.proofs.Common.{◌≡◌, ℕ, zero, suc, ◌+◌, ◌<◌, ◌≤◌, ◌⊎◌, inl, inr, true, false, cond, List, [], ◌∷◌, ◌++◌, length, take, get_or, refl, ap, sym, ◌∙◌, subst, arith, true≢false, Option, Some, None}
use Rattle.std.specs.declared.cmp.Ordering.{Ordering}
use Rattle.std.specs.declared.cmp.Ordering.TheVariants.{Less, Equal, Greater}
use Rattle.std.specs.Ordering.{match_ordering, is_eq}
use Rattle.std.specs.Option.{option_map_or}
use Rattle.std.specs.Prelude.{nat_lt}
use Rattle.std.specs.Cmp.{IsTotalOrder}
use Rattle.std.proofs.lemmas.Cmp.{alike_right}
use Rattle.std.specs.List.{AllByRecursion}
use Rattle.std.specs.Map.{remove_entry}
use Rattle.std.specs.BTreeMap.{is_at, insert_entry}
use Rattle.ck_history.specs.declared.update.Update.{Update}
use Rattle.ck_history.specs.declared.update.Update.TheVariants.{Set, Put, Del, Tidy}
use Rattle.ck_history.specs.declared.update.Reply.{Reply}
use Rattle.ck_history.specs.declared.update.Reply.TheVariants.{Fresh, Was, Has, Missing, Full}
use Rattle.ck_history.specs.Map.{Map, find, add, step, after_from, answer_after}
use Rattle.ck_judge.specs.declared.changes.Change.{Change}
use Rattle.ck_judge.specs.Changes.{IsRightEntry, HasEntry, AreEntries, change_by, touched_by, changes_from}

not_equal : (r : Ordering) → (r ≡ Equal → ⊥) → is_eq r ≡ false
not_equal Less h = refl
not_equal Equal h = absurd (h refl)
not_equal Greater h = refl

-- whether it is `Equal`
equal_or_not : (r : Ordering) → (r ≡ Equal) ⊎ (r ≡ Equal → ⊥)
equal_or_not Less = inr (λ e. absurd (true≢false (sym (ap is_eq e))))
equal_or_not Equal = inl refl
equal_or_not Greater = inr (λ e. absurd (true≢false (sym (ap is_eq e))))

module _ {K : Type 0} {cmp : K → K → Ordering} (total : IsTotalOrder cmp) where
  -- equal keys find the same
  pub find_alike : (m : Map K) (j k : K) → cmp j k ≡ Equal → find cmp m j ≡ find cmp m k
  find_alike [] j k e = refl
  find_alike (p ∷ m) j k e =
      ap (λ r. cond (is_eq r) (Some p.1) (find cmp m j)) (total.congr j k p.0 e) ∙ ap (λ v. cond (is_at (cmp k) p.0) (Some p.1) v) (find_alike m j k e)

  -- a key apart from k
  module _ (k j : K) (apart : cmp k j ≡ Equal → ⊥) where
    skip : (p : K × ℕ) (more : Option ℕ) → cmp j p.0 ≡ Equal → cond (is_at (cmp k) p.0) (Some p.1) more ≡ more
    skip p more e = ap (λ b. cond b (Some p.1) more) (not_equal (cmp k p.0) (λ same. apart (alike_right total j p.0 k e ∙ same)))

    find_inserted : (m : Map K) (v : ℕ) → find cmp (insert_entry cmp m j v) k ≡ find cmp m k
    find_inserted [] v = ap (λ b. cond b (Some v) None) (not_equal (cmp k j) apart)
    find_inserted (p ∷ m) v =
        (elim (cmp j p.0) as (λ r. cmp j p.0 ≡ r → find cmp (match_ordering r ((j, v) ∷ p ∷ m) ((p.0, v) ∷ m) (p ∷ insert_entry cmp m j v)) k ≡ find cmp (p ∷ m) k) [
          | Less ↦ λ less. ap (λ b. cond b (Some v) (find cmp (p ∷ m) k)) (not_equal (cmp k j) apart)
          | Equal ↦ λ equal. skip (p.0, v) (find cmp m k) equal ∙ sym (skip p (find cmp m k) equal)
          | Greater ↦ λ greater. ap (λ o. cond (is_at (cmp k) p.0) (Some p.1) o) (find_inserted m v)
        ]) refl

    is_equal : (r : Ordering) → is_eq r ≡ true → r ≡ Equal
    is_equal Less e = absurd (true≢false (sym e))
    is_equal Equal e = refl
    is_equal Greater e = absurd (true≢false (sym e))

    find_removed : (m : Map K) → find cmp (remove_entry (is_at (cmp j)) m) k ≡ find cmp m k
    find_removed [] = refl
    find_removed (p ∷ m) =
        (elim (is_at (cmp j) p.0) as (λ b. is_at (cmp j) p.0 ≡ b → find cmp (cond b m (p ∷ remove_entry (is_at (cmp j)) m)) k ≡ find cmp (p ∷ m) k) [
          | true ↦ λ e. sym (skip p (find cmp m k) (is_equal (cmp j p.0) e))
          | false ↦ λ e. ap (λ o. cond (is_at (cmp k) p.0) (Some p.1) o) (find_removed m)
        ]) refl

    module _ (most : ℕ) (m : Map K) where
      find_added : (v : ℕ) → find cmp (add cmp most m j v).0 k ≡ find cmp m k
      find_added v =
          elim (nat_lt (length m) most) as (λ b. let answer : Map K × Reply = cond b (insert_entry cmp m j v, Fresh) (m, Full) in find cmp answer.0 k ≡ find cmp m k) [
            | true ↦ find_inserted m v
            | false ↦ refl
          ]

      pub find_set : (v : ℕ) → find cmp (step cmp most m (Set j v)).0 k ≡ find cmp m k
      find_set v =
          elim (find cmp m j) as (λ r. let answer = option_map_or {U = Map K × Reply} (λ w. (insert_entry cmp m j v, Was w)) r (add cmp most m j v) in find cmp answer.0 k ≡ find cmp m k) [
            | None ↦ find_added v
            | Some w ↦ find_inserted m v
          ]

      pub find_put : (v : ℕ) → find cmp (step cmp most m (Put j v)).0 k ≡ find cmp m k
      find_put v =
          elim (find cmp m j) as (λ r. let answer = option_map_or {U = Map K × Reply} (λ w. (m, Has w)) r (add cmp most m j v) in find cmp answer.0 k ≡ find cmp m k) [
            | None ↦ find_added v
            | Some w ↦ refl
          ]

      pub find_del : find cmp (step cmp most m (Del j)).0 k ≡ find cmp m k
      find_del =
          elim (find cmp m j) as (λ r. let answer = option_map_or {U = Map K × Reply} (λ w. (remove_entry (is_at (cmp j)) m, Was w)) r (m, Missing) in find cmp answer.0 k ≡ find cmp m k) [
            | None ↦ refl
            | Some w ↦ find_removed m
          ]

  module _ (most : ℕ) where
    -- what the key has after p of the updates to m
    abbrev has_after : Map K → List (Update K) → ℕ → K → Option ℕ
    has_after m us p k = find cmp (after_from cmp most m (take p us)) k

    -- there is a change of this key at this place
    abbrev HasChange : List (Change K) → ℕ → K → Type 0
    HasChange cs p k = HasEntry cmp (λ c. c.key) (λ c. c.place) cs p k

    -- an entry among more
    later : (front cs : List (Change K)) (p : ℕ) (k : K) → HasChange cs p k → HasChange (front ++ cs) p k
    later [] cs p k has = has
    later (c ∷ front) cs p k has =
        let one = later front cs p k has in
        record { entry = one.entry; there = (suc one.there.0, omega (arith, one.there.1), one.there.2); key = one.key; place = one.place }

    -- one update of key j changes that key's value alone
    one_change : (m : Map K) (b : ℕ) (u : Update K) (j : K) (cs : List (Change K)) (k : K) → ((cmp k j ≡ Equal → ⊥) → find cmp (step cmp most m u).0 k ≡ find cmp m k) → (find cmp (step cmp most m u).0 k ≡ find cmp m k) ⊎ HasChange (change_by cmp most m b u j ∷ cs) (b + 1) k
    one_change m b u j cs k others = elim (equal_or_not (cmp k j)) [
      | inl equal ↦ inr (record { entry = change_by cmp most m b u j; there = (zero, omega arith, refl); key = equal; place = refl })
      | inr apart ↦ inl (others apart)
    ]

    by_update : (m : Map K) (b : ℕ) (u : Update K) (cs : List (Change K)) (k : K) → (find cmp (step cmp most m u).0 k ≡ find cmp m k) ⊎ HasChange (touched_by cmp most m b u ++ cs) (b + 1) k
    by_update m b (Set j v) cs k = one_change m b (Set j v) j cs k (λ apart. find_set k j apart most m v)
    by_update m b (Put j v) cs k = one_change m b (Put j v) j cs k (λ apart. find_put k j apart most m v)
    by_update m b (Del j) cs k = one_change m b (Del j) j cs k (λ apart. find_del k j apart most m)
    by_update m b Tidy cs k = inl refl

    taken_one : (m : Map K) (u : Update K) (us : List (Update K)) (k : K) → has_after m (u ∷ us) 1 k ≡ find cmp (step cmp most m u).0 k
    taken_one m u [] k = refl
    taken_one m u (v ∷ us) k = refl

    taken_none : (m : Map K) (us : List (Update K)) (k : K) → has_after m us 0 k ≡ find cmp m k
    taken_none m [] k = refl
    taken_none m (v ∷ us) k = refl

    -- wherever a value changes there is a change
    each_change : (m : Map K) (b : ℕ) (us : List (Update K)) (p : ℕ) (k : K) → p < length us → (has_after m us (p + 1) k ≡ has_after m us p k) ⊎ HasChange (changes_from cmp most m b us) (b + (p + 1)) k
    each_change m b [] p k lt = absurd (omega arith)
    each_change m b (u ∷ us) zero k lt =
        elim (by_update m b u (changes_from cmp most (step cmp most m u).0 (b + 1) us) k) [
          | inl same ↦ inl (taken_one m u us k ∙ (same ∙ sym (taken_none m (u ∷ us) k)))
          | inr has ↦ inr has
        ]
    each_change m b (u ∷ us) (suc p) k lt =
        let next : suc p + 1 ≡ suc (p + 1) = omega arith in
        let far : b + 1 + (p + 1) ≡ b + (suc p + 1) = omega arith in
        elim (each_change (step cmp most m u).0 (b + 1) us p k (omega arith)) [
          | inl same ↦ inl (ap (λ n. has_after m (u ∷ us) n k) next ∙ same)
          | inr has ↦ inr (later (touched_by cmp most m b u) _ _ k (subst (λ n. HasChange (changes_from cmp most (step cmp most m u).0 (b + 1) us) n k) far has))
        ]

    -- a change tells what its key has at its place, of which b stand before all
    record IsTold (m : Map K) (b : ℕ) (us : List (Update K)) (c : Change K) : Type 0 where
      at : ℕ
      place : c.place ≡ b + at
      within : at ≤ length us
      told : c.value ≡ has_after m us at c.key

    told_first : (m : Map K) (b : ℕ) (u : Update K) (us : List (Update K)) (k : K) → IsTold m b (u ∷ us) (change_by cmp most m b u k)
    told_first m b u us k = record { at = 1; place = refl; within = omega arith; told = sym (taken_one m u us k) }

    told_later : (m : Map K) (b : ℕ) (u : Update K) (us : List (Update K)) (cs : List (Change K)) → AllByRecursion (IsTold (step cmp most m u).0 (b + 1) us) cs → AllByRecursion (IsTold m b (u ∷ us)) cs
    told_later m b u us [] h = tt
    told_later m b u us (c ∷ cs) h = (
      record { at = suc h.0.at; place = omega (arith, h.0.place); within = omega (arith, h.0.within); told = h.0.told },
      told_later m b u us cs h.1,
    )

    all_told : (m : Map K) (b : ℕ) (us : List (Update K)) → AllByRecursion (IsTold m b us) (changes_from cmp most m b us)
    all_told m b [] = tt
    all_told m b (Set k v ∷ us) = (told_first m b (Set k v) us k, told_later m b (Set k v) us _ (all_told (step cmp most m (Set k v)).0 (b + 1) us))
    all_told m b (Put k v ∷ us) = (told_first m b (Put k v) us k, told_later m b (Put k v) us _ (all_told (step cmp most m (Put k v)).0 (b + 1) us))
    all_told m b (Del k ∷ us) = (told_first m b (Del k) us k, told_later m b (Del k) us _ (all_told (step cmp most m (Del k)).0 (b + 1) us))
    all_told m b (Tidy ∷ us) = told_later m b Tidy us _ (all_told (step cmp most m Tidy).0 (b + 1) us)

    told_at : (us : List (Update K)) (cs : List (Change K)) → AllByRecursion (IsTold [] 0 us) cs → (i : ℕ) (d : Change K) → i < length cs → IsRightEntry cmp (λ c. c.key) (λ c. c.place) (λ c. c.value) (length us) (answer_after cmp most us) (get_or cs i d)
    told_at us [] h i d lt = absurd (omega arith)
    told_at us (c ∷ cs) h zero d lt =
        let here : c.place ≡ h.0.at = omega (arith, h.0.place) in
        record { within = omega (arith, here, h.0.within); told = h.0.told ∙ ap (λ p. has_after [] us p c.key) (sym here) }
    told_at us (c ∷ cs) h (suc i) d lt = told_at us cs h.1 i d (omega arith)

    -- the changes that the updates make to the empty map
    pub changes_are : (us : List (Update K)) → AreEntries cmp (λ c. c.key) (λ c. c.place) (λ c. c.value) (length us) (answer_after cmp most us) (changes_from cmp most [] 0 us)
    changes_are us = record {
      told = told_at us (changes_from cmp most [] 0 us) (all_told [] 0 us);
      each = λ p k lt. let zero_more : 0 + (p + 1) ≡ p + 1 = omega arith in elim (each_change [] 0 us p k lt) [
        | inl same ↦ inl same
        | inr has ↦ inr (subst (λ n. HasChange (changes_from cmp most [] 0 us) n k) zero_more has)
      ];
      start = λ k. taken_none [] us k;
      alike = λ p j k e. find_alike (after_from cmp most [] (take p us)) j k e;
    }
