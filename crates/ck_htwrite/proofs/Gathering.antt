-- The pairs of the full slots, gathered in a map.
use Rattle.std.proofs.Common.{◌≡◌, ◌≢◌, ℕ, ◌+◌, ◌<◌, Bool, true, false, cond, [], ◌∷◌, refl, sym, ap, ◌∙◌, subst, arith}
use Rattle.std.specs.Prelude.{Option, Some, None}
use Rattle.std.specs.declared.cmp.Ordering.{Ordering}
use Rattle.std.specs.declared.cmp.Ordering.TheVariants.{Less, Equal, Greater}
use Rattle.std.specs.Ordering.{nat_cmp, is_eq, ordering_reverse}
use Rattle.std.specs.Cmp.{tied_itself}
use Rattle.std.specs.BTreeMap.{insert_entry}
use Rattle.std.specs.List.{AllByRecursion}
use Rattle.std.specs.List.Sorted.{IsStrictlySortedBy}
use Rattle.std.specs.Map.{keys_of}
use Rattle.std.proofs.lemmas.Cmp.{nat_cmp_total}
use mathlib.Core.Logic.{dite}
use native.Mathlib.Decide.{ℕ_discrete}
use Rattle.ck_history.specs.Map.{Map, IsMap, find}
use Rattle.ck_history.proofs.Order.{IsMap-insert_entry}
use Rattle.ck_slots.specs.Slots.{SlotsView}
use Rattle.ck_slots.proofs.Lives.{nat_exact}
use Rattle.ck_slots.proofs.Maps.{find-insert_entry, find-insert_entry_other}
use Rattle.ck_htwrite.specs.Entries.{AreGathered, HoldsMap, key_in}

pub none_gathered : (v : SlotsView) (m : Map ℕ) → AreGathered v m 0 []
unfolding IsStrictlySortedBy
none_gathered v m = record { sorted = tt; of_map = λ k x e. absurd (let z : None ≡ Some x = e in cc); all = λ s low full. absurd (omega arith) }

module _ (v : SlotsView) (m : Map ℕ) (n : ℕ) (h : HoldsMap v n m) (i : ℕ) (low : i < n) (some : Map ℕ) (g : AreGathered v m i some) where
  -- the pair of one more slot
  pub gathers_full : v.state i ≡ 1 → (more : Map ℕ) → more ≡ insert_entry nat_cmp some (key_in v i) (v.value i) → AreGathered v m (i + 1) more
  gathers_full is more e = subst (AreGathered v m (i + 1)) (sym e) record {
    sorted = IsMap-insert_entry nat_cmp_total (key_in v i) (v.value i) some g.sorted;
    of_map = λ k x found. dite (ℕ_discrete k (key_in v i))
        (λ (same : k ≡ key_in v i). ap (find nat_cmp m) same ∙ (h.full i low is ∙ (sym (find-insert_entry nat_cmp nat_cmp_total nat_exact (key_in v i) (v.value i) some) ∙ (ap (find nat_cmp (insert_entry nat_cmp some (key_in v i) (v.value i))) (sym same) ∙ found))))
        (λ (other : k ≢ key_in v i). g.of_map k x (sym (find-insert_entry_other nat_cmp nat_cmp_total nat_exact (key_in v i) (v.value i) k other some) ∙ found));
    all = λ s below full. dite (ℕ_discrete (key_in v s) (key_in v i))
        (λ (same : key_in v s ≡ key_in v i). ap (find nat_cmp (insert_entry nat_cmp some (key_in v i) (v.value i))) same ∙ (find-insert_entry nat_cmp nat_cmp_total nat_exact (key_in v i) (v.value i) some ∙ (sym (h.full i low is) ∙ (ap (find nat_cmp m) (sym same) ∙ h.full s (omega arith) full))))
        (λ (other : key_in v s ≢ key_in v i). find-insert_entry_other nat_cmp nat_cmp_total nat_exact (key_in v i) (v.value i) (key_in v s) other some ∙ g.all s (earlier s below (λ e. other (ap (key_in v) e))) full);
  }
    where
      earlier : (s : ℕ) → s < i + 1 → (s ≡ i → ⊥) → s < i
      earlier s below other = dite (ℕ_discrete s i) (λ (e : s ≡ i). absurd (other e)) (λ (e : s ≢ i). omega arith)

  pub gathers_none : v.state i ≢ 1 → (more : Map ℕ) → more ≡ some → AreGathered v m (i + 1) more
  gathers_none not more e = subst (AreGathered v m (i + 1)) (sym e) record {
    sorted = g.sorted;
    of_map = g.of_map;
    all = λ s below full. dite (ℕ_discrete s i) (λ (at : s ≡ i). absurd (not (ap v.state (sym at) ∙ full))) (λ (at : s ≢ i). g.all s (omega arith) full);
  }

-- maps that find the same are the same
tail_sorted : (e : ℕ × ℕ) (m : Map ℕ) → IsMap nat_cmp (e ∷ m) → IsMap nat_cmp m
unfolding IsStrictlySortedBy
tail_sorted e m h = h.1

all_above : (e : ℕ × ℕ) (m : Map ℕ) → IsMap nat_cmp (e ∷ m) → AllByRecursion (λ y. nat_cmp e.0 y ≡ Less) (keys_of m)
unfolding IsStrictlySortedBy
all_above e m h = h.0

here : (e : ℕ × ℕ) (m : Map ℕ) → find nat_cmp (e ∷ m) e.0 ≡ Some e.1
here e m = ap (λ (b : Bool). cond b (Some e.1) (find nat_cmp m e.0)) (ap is_eq (tied_itself nat_cmp_total e.0))

test_exact : (j k : ℕ) → is_eq (nat_cmp j k) ≡ true → j ≡ k
test_exact j k t = by (nat_cmp j k) refl t
  where
    by : (r : Ordering) → nat_cmp j k ≡ r → is_eq r ≡ true → j ≡ k
    by Less e x = absurd cc
    by Equal e x = nat_exact j k e
    by Greater e x = absurd cc

past : (k : ℕ) (e : ℕ × ℕ) (m : Map ℕ) → k ≢ e.0 → find nat_cmp (e ∷ m) k ≡ find nat_cmp m k
past k e m other = by (is_eq (nat_cmp k e.0)) refl
  where
    by : (b : Bool) → is_eq (nat_cmp k e.0) ≡ b → find nat_cmp (e ∷ m) k ≡ find nat_cmp m k
    by true t = absurd (other (test_exact k e.0 t))
    by false t = ap (λ (b : Bool). cond b (Some e.1) (find nat_cmp m k)) t

-- what is found behind is above
found_above : (q k x : ℕ) (m : Map ℕ) → AllByRecursion (λ y. nat_cmp q y ≡ Less) (keys_of m) → find nat_cmp m k ≡ Some x → nat_cmp q k ≡ Less
found_above q k x [] above found = absurd (let z : None ≡ Some x = found in cc)
found_above q k x (e ∷ m) above found = dite (ℕ_discrete k e.0)
    (λ (same : k ≡ e.0). ap (nat_cmp q) same ∙ above.0)
    (λ (other : k ≢ e.0). found_above q k x m above.1 (sym (past k e m other) ∙ found))

never_both : (a b : ℕ) → nat_cmp a b ≡ Less → nat_cmp b a ≡ Less → ⊥
never_both a b one two = absurd (let z : Less ≡ Greater = sym one ∙ (nat_cmp_total.antisymm a b ∙ ap ordering_reverse two) in cc)

head_none : (e : ℕ × ℕ) (m : Map ℕ) → IsMap nat_cmp (e ∷ m) → find nat_cmp m e.0 ≡ None
head_none e m h = by (find nat_cmp m e.0) refl
  where
    by : (r : Option ℕ) → find nat_cmp m e.0 ≡ r → find nat_cmp m e.0 ≡ None
    by None is = is
    by (Some x) is = absurd (let less = found_above e.0 e.0 x m (all_above e m h) is in never_both e.0 e.0 less less)

some_same : (a b : ℕ) → Some a ≡ Some b → a ≡ b
some_same a b z = cc

pub same_map : (a b : Map ℕ) → IsMap nat_cmp a → IsMap nat_cmp b → ((k : ℕ) → find nat_cmp a k ≡ find nat_cmp b k) → a ≡ b
same_map [] [] ha hb same = refl
same_map [] (y ∷ ys) ha hb same = absurd (let z : None ≡ Some y.1 = same y.0 ∙ here y ys in cc)
same_map (x ∷ xs) [] ha hb same = absurd (let z : Some x.1 ≡ None = sym (here x xs) ∙ same x.0 in cc)
same_map (x ∷ xs) (y ∷ ys) ha hb same = dite (ℕ_discrete x.0 y.0)
    (λ (e : x.0 ≡ y.0).
    let value : x.1 ≡ y.1 = some_same x.1 y.1 (sym (here x xs) ∙ (same x.0 ∙ (ap (find nat_cmp (y ∷ ys)) e ∙ here y ys))) in
    let rest : xs ≡ ys = same_map xs ys (tail_sorted x xs ha) (tail_sorted y ys hb) (λ k. dite (ℕ_discrete k x.0)
    (λ (at : k ≡ x.0). (ap (find nat_cmp xs) at ∙ head_none x xs ha) ∙ sym (ap (find nat_cmp ys) (at ∙ e) ∙ head_none y ys hb))
    (λ (off : k ≢ x.0). sym (past k x xs off) ∙ (same k ∙ past k y ys (λ z. off (z ∙ sym e))))) in
    (λ i. (e i, value i) ∷ rest i))
    (λ (n : x.0 ≢ y.0). absurd (never_both x.0 y.0
    (found_above x.0 y.0 y.1 xs (all_above x xs ha) (sym (past y.0 x xs (λ e. n (sym e))) ∙ (same y.0 ∙ here y ys)))
    (found_above y.0 x.0 x.1 ys (all_above y ys hb) (sym (past x.0 y ys n) ∙ (sym (same x.0) ∙ here x xs)))))

-- the gathered pairs are all of the map
pub gathered_all : (v : SlotsView) (n : ℕ) (m some : Map ℕ) → HoldsMap v n m → AreGathered v m n some → some ≡ m
gathered_all v n m some h g = same_map some m g.sorted h.sorted (λ k. by k (find nat_cmp some k) refl)
  where
    by : (k : ℕ) (r : Option ℕ) → find nat_cmp some k ≡ r → find nat_cmp some k ≡ find nat_cmp m k
    by k (Some x) is = is ∙ sym (g.of_map k x is)
    by k None is = is ∙ sym (h.none k (λ s low full e. absurd (let z : None ≡ Some (v.value s) = sym is ∙ (ap (find nat_cmp some) (sym e) ∙ g.all s low full) in cc)))
