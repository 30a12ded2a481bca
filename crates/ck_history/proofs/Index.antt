-- What a search finds among sorted pairs, and what an edit at that place does.
use Rattle.std.proofs.Common.{◌≡◌, ℕ, zero, suc, ◌+◌, ◌<◌, ◌≤◌, ◌∙◌, [], ◌∷◌, length, get_or, set, refl, sym, ap, Some, None, Result, Ok, Err, MatchResult, arith}
use Rattle.std.specs.declared.cmp.Ordering.{Ordering}
use Rattle.std.specs.declared.cmp.Ordering.TheVariants.{Less, Equal, Greater}
use Rattle.std.specs.Ordering.{match_ordering, ordering_reverse, is_eq, is_lt}
use Rattle.std.specs.Cmp.{IsTotalOrder}
use Rattle.std.specs.List.{insert, remove, AllWithin, HoldsAt}
use Rattle.std.specs.List.Sorted.{IsSortedBy, IsSearchInRange, IsBinarySearchResult}
use Rattle.std.specs.Map.{keys_of, remove_entry}
use Rattle.std.specs.BTreeMap.{is_at, insert_entry}
use Rattle.std.proofs.lemmas.Cmp.{alike_right}
use Rattle.std.proofs.lemmas.Bool.{cond-true, cond-false}
use Rattle.std.proofs.lemmas.List.{get_or-map}
use Rattle.std.proofs.lemmas.List.Sorted.{searchable_from_sorted}
use Rattle.std.proofs.lemmas.Map.{lookup-none}
use Rattle.std.proofs.lemmas.Map.Entries.{length-keys_of, none_below_head}
use Rattle.std.proofs.lemmas.Map.Keys.{Less-from_sorted, sorted_tail}
use Rattle.ck_history.specs.Map.{Map, IsMap, find}
use Rattle.ck_history.specs.Index.{StandsAt, BelongsAt}

-- what the place of a key that is there says of a look-up and of edits
pub record Found {K : Type 0} (cmp : K → K → Ordering) (k : K) (m : Map K) (at : ℕ) : Type 0 where
  pub in_range : at < length m
  pub value : (d : K × ℕ) → find cmp m k ≡ Some (get_or m at d).1
  pub writes : (d : K × ℕ) (v : ℕ) → set m at ((get_or m at d).0, v) ≡ insert_entry cmp m k v
  pub removes : remove m at ≡ remove_entry (is_at (cmp k)) m

-- what the place of a key that is absent says
pub record Absent {K : Type 0} (cmp : K → K → Ordering) (k : K) (m : Map K) (at : ℕ) : Type 0 where
  pub in_range : at ≤ length m
  pub value : find cmp m k ≡ None
  pub inserts : (v : ℕ) → insert m at (k, v) ≡ insert_entry cmp m k v

module _ {K : Type 0} {cmp : K → K → Ordering} (total : IsTotalOrder cmp) (k : K) where
  -- `insert_entry`, by how k compares to the first key
  inserts_by : (e : K × ℕ) (m : Map K) (v : ℕ) (r : Ordering) → cmp k e.0 ≡ r → insert_entry cmp (e ∷ m) k v ≡ match_ordering r ((k, v) ∷ e ∷ m) ((e.0, v) ∷ m) (e ∷ insert_entry cmp m k v)
  inserts_by e m v r is = ap (λ o. match_ordering o ((k, v) ∷ e ∷ m) ((e.0, v) ∷ m) (e ∷ insert_entry cmp m k v)) is

  pub found : (m : Map K) (at : ℕ) → StandsAt cmp k m at → Found cmp k m at
  found [] at stands = absurd stands
  found (e ∷ m) zero stands =
      let here = ap is_eq stands in
      record {
        in_range = omega arith;
        value = λ d. cond-true _ _ _ here;
        writes = λ d v. sym (inserts_by e m v Equal stands);
        removes = sym (cond-true _ _ _ here);
      }
  found (e ∷ m) (suc at) stands =
      let apart = ap is_eq stands.0 in
      let rest = found m at stands.1 in
      record {
        in_range = omega arith;
        value = λ d. cond-false _ _ _ apart ∙ rest.value d;
        writes = λ d v. ap (λ l. e ∷ l) (rest.writes d v) ∙ sym (inserts_by e m v Greater stands.0);
        removes = ap (λ l. e ∷ l) rest.removes ∙ sym (cond-false _ _ _ apart);
      }

  pub absent : (m : Map K) (at : ℕ) → IsMap cmp m → BelongsAt cmp k m at → Absent cmp k m at
  absent [] zero ordered belongs = record { in_range = omega arith; value = refl; inserts = λ v. refl }
  absent [] (suc at) ordered belongs = absurd belongs
  absent (e ∷ m) zero ordered belongs = record {
    in_range = omega arith;
    value = lookup-none {K = K} (is_at (cmp k)) (e ∷ m) (none_below_head total k e m ordered belongs);
    inserts = λ v. sym (inserts_by e m v Less belongs);
  }
  absent (e ∷ m) (suc at) ordered belongs =
      let rest = absent m at (sorted_tail cmp e.0 (keys_of m) ordered) belongs.1 in
      record {
        in_range = omega arith;
        value = cond-false _ _ _ (ap is_eq belongs.0) ∙ rest.value;
        inserts = λ v. ap (λ l. e ∷ l) (rest.inserts v) ∙ sym (inserts_by e m v Greater belongs.0);
      }

  -- the keys rise by place
  keys_rise : (m : Map K) (i j : ℕ) (d : K × ℕ) → IsMap cmp m → i < j → j < length m → cmp (get_or m i d).0 (get_or m j d).0 ≡ Less
  keys_rise m i j d ordered lt in_range =
      let key = λ (e : K × ℕ). e.0 in
      let first = get_or-map key m i d d.0 (omega arith) in
      let second = get_or-map key m j d d.0 in_range in
      sym (λ t. cmp (first t) (second t)) ∙ Less-from_sorted cmp (keys_of m) i j d.0 ordered lt (omega (arith, length-keys_of m))

  -- a comparison the other way round
  turned : (x : K) (r : Ordering) → cmp x k ≡ r → cmp k x ≡ ordering_reverse r
  turned x r is = total.antisymm k x ∙ ap ordering_reverse is

  stands_from_search : (m : Map K) (at : ℕ) → IsMap cmp m → at < length m → HoldsAt (λ e. cmp e.0 k ≡ Equal) m at → StandsAt cmp k m at
  stands_from_search [] at ordered in_range here = absurd (omega arith)
  stands_from_search (e ∷ m) zero ordered in_range here = turned e.0 Equal (here e)
  stands_from_search (e ∷ m) (suc at) ordered in_range here =
      let below = keys_rise (e ∷ m) 0 (suc at) e ordered (omega arith) (omega arith) in
      (turned e.0 Less (sym (alike_right total (get_or m at e).0 k e.0 (here e)) ∙ below), stands_from_search m at (sorted_tail cmp e.0 (keys_of m) ordered) (omega arith) here)

  belongs_from_search : (m : Map K) (at : ℕ) → at ≤ length m → AllWithin (λ e. cmp e.0 k ≡ Less) m 0 at → AllWithin (λ e. cmp e.0 k ≡ Greater) m at (length m) → BelongsAt cmp k m at
  belongs_from_search [] zero in_range before after = tt
  belongs_from_search [] (suc at) in_range before after = absurd (omega arith)
  belongs_from_search (e ∷ m) zero in_range before after = turned e.0 Greater (after 0 e (omega arith) (omega arith))
  belongs_from_search (e ∷ m) (suc at) in_range before after = (
    turned e.0 Less (before 0 e (omega arith) (omega arith)),
    belongs_from_search m at (omega arith) (λ i d le lt. before (suc i) d (omega arith) (omega arith)) (λ i d le lt. after (suc i) d (omega arith) (omega arith)),
  )

  -- a binary search by key ends at the key, or where its pair would go
  pub searched : (m : Map K) (r : Result ℕ ℕ) → IsMap cmp m → IsSearchInRange r (length m) → IsBinarySearchResult (λ e. cmp e.0 k) m r → MatchResult r (StandsAt cmp k m) (BelongsAt cmp k m)
  searched m (Ok at) ordered in_range here = stands_from_search m at ordered in_range here
  searched m (Err at) ordered in_range parted =
      let key = λ (e : K × ℕ). e.0 in
      let sorted : IsSortedBy (λ a b. is_lt (cmp (key a) (key b))) m = λ i d le lt.
      ap is_lt (total.antisymm _ _ ∙ ap ordering_reverse (keys_rise m i (i + 1) d ordered (omega arith) lt)) in
      let parts = parted (searchable_from_sorted total key m k sorted) in
      belongs_from_search m at in_range parts.0 parts.1
