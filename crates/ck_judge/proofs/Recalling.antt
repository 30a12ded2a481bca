-- What a history says a key has at a place, and where it has a value next.
use Rattle.std.proofs.Common.{◌≡◌, ℕ, zero, suc, ◌+◌, ◌-◌, ◌<◌, ◌≤◌, inl, inr, List, [], ◌∷◌, length, map, get_or, refl, ap, sym, ◌∙◌, arith, zero-add, Option, Some, None, MatchOption}
use Rattle.std.specs.declared.cmp.Ordering.{Ordering}
use Rattle.std.specs.declared.cmp.Ordering.TheVariants.{Equal}
use Rattle.std.specs.Cmp.{IsTotalOrder}
use Rattle.std.specs.List.{All, Contains}
use Rattle.std.specs.List.Sorted.{IsPermutation}
use Rattle.std.proofs.lemmas.List.Sorted.{All-permutation, Contains-permutation}
use Rattle.std.proofs.lemmas.List.{length-map}
use Rattle.ck_history.specs.Places.{IsAnswerAt}
use Rattle.ck_judge.specs.declared.changes.Change.{Change}
use Rattle.ck_judge.specs.declared.changes.Given.{Given}
use Rattle.ck_judge.specs.declared.history.History.{History}
use Rattle.ck_judge.specs.Changes.{IsRightEntry, AreEntries}
use Rattle.ck_judge.specs.History.{given_by, has_at, IsHistory, NoAnswerFrom, IsNextAnswer, IsGiven, GivesNext}
use Rattle.ck_judge.proofs.Entries.{entry_told, settled, given_between}

-- the same entries in another order
pub entries_moved : {K : Type 0} (cmp : K → K → Ordering) {E : Type 0} (key_of : E → K) (place_of : E → ℕ) (value_of : E → Option ℕ) (count : ℕ) (gives : ℕ → K → Option ℕ) (es fs : List E) → IsPermutation es fs → AreEntries cmp key_of place_of value_of count gives es → AreEntries cmp key_of place_of value_of count gives fs
entries_moved cmp key_of place_of value_of count gives es fs moved are = record {
  told = All-permutation (IsRightEntry cmp key_of place_of value_of count gives) es fs moved are.told;
  each = λ p k lt. elim (are.each p k lt) [
    | inl same ↦ inl same
    | inr has ↦ inr (record { entry = has.entry; there = Contains-permutation es fs has.entry moved has.there; key = has.key; place = has.place })
  ];
  start = are.start;
  alike = are.alike;
}

pub read_mapped : {A B : Type 0} (f : A → B) (xs : List A) (i : ℕ) (d : A) → get_or (map f xs) i (f d) ≡ f (get_or xs i d)
read_mapped f [] i d = refl
read_mapped f (x ∷ xs) zero d = refl
read_mapped f (x ∷ xs) (suc i) d = read_mapped f xs i d

module _ {K : Type 0} (cmp : K → K → Ordering) (count : ℕ) (gives : ℕ → K → Option ℕ) where
  told_given : (cs : List (Change K)) → All (IsRightEntry cmp (λ c. c.key) (λ c. c.place) (λ c. c.value) count gives) cs → (i : ℕ) (d : Given K) → i < length (map given_by cs) → IsRightEntry cmp (λ c. c.key) (λ c. c.place) (λ c. c.value) count gives (get_or (map given_by cs) i d)
  told_given [] told i d lt = absurd (omega arith)
  told_given (c ∷ cs) told zero d lt = let here = told zero c (omega arith) in record { within = here.within; told = here.told }
  told_given (c ∷ cs) told (suc i) d lt = told_given cs (λ k e within. told (suc k) e (omega arith)) i d (omega arith)

  -- the changes, in the form that is sorted by value
  pub entries_given : (cs : List (Change K)) → AreEntries cmp (λ c. c.key) (λ c. c.place) (λ c. c.value) count gives cs → AreEntries cmp (λ c. c.key) (λ c. c.place) (λ c. c.value) count gives (map given_by cs)
  entries_given cs are = record {
    told = told_given cs are.told;
    each = λ p k lt. elim (are.each p k lt) [
      | inl same ↦ inl same
      | inr has ↦ inr (record {
        entry = given_by has.entry;
        there = (has.there.0, omega (arith, has.there.1, length-map cs given_by), read_mapped given_by cs has.there.0 has.entry ∙ ap given_by has.there.2);
        key = has.key;
        place = has.place;
      })
    ];
    start = are.start;
    alike = are.alike;
  }

module _ {K : Type 0} {cmp : K → K → Ordering} (total : IsTotalOrder cmp) (h : History K) (kept : IsHistory cmp h) (key : K) where
  -- no change of the key up to the place
  pub value_none : (place : ℕ) → place ≤ length h.updates.items → ((e : Change K) → Contains h.changes.items e → cmp key e.key ≡ Equal → e.place ≤ place → ⊥) → None ≡ has_at cmp h place key
  value_none place within none =
      let same : 0 + place ≡ place = zero-add place in
      let all = settled cmp (λ c. c.key) (λ c. c.place) (λ c. c.value) (length h.updates.items) (has_at cmp h) h.changes.items kept.changes key 0 place (omega arith) (λ e there equal above below. none e there equal (omega (arith, below))) in
      sym (ap (λ p. has_at cmp h p key) (sym same) ∙ (all ∙ kept.changes.start key))

  -- the last change of the key up to the place
  pub value_last : (place : ℕ) → place ≤ length h.updates.items → (last : Change K) → Contains h.changes.items last → cmp key last.key ≡ Equal → last.place ≤ place → ((e : Change K) → Contains h.changes.items e → cmp key e.key ≡ Equal → e.place ≤ place → e.place ≤ last.place) → last.value ≡ has_at cmp h place key
  value_last place within last there equal low latest =
      let same : last.place + (place - last.place) ≡ place = omega arith in
      let told = entry_told cmp (λ c. c.key) (λ c. c.place) (λ c. c.value) (length h.updates.items) (has_at cmp h) h.changes.items kept.changes key last there in
      let all = settled cmp (λ c. c.key) (λ c. c.place) (λ c. c.value) (length h.updates.items) (has_at cmp h) h.changes.items kept.changes key last.place (place - last.place) (omega arith)
      (λ e listed alike above below. let le = latest e listed alike (omega (arith, below)) in omega (arith, le, above)) in
      told.told ∙ (sym (kept.changes.alike last.place key last.key equal) ∙ (sym all ∙ ap (λ p. has_at cmp h p key) same))

  module _ (value : Option ℕ) (from : ℕ) where
    -- an answer later on, where there is none here, comes from a listed update
    later_given : from ≤ length h.updates.items → (has_at cmp h from key ≡ value → ⊥) → (o : ℕ) → from ≤ o → IsAnswerAt (length h.updates.items) (has_at cmp h) key value o → (g : Given K) × IsGiven cmp h key value from g × (g.place ≤ o)
    later_given within isnt o le answer =
        let same : from + (o - from) ≡ o = omega arith in
        let one = given_between cmp (λ c. c.key) (λ c. c.place) (λ c. c.value) (length h.updates.items) (has_at cmp h) h.given.items kept.given key value from (o - from) (omega (arith, answer.within)) isnt (ap (λ p. has_at cmp h p key) same ∙ sym answer.right) in
        (one.entry, record { there = one.there; key = one.key; value = one.value; after = omega (arith, one.above) }, omega (arith, one.below))

    -- so the first listed update gives the next answer
    pub next_by_given : from ≤ length h.updates.items → (has_at cmp h from key ≡ value → ⊥) → (r : Option ℕ) → GivesNext cmp h key value from r → MatchOption r (NoAnswerFrom cmp h key value from) (IsNextAnswer cmp h key value from)
    next_by_given within isnt None none = λ o le answer. let one = later_given within isnt o le answer in none one.0 one.1
    next_by_given within isnt (Some p) first = record {
      after = first.after;
      here = first.here;
      least = λ o le answer. let one = later_given within isnt o le answer in let low = first.least one.0 one.1 in omega (arith, low, one.2);
    }

    -- a listed update gives an answer
    pub given_answers : (g : Given K) → IsGiven cmp h key value from g → IsAnswerAt (length h.updates.items) (has_at cmp h) key value g.place
    given_answers g is =
        let told = entry_told cmp (λ c. c.key) (λ c. c.place) (λ c. c.value) (length h.updates.items) (has_at cmp h) h.given.items kept.given key g is.there in
        record { within = told.within; right = sym is.value ∙ (told.told ∙ sym (kept.given.alike g.place key g.key is.key)) }
