-- Where a search among sorted entries ends.
use Rattle.std.proofs.Common.{◌≡◌, ℕ, zero, suc, ◌+◌, ◌-◌, ◌<◌, ◌≤◌, true, false, List, [], ◌∷◌, length, get_or, refl, ap, sym, ◌∙◌, subst, arith, true≢false, Option, Some, None}
use Rattle.std.specs.declared.cmp.Ordering.{Ordering}
use Rattle.std.specs.declared.cmp.Ordering.TheVariants.{Less, Equal, Greater}
use Rattle.std.specs.Ordering.{MatchOrdering, nat_cmp, ordering_then, ordering_reverse, is_lt}
use Rattle.std.specs.Option.{option_cmp}
use Rattle.std.specs.Cmp.{IsTotalOrder}
use Rattle.std.specs.Cmp.Lexicographic.{options_total}
use Rattle.std.proofs.lemmas.Cmp.{ranked, tied_back, tied_itself, alike_right, nat_cmp_total}
use Rattle.std.specs.List.{Contains}
use Rattle.ck_judge.specs.declared.changes.Change.{Change}
use Rattle.ck_judge.specs.declared.changes.Given.{Given}
use Rattle.ck_judge.specs.Searches.{change_cmp, given_cmp, EndsAt}

-- between an element below the target and one not below another, where both compare alike
keep : (r a b : Ordering) → is_lt (ordering_then r a) ≡ true → is_lt (ordering_then r b) ≡ false → (r ≡ Equal) × (is_lt a ≡ true) × (is_lt b ≡ false)
keep Less a b lt not = absurd (true≢false not)
keep Equal a b lt not = (refl, lt, not)
keep Greater a b lt not = absurd (true≢false (sym lt))

-- the same, from above
turn : (r a b : Ordering) → is_lt (ordering_then r a) ≡ false → is_lt (ordering_then (ordering_reverse r) b) ≡ false → (r ≡ Equal) × (is_lt a ≡ false) × (is_lt b ≡ false)
turn Less a b not back = absurd (true≢false not)
turn Equal a b not back = (refl, not, back)
turn Greater a b not back = absurd (true≢false back)

module _ (m n : ℕ) where
  at_most_by : (o r : Ordering) → MatchOrdering o (m < n) (m ≡ n) (n < m) → is_lt (ordering_then o r) ≡ true → m ≤ n
  at_most_by Less r is lt = omega (arith, is)
  at_most_by Equal r is lt = omega (arith, is)
  at_most_by Greater r is lt = absurd (true≢false (sym lt))

  at_least_by : (o r : Ordering) → MatchOrdering o (m < n) (m ≡ n) (n < m) → is_lt (ordering_then o r) ≡ false → n ≤ m
  at_least_by Less r is not = absurd (true≢false not)
  at_least_by Equal r is not = omega (arith, is)
  at_least_by Greater r is not = omega (arith, is)

  not_least : (v : Option ℕ) → is_lt (option_cmp nat_cmp v None) ≡ false
  not_least None = refl
  not_least (Some x) = refl

  below_by : (o : Ordering) (v : Option ℕ) → MatchOrdering o (m < n) (m ≡ n) (n < m) → is_lt (ordering_then o (option_cmp nat_cmp v None)) ≡ true → m < n
  below_by Less v is lt = is
  below_by Equal v is lt = absurd (true≢false (sym lt ∙ not_least v))
  below_by Greater v is lt = absurd (true≢false (sym lt))

  before_by : (o r : Ordering) → MatchOrdering o (m < n) (m ≡ n) (n < m) → m < n → is_lt (ordering_then o r) ≡ true
  before_by Less r is lt = refl
  before_by Equal r is lt = absurd (omega (arith, is))
  before_by Greater r is lt = absurd (omega (arith, is))

  after_by : (o : Ordering) → MatchOrdering o (m < n) (m ≡ n) (n < m) → n ≤ m → is_lt o ≡ false
  after_by Less is le = absurd (omega (arith, is))
  after_by Equal is le = refl
  after_by Greater is le = refl

  from_by : (o : Ordering) → MatchOrdering o (m < n) (m ≡ n) (n < m) → is_lt o ≡ false → n ≤ m
  from_by Less is not = absurd (true≢false not)
  from_by Equal is not = omega (arith, is)
  from_by Greater is not = omega (arith, is)

equal_numbers : (m n : ℕ) (o : Ordering) → MatchOrdering o (m < n) (m ≡ n) (n < m) → o ≡ Equal → m ≡ n
equal_numbers m n Less is e = absurd (true≢false (ap is_lt e))
equal_numbers m n Equal is e = is
equal_numbers m n Greater is e = absurd (true≢false (ap is_lt (ap ordering_reverse e)))

-- values that compare as equal are one value
equal_values : (v w : Option ℕ) → option_cmp nat_cmp v w ≡ Equal → v ≡ w
equal_values None None e = refl
equal_values None (Some y) e = absurd (true≢false (ap is_lt e))
equal_values (Some x) None e = absurd (true≢false (ap is_lt (ap ordering_reverse e)))
equal_values (Some x) (Some y) e = ap Some (equal_numbers x y (nat_cmp x y) (ranked x y (nat_cmp x y) refl) e)

-- an element within a list doesn't rest on what is read past its end
pub same_read : {A : Type 0} (xs : List A) (i : ℕ) (d e : A) → i < length xs → get_or xs i d ≡ get_or xs i e
same_read [] i d e lt = absurd (omega arith)
same_read (x ∷ xs) zero d e lt = refl
same_read (x ∷ xs) (suc i) d e lt = same_read xs i d e (omega arith)

module _ {K : Type 0} {cmp : K → K → Ordering} (total : IsTotalOrder cmp) (key : K) where
  -- what is searched for among changes: what comes after the place
  abbrev pub past : ℕ → Change K
  past place = record { key = key; place = place + 1; value = None }

  abbrev place_tail : Change K → Change K → Ordering
  place_tail c d = ordering_then (nat_cmp c.place d.place) (option_cmp nat_cmp c.value d.value)

  module _ (cs : List (Change K)) (place at : ℕ) (ends : EndsAt (change_cmp cmp) cs (past place) at) where
    -- the one before the end isn't after the place
    pub last_within : (last : Change K) → 0 < at → last ≡ get_or cs (at - 1) last → cmp last.key key ≡ Equal → last.place ≤ place
    last_within last pos is equal =
        let goes = (ends.below (at - 1) last (omega arith)).0 in
        let here : is_lt (change_cmp cmp last (past place)) ≡ true = subst (λ c. is_lt (change_cmp cmp c (past place)) ≡ true) (sym is) goes in
        let tail : is_lt (place_tail last (past place)) ≡ true = ap (λ r. is_lt (ordering_then r (place_tail last (past place)))) (sym equal) ∙ here in
        let low = below_by last.place (place + 1) (nat_cmp last.place (place + 1)) last.value (ranked last.place (place + 1) (nat_cmp last.place (place + 1)) refl) tail in
        omega (arith, low)

    -- each change of the key up to the place is before the end
    change_before : (e : Change K) (there : Contains cs e) → cmp key e.key ≡ Equal → e.place ≤ place → there.0 < at
    change_before e there same low =
        let back : cmp e.key key ≡ Equal = tied_back total key e.key same in
        let before : is_lt (change_cmp cmp e (past place)) ≡ true =
        ap (λ r. is_lt (ordering_then r (place_tail e (past place)))) back
        ∙ before_by e.place (place + 1) (nat_cmp e.place (place + 1)) (option_cmp nat_cmp e.value None) (ranked e.place (place + 1) (nat_cmp e.place (place + 1)) refl) (omega arith) in
        let beyond : at ≤ there.0 → ⊥ =
        λ le. true≢false (sym before ∙ subst (λ c. is_lt (change_cmp cmp c (past place)) ≡ false) there.2 (ends.above there.0 e le there.1).0) in
        omega (arith, beyond)

    pub change_found : (e : Change K) → Contains cs e → cmp key e.key ≡ Equal → e.place ≤ place → 0 < at
    change_found e there same low = let lt = change_before e there same low in omega (arith, lt)

    -- and the last of them is the one before the end
    pub last_latest : (e last : Change K) → Contains cs e → cmp key e.key ≡ Equal → e.place ≤ place → last ≡ get_or cs (at - 1) last → (cmp last.key key ≡ Equal) × (e.place ≤ last.place)
    last_latest e last there same low is =
        let lt = change_before e there same low in
        let back : cmp e.key key ≡ Equal = tied_back total key e.key same in
        let goes : is_lt (change_cmp cmp last (past place)) ≡ true = subst (λ c. is_lt (change_cmp cmp c (past place)) ≡ true) (sym is) (ends.below (at - 1) last (omega (arith, lt))).0 in
        let read : get_or cs there.0 last ≡ e = same_read cs there.0 last e there.1 ∙ there.2 in
        let stays : is_lt (change_cmp cmp last e) ≡ false =
        subst (λ c. is_lt (change_cmp cmp last c) ≡ false) read (subst (λ c. is_lt (change_cmp cmp c (get_or cs there.0 last)) ≡ false) (sym is) (ends.below there.0 last lt).1) in
        let level : is_lt (ordering_then (cmp last.key key) (place_tail last e)) ≡ false =
        ap (λ r. is_lt (ordering_then r (place_tail last e))) (sym (alike_right total e.key key last.key back)) ∙ stays in
        let both = keep (cmp last.key key) (place_tail last (past place)) (place_tail last e) goes level in
        (both.0, at_least_by last.place e.place (nat_cmp last.place e.place) (option_cmp nat_cmp last.value e.value) (ranked last.place e.place (nat_cmp last.place e.place) refl) both.2)

  -- what is searched for among given values: the first one from the place on
  abbrev pub from_on : Option ℕ → ℕ → Given K
  from_on value place = record { key = key; value = value; place = place }

  abbrev value_tail : Given K → Given K → Ordering
  value_tail c d = ordering_then (option_cmp nat_cmp c.value d.value) (nat_cmp c.place d.place)

  module _ (gs : List (Given K)) (value : Option ℕ) (place at : ℕ) (ends : EndsAt (given_cmp cmp) gs (from_on value place) at) where
    level_by : (e : Given K) (r : Ordering) → cmp e.key key ≡ Equal → e.value ≡ value → r ≡ nat_cmp e.place place → is_lt r ≡ false → is_lt (given_cmp cmp e (from_on value place)) ≡ false
    level_by e r same alike is not =
        ap (λ o. is_lt (ordering_then o (value_tail e (from_on value place)))) same
        ∙ (ap (λ v. is_lt (ordering_then (option_cmp nat_cmp v value) (nat_cmp e.place place))) alike
        ∙ (ap (λ o. is_lt (ordering_then o (nat_cmp e.place place))) (tied_itself (options_total nat_cmp_total) value)
        ∙ (ap is_lt (sym is) ∙ not)))

    -- each of them from the place on is at the end or after it
    given_after : (e : Given K) (there : Contains gs e) → cmp key e.key ≡ Equal → e.value ≡ value → place ≤ e.place → at ≤ there.0
    given_after e there same alike from =
        let back : cmp e.key key ≡ Equal = tied_back total key e.key same in
        let after : is_lt (given_cmp cmp e (from_on value place)) ≡ false =
        level_by e (nat_cmp e.place place) back alike refl (after_by e.place place (nat_cmp e.place place) (ranked e.place place (nat_cmp e.place place) refl) from) in
        let before : there.0 < at → ⊥ =
        λ lt. true≢false (sym (subst (λ c. is_lt (given_cmp cmp c (from_on value place)) ≡ true) there.2 (ends.below there.0 e lt).0) ∙ after) in
        omega (arith, before)

    pub given_found : (e : Given K) → Contains gs e → cmp key e.key ≡ Equal → e.value ≡ value → place ≤ e.place → at < length gs
    given_found e there same alike from = let le = given_after e there same alike from in omega (arith, le, there.1)

    -- what stands at the end isn't before the place
    pub first_within : (first : Given K) → at < length gs → first ≡ get_or gs at first → cmp first.key key ≡ Equal → first.value ≡ value → place ≤ first.place
    first_within first lt is same alike =
        let not : is_lt (given_cmp cmp first (from_on value place)) ≡ false = subst (λ c. is_lt (given_cmp cmp c (from_on value place)) ≡ false) (sym is) (ends.above at first (omega arith) lt).0 in
        let levels : is_lt (nat_cmp first.place place) ≡ false =
        ap (λ o. is_lt (ordering_then o (nat_cmp first.place place))) (sym (tied_itself (options_total nat_cmp_total) value))
        ∙ (ap (λ v. is_lt (ordering_then (option_cmp nat_cmp v value) (nat_cmp first.place place))) (sym alike)
        ∙ (ap (λ o. is_lt (ordering_then o (value_tail first (from_on value place)))) (sym same) ∙ not)) in
        from_by first.place place (nat_cmp first.place place) (ranked first.place place (nat_cmp first.place place) refl) levels

    -- and it is the first of them
    pub first_least : (e first : Given K) → Contains gs e → cmp key e.key ≡ Equal → e.value ≡ value → place ≤ e.place → first ≡ get_or gs at first → (cmp first.key key ≡ Equal) × (first.value ≡ value) × (first.place ≤ e.place)
    first_least e first there same alike from is =
        let le = given_after e there same alike from in
        let not : is_lt (given_cmp cmp first (from_on value place)) ≡ false = subst (λ c. is_lt (given_cmp cmp c (from_on value place)) ≡ false) (sym is) (ends.above at first (omega arith) (omega (arith, le, there.1))).0 in
        let read : get_or gs there.0 first ≡ e = same_read gs there.0 first e there.1 ∙ there.2 in
        let stays : is_lt (given_cmp cmp e first) ≡ false =
        subst (λ c. is_lt (given_cmp cmp c first) ≡ false) read (subst (λ c. is_lt (given_cmp cmp (get_or gs there.0 first) c) ≡ false) (sym is) (ends.above there.0 first le there.1).1) in
        let turned : cmp e.key first.key ≡ ordering_reverse (cmp first.key key) = sym (total.congr key e.key first.key same) ∙ total.antisymm key first.key in
        let level : is_lt (ordering_then (ordering_reverse (cmp first.key key)) (value_tail e first)) ≡ false =
        ap (λ r. is_lt (ordering_then r (value_tail e first))) (sym turned) ∙ stays in
        let keys = turn (cmp first.key key) (value_tail first (from_on value place)) (value_tail e first) not level in
        let turned_value : option_cmp nat_cmp e.value first.value ≡ ordering_reverse (option_cmp nat_cmp first.value value) =
        ap (λ v. option_cmp nat_cmp v first.value) alike ∙ (options_total nat_cmp_total).antisymm value first.value in
        let value_level : is_lt (ordering_then (ordering_reverse (option_cmp nat_cmp first.value value)) (nat_cmp e.place first.place)) ≡ false =
        ap (λ r. is_lt (ordering_then r (nat_cmp e.place first.place))) (sym turned_value) ∙ keys.2 in
        let values = turn (option_cmp nat_cmp first.value value) (nat_cmp first.place place) (nat_cmp e.place first.place) keys.1 value_level in
        (keys.0, equal_values first.value value values.0, from_by e.place first.place (nat_cmp e.place first.place) (ranked e.place first.place (nat_cmp e.place first.place) refl) values.2)
