-- The numbers of the free blocks, and the places of those that are out.
use Rattle.std.proofs.Common.{◌≡◌, ◌≢◌, ℕ, zero, suc, Bool, true, false, not, ◌&&◌, ◌||◌, inl, inr, ◌+◌, ◌-◌, ◌*◌, ◌/◌, ◌^◌, ◌<◌, ◌≤◌, List, ◌∷◌, length, set, slice_index, nat_eq, if◌then◌else◌, arith, refl, sym, ap, subst, ◌∙◌, true≢false, length-set, get_or-set_other, get_or-set_same, eq-eqb}
use Rattle.std.proofs.lemmas.Bool.{cases_eq, ne_eqb}
use Rattle.std.specs.Ordering.{nat_cmp, eq_by_cmp}
use Rattle.std.specs.Cmp.{nat_cmp_total, Equal-is, eq_by_cmp_equiv}
use Rattle.std.specs.FinSet as finset
use Rattle.std.specs.FinSet.{nat_cmp-IsAntisymmetric}
use Rattle.ck_words.specs.Blocks.{BlockArena, with_blocks_out, IsBlockOut, IsBlock, AreBlocksApart, among, out_places, blocks_of, IsBlocksOf, AddsBlock, DropsBlock}
use Rattle.ck_words.proofs.Members.{same_test, either, second_true, both, true_not, not_true}

tie_exact : (x y : ℕ) → eq_by_cmp nat_cmp x y ≡ true → x ≡ y
tie_exact x y tie = nat_cmp-IsAntisymmetric x y ((Equal-is (nat_cmp x y)).0 tie)

tie_itself : (x : ℕ) → eq_by_cmp nat_cmp x x ≡ true
tie_itself x = (eq_by_cmp_equiv nat_cmp_total).refl x

-- one of the first k numbers, before a write behind them and after it
pub among-set : (numbers : List ℕ) (k i v n : ℕ) → k ≤ i → among (set numbers i v) k n ≡ among numbers k n
among-set numbers zero i v n before = refl
among-set numbers (suc k) i v n before =
    let other : k ≢ i = omega arith in
    λ j. nat_eq (get_or-set_other numbers i k v 0 other j) n || among-set numbers k i v n (omega arith) j

-- a place that is out, by the number of its block
pub record IsOutAt (numbers : List ℕ) (free first n : ℕ) (at m : ℕ) : Type 0 where
  pub within : m < n
  pub place : at ≡ first + 8 * m
  pub taken : among numbers free m ≡ false

module _ (numbers : List ℕ) (free first : ℕ) where
  listed : (n at : ℕ) → finset.contains (finset.from_list {R = nat_cmp} (out_places numbers free first n)) at ≡ true → (m : ℕ) × IsOutAt numbers free first n at m
  listed zero at h = absurd (true≢false (sym h ∙ finset.contains-empty nat_cmp at))
  listed (suc n) at h =
      let more : (m : ℕ) × IsOutAt numbers free first n at m → (m : ℕ) × IsOutAt numbers free first (suc n) at m = λ was. (was.0, record { within = let w = was.1.within in omega arith; place = was.1.place; taken = was.1.taken }) in
      let rest = out_places numbers free first n in
      let cases : (b : Bool) → among numbers free n ≡ b → finset.contains (finset.from_list {R = nat_cmp} (if b then rest else (first + 8 * n) ∷ rest)) at ≡ true → (m : ℕ) × IsOutAt numbers free first (suc n) at m =
      λ b. elim b as (λ t. among numbers free n ≡ t → finset.contains (finset.from_list {R = nat_cmp} (if t then rest else (first + 8 * n) ∷ rest)) at ≡ true → (m : ℕ) × IsOutAt numbers free first (suc n) at m) [
        | true ↦ λ e h. more (listed n at h)
        | false ↦ λ e h. elim (either _ _ (sym (finset.contains-insert nat_cmp_total (finset.from_list rest) (first + 8 * n) at) ∙ h)) [
          | inl tie ↦ (n, record { within = omega arith; place = tie_exact at (first + 8 * n) tie; taken = e })
          | inr was ↦ more (listed n at was)
        ]
      ] in
      cases _ refl h

  lists : (n at m : ℕ) → IsOutAt numbers free first n at m → finset.contains (finset.from_list {R = nat_cmp} (out_places numbers free first n)) at ≡ true
  lists zero at m is = absurd (let w = is.within in omega arith)
  lists (suc n) at m is =
      let rest = out_places numbers free first n in
      let earlier : m ≢ n → finset.contains (finset.from_list {R = nat_cmp} rest) at ≡ true = λ ne. lists n at m (record { within = let w = is.within in omega arith; place = is.place; taken = is.taken }) in
      let cases : (b : Bool) → among numbers free n ≡ b → finset.contains (finset.from_list {R = nat_cmp} (if b then rest else (first + 8 * n) ∷ rest)) at ≡ true =
      λ b. elim b as (λ t. among numbers free n ≡ t → finset.contains (finset.from_list {R = nat_cmp} (if t then rest else (first + 8 * n) ∷ rest)) at ≡ true) [
        | true ↦ λ e. earlier (λ same. true≢false (sym e ∙ ap (among numbers free) (sym same) ∙ is.taken))
        | false ↦ λ e. finset.contains-insert nat_cmp_total (finset.from_list rest) (first + 8 * n) at ∙ (elim (cases_eq m n) [
          | inl same ↦ ap (λ c. c || finset.contains (finset.from_list {R = nat_cmp} rest) at) (subst (λ x. eq_by_cmp nat_cmp at x ≡ true) (is.place ∙ ap (λ k. first + 8 * k) same) (tie_itself at))
          | inr ne ↦ second_true _ _ (earlier ne)
        ])
      ] in
      cases _ refl

  -- what is out is what isn't among the free numbers
  pub out_number : (at : ℕ) → IsBlockOut (blocks_of first free numbers) at → (m : ℕ) × IsOutAt numbers free first (length numbers) at m
  unfolding blocks_of
  out_number at is_out = listed (length numbers) at is_out

  pub number_out : (at m : ℕ) → IsOutAt numbers free first (length numbers) at m → IsBlockOut (blocks_of first free numbers) at
  unfolding blocks_of
  number_out at m is = lists (length numbers) at m is

  pub blocks_apart : AreBlocksApart (blocks_of first free numbers)
  unfolding blocks_of
  blocks_apart = record {
    placed = λ at is_out. let is = out_number at is_out in (is.0, (is.1.within, is.1.place));
    one = λ w at other is_out is_other covers covers_other.
        let is = out_number at is_out in
        let is' = out_number other is_other in
        let place = is.1.place in
        let place' = is'.1.place in
        let low = covers.0 in
        let high = covers.1 in
        let low' = covers_other.0 in
        let high' = covers_other.1 in
        omega arith;
  }

  -- where no number is free each block is out
  pub all_out : free ≡ 0 → (at : ℕ) → IsBlock (blocks_of first free numbers) at → IsBlockOut (blocks_of first free numbers) at
  unfolding blocks_of
  all_out none at is_block = number_out at is_block.0 (record { within = is_block.1.0; place = is_block.1.1; taken = ap (λ k. among numbers k is_block.0) none })

false_of : (b : Bool) → (b ≡ true → ⊥) → b ≡ false
false_of true = λ no. absurd (no refl)
false_of false = λ no. refl

neither : (a b : Bool) → a ≡ false → b ≡ false → (a || b) ≡ false
neither a b p q = (λ i. p i || b) ∙ q

second_false : (a b : Bool) → (a || b) ≡ false → b ≡ false
second_false true b h = absurd (true≢false h)
second_false false b h = h

first_false : (a b : Bool) → (a || b) ≡ false → a ≡ false
first_false true b h = h
first_false false b h = refl

not_not : (a : Bool) → not a ≡ true → a ≡ false
not_not true h = absurd (true≢false (sym h))
not_not false h = refl

-- a block that is taken
module _ (first free : ℕ) (numbers : List ℕ) (is : IsBlocksOf first (suc free) numbers) (at : ℕ) (place : at ≡ first + 8 * slice_index numbers free) where
  abbrev before : BlockArena
  before = blocks_of first (suc free) numbers

  taken_within : slice_index numbers free < length numbers
  taken_within = is.within free (omega arith)

  taken_last : among numbers free (slice_index numbers free) ≡ false
  taken_last = is.distinct free (omega arith)

  pub taken_placed : IsBlock before at
  unfolding blocks_of
  taken_placed = (slice_index numbers free, (taken_within, place))

  pub taken_was_free : ¬ IsBlockOut before at
  taken_was_free is_out =
      let was = out_number numbers (suc free) first at is_out in
      let there = was.1.place in
      let same : slice_index numbers free ≡ was.0 = omega arith in
      true≢false (sym (eq-eqb (slice_index numbers free) was.0 same) ∙ first_false _ _ was.1.taken)

  after_out : (q : ℕ) → IsBlockOut (blocks_of first free numbers) q → finset.contains (finset.insert (before.out) at) q ≡ true
  after_out q is_out =
      let now = out_number numbers free first q is_out in
      finset.contains-insert nat_cmp_total (before.out) at q
      ∙ (elim (cases_eq (slice_index numbers free) now.0) [
        | inl same ↦
            let there : q ≡ at = now.1.place ∙ ap (λ n. first + 8 * n) (sym same) ∙ sym place in
            ap (λ c. c || finset.contains (before.out) q) (subst (λ x. eq_by_cmp nat_cmp q x ≡ true) there (tie_itself q))
        | inr ne ↦ second_true _ _ (number_out numbers (suc free) first q now.0 (record { within = now.1.within; place = now.1.place; taken = neither _ _ (ne_eqb _ _ ne) now.1.taken }))
      ])

  out_after : (q : ℕ) → finset.contains (finset.insert (before.out) at) q ≡ true → IsBlockOut (blocks_of first free numbers) q
  out_after q h =
      elim (either _ _ (sym (finset.contains-insert nat_cmp_total (before.out) at q) ∙ h)) [
        | inl tie ↦ number_out numbers free first q (slice_index numbers free) (record { within = taken_within; place = tie_exact q at tie ∙ place; taken = taken_last })
        | inr was ↦ let is_at = out_number numbers (suc free) first q was in number_out numbers free first q is_at.0 (record { within = is_at.1.within; place = is_at.1.place; taken = second_false _ _ is_at.1.taken })
      ]

  taken_set : (blocks_of first free numbers).out ≡ finset.insert (before.out) at
  taken_set = finset.same_set nat_cmp_total nat_cmp-IsAntisymmetric _ _ (λ q. same_test _ _ (after_out q) (out_after q))

  pub taken_out : blocks_of first free numbers ≡ with_blocks_out before (finset.insert (before.out) at)
  unfolding blocks_of
  taken_out = ap (with_blocks_out before) taken_set

  pub taken_is : IsBlocksOf first free numbers
  taken_is =
      let counted = is.counted in
      let free_le = is.free_le in
      let more : finset.len ((blocks_of first free numbers).out) ≡ finset.len (before.out) + 1 =
      ap finset.len taken_set ∙ finset.len-insert nat_cmp_total (before.out) at ∙ ap (λ b. if b then finset.len (before.out) else finset.len (before.out) + 1) (false_of _ taken_was_free) in
      record {
        place = is.place;
        free_le = omega arith;
        within = λ i less. is.within i (omega arith);
        distinct = λ i less. is.distinct i (omega arith);
        counted = omega (arith, counted, more);
      }

-- a block that is given back
module _ (first free : ℕ) (numbers : List ℕ) (is : IsBlocksOf first free numbers) (at : ℕ) (is_out : IsBlockOut (blocks_of first free numbers) at) where
  abbrev was : BlockArena
  was = blocks_of first free numbers

  some_out : 0 < finset.len (was.out)
  some_out =
      elim (cases_eq (finset.len (was.out)) 0) [
        | inl none ↦ absurd (true≢false (sym is_out ∙ ap (λ s. finset.contains s at) (finset.empty_of_len (was.out) none) ∙ finset.contains-empty nat_cmp at))
        | inr some ↦ omega arith
      ]

  pub given_room : free < length numbers
  given_room = let counted = is.counted in let some = some_out in omega arith

  pub given_from : first ≤ at
  given_from = let place = (out_number numbers free first at is_out).1.place in omega arith

  pub given_small : (at - first) / 8 < length numbers
  given_small = let found = (out_number numbers free first at is_out).1 in let place = found.place in let within = found.within in omega arith

  module _ (m : ℕ) (reckoned : m ≡ (at - first) / 8) where
    found : IsOutAt numbers free first (length numbers) at m
    found =
        let found = out_number numbers free first at is_out in
        let place = found.1.place in
        let same : found.0 ≡ m = omega arith in
        subst (IsOutAt numbers free first (length numbers) at) same found.1

    abbrev written : List ℕ
    written = set numbers free m

    long : length written ≡ length numbers
    long = length-set numbers free m

    last : slice_index written free ≡ m
    last = get_or-set_same numbers free m 0 given_room

    among_written : (n : ℕ) → among written (suc free) n ≡ (nat_eq m n || among numbers free n)
    among_written n = λ i. nat_eq (last i) n || among-set numbers free free m n (omega arith) i

    out_now : (q : ℕ) → IsBlockOut (blocks_of first (suc free) written) q → finset.contains (finset.remove (was.out) at) q ≡ true
    out_now q h =
        let now = out_number written (suc free) first q h in
        let parts = sym (among_written now.0) ∙ now.1.taken in
        let other : m ≢ now.0 = λ e. true≢false (sym (eq-eqb m now.0 e) ∙ first_false _ _ parts) in
        let place = found.place in
        let place_now = now.1.place in
        let there : q ≢ at = λ e. other (omega arith) in
        finset.contains-remove nat_cmp_total (was.out) at q
        ∙ (λ i. not (false_of _ (λ tie. there (tie_exact q at tie)) i) && finset.contains (was.out) q)
        ∙ number_out numbers free first q now.0 (record { within = subst (λ n. now.0 < n) long now.1.within; place = place_now; taken = second_false _ _ parts })

    now_out : (q : ℕ) → finset.contains (finset.remove (was.out) at) q ≡ true → IsBlockOut (blocks_of first (suc free) written) q
    now_out q h =
        let parts = both _ _ (sym (finset.contains-remove nat_cmp_total (was.out) at q) ∙ h) in
        let before = out_number numbers free first q parts.1 in
        let there : q ≢ at = λ e. true≢false (sym (subst (λ x. eq_by_cmp nat_cmp q x ≡ true) e (tie_itself q)) ∙ not_not _ parts.0) in
        let place = found.place in
        let place_before = before.1.place in
        let other : m ≢ before.0 = λ e. there (omega arith) in
        number_out written (suc free) first q before.0 (record { within = subst (λ n. before.0 < n) (sym long) before.1.within; place = place_before; taken = among_written before.0 ∙ neither _ _ (ne_eqb _ _ other) before.1.taken })

    given_set : (blocks_of first (suc free) written).out ≡ finset.remove (was.out) at
    given_set = finset.same_set nat_cmp_total nat_cmp-IsAntisymmetric _ _ (λ q. same_test _ _ (out_now q) (now_out q))

    pub given_back : blocks_of first (suc free) written ≡ with_blocks_out was (finset.remove (was.out) at)
    unfolding blocks_of
    given_back = λ i. record { first = first; count = long i; out = given_set i }

    given_within : (i : ℕ) → i < suc free → slice_index written i < length written
    given_within i less =
        elim (cases_eq i free) [
          | inl same ↦ let value : slice_index written i ≡ m = ap (slice_index written) same ∙ last in let within = found.within in let size = long in omega (arith, value, within, size)
          | inr ne ↦ let value = get_or-set_other numbers free i m 0 ne in let within = is.within i (omega arith) in let size = long in omega (arith, value, within, size)
        ]

    given_distinct : (i : ℕ) → i < suc free → among written i (slice_index written i) ≡ false
    given_distinct i less =
        elim (cases_eq i free) [
          | inl same ↦ subst (λ k. among written k (slice_index written k) ≡ false) (sym same) (ap (among written free) last ∙ among-set numbers free free m m (omega arith) ∙ found.taken)
          | inr ne ↦ ap (among written i) (get_or-set_other numbers free i m 0 ne) ∙ among-set numbers i free m (slice_index numbers i) (omega arith) ∙ is.distinct i (omega arith)
        ]

    pub given_is : IsBlocksOf first (suc free) written
    given_is =
        let counted = is.counted in
        let some = some_out in
        let size = long in
        let room = given_room in
        let less : finset.len ((blocks_of first (suc free) written).out) ≡ finset.len (was.out) - 1 =
        ap finset.len given_set ∙ finset.len-remove nat_cmp_total (was.out) at ∙ ap (λ b. if b then finset.len (was.out) - 1 else finset.len (was.out)) is_out in
        record {
          place = subst (λ n. first + 8 * n ≤ 2 ^ 32) (sym long) is.place;
          free_le = omega (arith, size, room);
          within = given_within;
          distinct = given_distinct;
          counted = omega (arith, counted, less, some, size);
        }

among_none : (numbers : List ℕ) (k v : ℕ) → ((i : ℕ) → i < k → slice_index numbers i ≢ v) → among numbers k v ≡ false
among_none numbers zero v none = refl
among_none numbers (suc k) v none = neither _ _ (ne_eqb _ _ (none k (omega arith))) (among_none numbers k v (λ i less. none i (omega arith)))

among_some : (numbers : List ℕ) (k i v : ℕ) → i < k → slice_index numbers i ≡ v → among numbers k v ≡ true
among_some numbers zero i v less is = absurd (omega (arith, less))
among_some numbers (suc k) i v less is =
    elim (cases_eq i k) [
      | inl same ↦ ap (λ b. b || among numbers k v) (eq-eqb _ v (ap (slice_index numbers) (sym same) ∙ is))
      | inr ne ↦ second_true _ _ (among_some numbers k i v (omega arith) is)
    ]

-- an arena of blocks of which all are free
module _ (first count : ℕ) (numbers : List ℕ) (long : length numbers ≡ count) (falling : (i : ℕ) → i < count → slice_index numbers i + i + 1 ≡ count) where
  none_out : (q : ℕ) → IsBlockOut (blocks_of first count numbers) q → finset.contains (finset.empty {R = nat_cmp}) q ≡ true
  none_out q is_out =
      let found = out_number numbers count first q is_out in
      let m = found.0 in
      let within = found.1.within in
      let below : m < count = omega (arith, within, long) in
      let i = count - 1 - m in
      let less : i < count = omega arith in
      let value : slice_index numbers i ≡ m = let falls = falling i less in omega arith in
      absurd (true≢false (sym (among_some numbers count i m less value) ∙ found.1.taken))

  nothing : (q : ℕ) → finset.contains (finset.empty {R = nat_cmp}) q ≡ true → IsBlockOut (blocks_of first count numbers) q
  nothing q h = absurd (true≢false (sym h ∙ finset.contains-empty nat_cmp q))

  empty : (blocks_of first count numbers).out ≡ finset.empty {R = nat_cmp}
  empty = finset.same_set nat_cmp_total nat_cmp-IsAntisymmetric _ _ (λ q. same_test _ _ (none_out q) (nothing q))

  pub blocks_opened : blocks_of first count numbers ≡ record { first = first; count = count; out = finset.empty }
  unfolding blocks_of
  blocks_opened = λ i. record { first = first; count = long i; out = empty i }

  pub blocks_opening : first + 8 * count ≤ 2 ^ 32 → IsBlocksOf first count numbers
  blocks_opening place = record {
    place = subst (λ n. first + 8 * n ≤ 2 ^ 32) (sym long) place;
    free_le = omega arith;
    within = λ i less. let falls = falling i less in omega arith;
    distinct = λ i less. among_none numbers i (slice_index numbers i) (λ j before e. let falls = falling i less in let falls' = falling j (omega arith) in omega (arith, falls, falls', e, before));
    counted = let none = ap finset.len empty ∙ finset.len-empty nat_cmp in omega (arith, none, long);
  }

pub adds : (a : BlockArena) (at : ℕ) → AddsBlock a (with_blocks_out a (finset.insert a.out at)) at
adds a at q = (
  λ h. elim (either _ _ (sym (finset.contains-insert nat_cmp_total a.out at q) ∙ h)) [ inl tie ↦ inl (tie_exact q at tie) | inr was ↦ inr was ],
  λ h. finset.contains-insert nat_cmp_total a.out at q
      ∙ (elim h [
        | inl same ↦ ap (λ b. b || finset.contains a.out q) (subst (λ x. eq_by_cmp nat_cmp q x ≡ true) same (tie_itself q))
        | inr was ↦ second_true _ _ was
      ]),
)

pub drops : (a : BlockArena) (at : ℕ) → DropsBlock a (with_blocks_out a (finset.remove a.out at)) at
drops a at q = (
  λ h.
      let parts = both _ _ (sym (finset.contains-remove nat_cmp_total a.out at q) ∙ h) in
      (λ same. not_true _ parts.0 (subst (λ x. eq_by_cmp nat_cmp q x ≡ true) same (tie_itself q)), parts.1),
  λ h. finset.contains-remove nat_cmp_total a.out at q ∙ ap (λ b. b && finset.contains a.out q) (true_not _ (λ tie. h.0 (tie_exact q at tie))) ∙ h.1,
)
