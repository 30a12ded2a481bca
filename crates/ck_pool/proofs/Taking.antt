-- The steps of the desk keep its rule.
use Rattle.std.proofs.Common.{◌≡◌, ◌≢◌, ℕ, zero, suc, ◌+◌, ◌-◌, ◌<◌, ◌≤◌, ◌==◌, ⊎_elim, Bool, true, false, List, [], ◌∷◌, ◌++◌, map, length, set, get_or, replicate, Option, Some, eq-eqb, ne_eqb, refl, sym, ap, subst, ◌∙◌, arith}
use Rattle.std.specs.Prelude.{slice_get}
use Rattle.std.proofs.lemmas.Bool.Decides.{nat_tests}
use Rattle.std.proofs.lemmas.List.{get_or-set_same, get_or-set_other}
use mathlib.Core.Option.{some, some-injective, some-ne-none}
use mathlib.Core.Logic.{dite}
use native.Mathlib.Decide.{ℕ_discrete}
use prog.Atomic.{either}
use lib.ListN.{get_elem?}
use Rattle.atomic_table.specs.Table.{State, Me, Act, Valid, Allows, Splits, Joins, stepped, carried_after, opening, keeps, takes, gives, rest}
use Rattle.atomic_table.specs.Seated.{TableId}
use Rattle.atomic_table.proofs.Lists.{at_set, at_snoc, set_else, set_again}
use Rattle.ck_pool.specs.declared.known.Known.{Known}
use Rattle.ck_run.specs.Rule.{total}
use Rattle.ck_run.proofs.Keeps.{total-set, total-snoc}
use Rattle.ck_pool.specs.Desk.{occurrences, all_parts, IsDesk, TookEye, GaveBack, first_known, fewer, one_part, known_of_both, spent, DeskView, ClerkView, IsClerkOf}
use Rattle.std.proofs.Math.ListN.{length-set}

-- sums over all views
module _ {V : Type 0} where
  term_le : (f : V → ℕ) (vs : List V) (i : ℕ) (v : V) → get_elem? vs i ≡ some v → f v ≤ total f vs
  term_le f [] i v e = absurd (some-ne-none v (sym e))
  term_le f (x ∷ xs) zero v e = let h : f x ≡ f v = ap f (some-injective x v e) in omega arith
  term_le f (x ∷ xs) (suc i) v e = let h = term_le f xs i v e in omega arith

  all_idle : (p f : V → ℕ) (vs : List V) → total p vs ≡ 0 → ((i : ℕ) (u : V) → get_elem? vs i ≡ some u → p u ≡ 0 → f u ≡ 0) → total f vs ≡ 0
  all_idle p f [] none idle = refl
  all_idle p f (x ∷ xs) none idle =
      let here : f x ≡ 0 = idle zero x refl (omega arith) in
      let rest : total f xs ≡ 0 = all_idle p f xs (omega arith) (λ i u e. idle (suc i) u e) in
      omega arith

  -- who has all parts has all that was taken
  only_one : (p f : V → ℕ) (vs : List V) (i : ℕ) (v : V) → get_elem? vs i ≡ some v → total p vs ≡ p v → ((j : ℕ) (u : V) → get_elem? vs j ≡ some u → p u ≡ 0 → f u ≡ 0) → total f vs ≡ f v
  only_one p f [] i v e all idle = absurd (some-ne-none v (sym e))
  only_one p f (x ∷ xs) zero v e all idle =
      let same : x ≡ v = some-injective x v e in
      let q : p x ≡ p v = ap p same in
      let g : f x ≡ f v = ap f same in
      let rest : total f xs ≡ 0 = all_idle p f xs (omega arith) (λ j u h. idle (suc j) u h) in
      omega arith
  only_one p f (x ∷ xs) (suc i) v e all idle =
      let le : p v ≤ total p xs = term_le p xs i v e in
      let here : f x ≡ 0 = idle zero x refl (omega arith) in
      let rest : total f xs ≡ f v = only_one p f xs i v e (omega arith) (λ j u h. idle (suc j) u h) in
      omega arith

times_here : (f : ℕ) (l : List ℕ) → occurrences f (f ∷ l) ≡ 1 + occurrences f l
times_here f l = rw (eq-eqb f f refl) refl

pub took_here : (f : ℕ) (l : List ℕ) → 0 < occurrences f (f ∷ l)
took_here f l = let h = times_here f l in omega arith

times_else : (f g : ℕ) (l : List ℕ) → f ≢ g → occurrences g (f ∷ l) ≡ occurrences g l
times_else f g l ne = let h : 0 + occurrences g l ≡ occurrences g l = omega arith in rw (ne_eqb f g ne) h

pub times_append : (f : ℕ) (xs ys : List ℕ) → occurrences f (xs ++ ys) ≡ occurrences f xs + occurrences f ys
times_append f [] ys = omega arith
times_append f (x ∷ xs) ys = let h = times_append f xs ys in omega arith

word_else : (ws : List ℕ) (f n k : ℕ) → k ≢ f → get_or (set ws f n) k 0 ≡ get_or ws k 0
word_else ws f n k ne = get_or-set_other ws f k n 0 ne

word_here : (ws : List ℕ) (f n : ℕ) → f < length ws → get_or (set ws f n) f 0 ≡ n
word_here ws f n lt = get_or-set_same ws f n 0 lt

same_word : (ws : List ℕ) (f : ℕ) → set ws f (get_or ws f 0) ≡ ws
same_word [] f = refl
same_word (w ∷ ws) zero = refl
same_word (w ∷ ws) (suc f) = ap (λ (l : List ℕ). w ∷ l) (same_word ws f)

bits_kept : (ws : List ℕ) (f n : ℕ) → n < 2 → f < length ws → ((k : ℕ) → get_or ws k 0 < 2) → (k : ℕ) → get_or (set ws f n) k 0 < 2
bits_kept ws f n lt in_ws each k = dite (ℕ_discrete k f) (λ e. subst (λ (j : ℕ). get_or (set ws f n) j 0 < 2) (sym e) (subst (λ (w : ℕ). w < 2) (sym (word_here ws f n in_ws)) lt)) (λ ne. subst (λ (w : ℕ). w < 2) (sym (word_else ws f n k ne)) (each k))

zeros : (n k : ℕ) → get_or {A = ℕ} (replicate n 0) k 0 ≡ 0
zeros zero zero = refl
zeros zero (suc k) = refl
zeros (suc n) zero = refl
zeros (suc n) (suc k) = zeros n k

zeros_long : (n : ℕ) → length {A = ℕ} (replicate n 0) ≡ n
zeros_long zero = refl
zeros_long (suc n) = ap suc (zeros_long n)

one_view : {V : Type 0} (v : V) (j : ℕ) (u : V) → get_elem? (v ∷ []) j ≡ some u → u ≡ v
one_view v zero u e = sym (some-injective v u e)
one_view v (suc j) u e = absurd (some-ne-none u (sym e))

module _ {E : Type 0} where
  there_at : (eyes : List E) (f : ℕ) → f < length eyes → (e : E) × (slice_get eyes f ≡ Some e)
  there_at [] f lt = absurd (omega arith)
  there_at (x ∷ xs) zero lt = (x, refl)
  there_at (x ∷ xs) (suc f) lt = there_at xs f (omega arith)

  -- a fact of every view, after one of them was changed
  after_set : (P : Known E → Type 0) (views : List (Known E)) (seat : ℕ) (w : Known E) → P w → ((j : ℕ) (u : Known E) → get_elem? views j ≡ some u → P u) → (j : ℕ) (u : Known E) → get_elem? (set views seat w) j ≡ some u → P u
  after_set P views seat w now each j u e = ⊎_elim (λ (t : (j ≡ seat) × (w ≡ u)). subst P t.1 now) (λ (t : (j ≢ seat) × (get_elem? views j ≡ some u)). each j u t.1) (at_set views seat j w u e)

  abbrev Same : List E → Known E → Type 0
  Same eyes v = 0 < v.parts → v.eyes ≡ eyes

  abbrev Idle : Known E → Type 0
  Idle v = v.parts ≡ 0 → v.took ≡ []

  idle_times : (f : ℕ) (views : List (Known E)) → ((j : ℕ) (u : Known E) → get_elem? views j ≡ some u → Idle u) → (j : ℕ) (u : Known E) → get_elem? views j ≡ some u → u.parts ≡ 0 → occurrences f u.took ≡ 0
  idle_times f views idle j u e none = ap (occurrences f) (idle j u e none)

  takes_at : (eyes : List E) (seat f : ℕ) (v : Known E) (c : List (ℕ × Option E)) (s : State (Option E) (Known E)) → IsDesk eyes s → f < length eyes → v.eyes ≡ eyes → 0 < v.parts → get_elem? s.views seat ≡ some v
      → (b : Bool) → (get_or s.words f 0 == 0) ≡ b
      → (w : Known E) × (a : Act (Option E)) × Valid s.homes c a
      × IsDesk eyes (stepped s f (either (get_or s.words f 0 == 0) 1 (get_or s.words f 0)) seat c w a)
      × TookEye f (v, c) (get_or s.words f 0) (w, carried_after c a)
  takes_at eyes seat f v c s h lt mine part seen true is =
      let none_took : get_or s.words f 0 ≡ 0 = grind (arith, nat_tests) in
      let here = there_at eyes f lt in
      let e = here.0 in
      let w : Known E = record v { took = f ∷ v.took } in
      let in_words : f < length s.words = omega (arith, h.words) in
      let known : slice_get v.eyes f ≡ Some e = ap (λ (l : List E). slice_get l f) mine ∙ here.1 in (
        w,
        takes f (Some e),
        h.home f e none_took here.1,
        rw is (record {
          words = length-set s.words f 1 ∙ h.words;
          bits = bits_kept s.words f 1 (omega arith) in_words h.bits;
          home = λ k z none at. dite (ℕ_discrete k f)
              (λ q. absurd (let one : get_or (set s.words f 1) k 0 ≡ 1 = subst (λ (j : ℕ). get_or (set s.words f 1) j 0 ≡ 1) (sym q) (word_here s.words f 1 in_words) in omega arith))
              (λ ne. set_else s.homes f k _ ne ∙ h.home k z (sym (word_else s.words f 1 k ne) ∙ none) at);
          once = λ k.
              let t : total (λ u. occurrences k u.took) (set s.views seat w) + occurrences k v.took ≡ total (λ u. occurrences k u.took) s.views + occurrences k (f ∷ v.took) = total-set (λ u. occurrences k u.took) s.views seat v w seen in
              let o : total (λ u. occurrences k u.took) s.views ≡ get_or s.words k 0 = h.once k in
              dite (ℕ_discrete k f)
              (λ q. let m : occurrences k (f ∷ v.took) ≡ 1 + occurrences k v.took = subst (λ (j : ℕ). occurrences j (f ∷ v.took) ≡ 1 + occurrences j v.took) (sym q) (times_here f v.took) in
              let z : get_or s.words k 0 ≡ 0 = ap (λ (j : ℕ). get_or s.words j 0) q ∙ none_took in
              let one : get_or (set s.words f 1) k 0 ≡ 1 = subst (λ (j : ℕ). get_or (set s.words f 1) j 0 ≡ 1) (sym q) (word_here s.words f 1 in_words) in
              omega arith)
              (λ ne. let m : occurrences k (f ∷ v.took) ≡ occurrences k v.took = times_else f k v.took (λ q. ne (sym q)) in
              let same : get_or (set s.words f 1) k 0 ≡ get_or s.words k 0 = word_else s.words f 1 k ne in
              omega arith);
          parts = let t : total (λ u. u.parts) (set s.views seat w) + v.parts ≡ total (λ u. u.parts) s.views + v.parts = total-set (λ u. u.parts) s.views seat v w seen in let o = h.parts in omega arith;
          same = after_set (Same eyes) s.views seat w (λ p. mine) h.same;
          idle = after_set Idle s.views seat w (λ none. absurd (omega arith)) h.idle;
        }),
        rw is (e, known, refl),
      )
  takes_at eyes seat f v c s h lt mine part seen false is =
      let n = get_or s.words f 0 in
      let some_word : n ≢ 0 = grind (arith, nat_tests) in
      let bit : n < 2 = h.bits f in (
        v,
        keeps,
        tt,
        rw (is, same_word s.words f, set_again s.views seat v seen) h,
        rw is (
          refl,
          λ all.
              let only : total (λ u. occurrences f u.took) s.views ≡ occurrences f v.took = only_one (λ u. u.parts) (λ u. occurrences f u.took) s.views seat v seen (h.parts ∙ sym all) (idle_times f s.views h.idle) in
              let o : total (λ u. occurrences f u.took) s.views ≡ n = h.once f in
              omega arith,
        ),
      )

  pub takes_slot : (eyes : List E) (slots seat f : ℕ) (me : Me (Option E) (Known E)) → me.0.eyes ≡ eyes → 0 < me.0.parts → f < length eyes
      → Allows (IsDesk eyes) slots seat me f (λ n. either (n == 0) 1 n) (TookEye f me)
  takes_slot eyes slots seat f (v, c) mine part lt s h len seen below = takes_at eyes seat f v c s h lt mine part seen (get_or s.words f 0 == 0) refl

  pub gives_slot : (eyes : List E) (slots seat f : ℕ) (v : Known E) (x : Option E) → 0 < occurrences f v.took
      → Allows (IsDesk eyes) slots seat (v, (f, x) ∷ []) f (λ n. n) (λ n w. GaveBack (v, (f, x) ∷ []) w)
  gives_slot eyes slots seat f v x taken s h len seen below =
      let o : total (λ u. occurrences f u.took) s.views ≡ get_or s.words f 0 = h.once f in
      let le : occurrences f v.took ≤ total (λ u. occurrences f u.took) s.views = term_le (λ u. occurrences f u.took) s.views seat v seen in
      let some_word : get_or s.words f 0 ≢ 0 = λ q. absurd (omega arith) in (
        v,
        gives,
        tt,
        rw (same_word s.words f, set_again s.views seat v seen) (record {
          words = h.words;
          bits = h.bits;
          home = λ k z none at. set_else s.homes f k (some x) (λ q. some_word (ap (λ (j : ℕ). get_or s.words j 0) (sym q) ∙ none)) ∙ h.home k z none at;
          once = h.once;
          parts = h.parts;
          same = h.same;
          idle = h.idle;
        }),
        refl,
      )

  after_snoc : (P : Known E → Type 0) (views : List (Known E)) (w : Known E) → P w → ((j : ℕ) (u : Known E) → get_elem? views j ≡ some u → P u) → (j : ℕ) (u : Known E) → get_elem? (views ++ w ∷ []) j ≡ some u → P u
  after_snoc P views w now each j u e = ⊎_elim (λ (t : get_elem? views j ≡ some u). each j u t) (λ (t : w ≡ u). subst P t now) (at_snoc views w u j e)

  pub splits_off : (eyes : List E) (seat : ℕ) (v : Known E) → v.eyes ≡ eyes → 1 < v.parts → Splits (IsDesk eyes) seat v (fewer v) (one_part v)
  splits_off eyes seat v mine many s h seen = record {
    words = h.words;
    bits = h.bits;
    home = h.home;
    once = λ k.
        let a : total (λ u. occurrences k u.took) (set s.views seat (fewer v) ++ one_part v ∷ []) ≡ total (λ u. occurrences k u.took) (set s.views seat (fewer v)) + 0 = total-snoc (λ u. occurrences k u.took) (set s.views seat (fewer v)) (one_part v) in
        let t : total (λ u. occurrences k u.took) (set s.views seat (fewer v)) + occurrences k v.took ≡ total (λ u. occurrences k u.took) s.views + occurrences k v.took = total-set (λ u. occurrences k u.took) s.views seat v (fewer v) seen in
        let o = h.once k in
        omega arith;
    parts =
        let a : total (λ u. u.parts) (set s.views seat (fewer v) ++ one_part v ∷ []) ≡ total (λ u. u.parts) (set s.views seat (fewer v)) + 1 = total-snoc (λ u. u.parts) (set s.views seat (fewer v)) (one_part v) in
        let t : total (λ u. u.parts) (set s.views seat (fewer v)) + v.parts ≡ total (λ u. u.parts) s.views + (v.parts - 1) = total-set (λ u. u.parts) s.views seat v (fewer v) seen in
        let o = h.parts in
        omega arith;
    same = after_snoc (Same eyes) (set s.views seat (fewer v)) (one_part v) (λ p. mine) (after_set (Same eyes) s.views seat (fewer v) (λ p. mine) h.same);
    idle = after_snoc Idle (set s.views seat (fewer v)) (one_part v) (λ p. refl) (after_set Idle s.views seat (fewer v) (λ none. absurd (omega arith)) h.idle);
  }

  pub joins_in : (eyes : List E) (seat other : ℕ) (v w : Known E) → v.eyes ≡ eyes → 0 < v.parts → Joins (IsDesk eyes) seat v other w (known_of_both v w) spent
  joins_in eyes seat other v w mine part s h seen apart there =
      let both = known_of_both v w in
      let views' = set s.views seat both in
      record {
        words = h.words;
        bits = h.bits;
        home = h.home;
        once = λ k.
            let t : total (λ u. occurrences k u.took) (set s.views seat (known_of_both v w)) + occurrences k v.took ≡ total (λ u. occurrences k u.took) s.views + occurrences k (v.took ++ w.took) = total-set (λ u. occurrences k u.took) s.views seat v (known_of_both v w) seen in
            let m : occurrences k (v.took ++ w.took) ≡ occurrences k v.took + occurrences k w.took = times_append k v.took w.took in
            let u : total (λ u. occurrences k u.took) (set (set s.views seat (known_of_both v w)) other spent) + occurrences k w.took ≡ total (λ u. occurrences k u.took) (set s.views seat (known_of_both v w)) + 0 = total-set (λ u. occurrences k u.took) (set s.views seat (known_of_both v w)) other w spent there in
            let o = h.once k in
            omega arith;
        parts =
            let t : total (λ u. u.parts) (set s.views seat (known_of_both v w)) + v.parts ≡ total (λ u. u.parts) s.views + (v.parts + w.parts) = total-set (λ u. u.parts) s.views seat v (known_of_both v w) seen in
            let u : total (λ u. u.parts) (set (set s.views seat (known_of_both v w)) other spent) + w.parts ≡ total (λ u. u.parts) (set s.views seat (known_of_both v w)) + 0 = total-set (λ u. u.parts) (set s.views seat (known_of_both v w)) other w spent there in
            let o = h.parts in
            omega arith;
        same = after_set (Same eyes) views' other spent (λ p. absurd (omega arith)) (after_set (Same eyes) s.views seat both (λ p. mine) h.same);
        idle = after_set Idle views' other spent (λ p. refl) (after_set Idle s.views seat both (λ none. absurd (omega arith)) h.idle);
      }

  home_at : (eyes : List E) (k : ℕ) (e : E) → slice_get eyes k ≡ Some e → get_elem? (map some (map (λ (x : E). Some x) eyes)) k ≡ some (some (Some e))
  home_at [] k e is = cc
  home_at (x ∷ xs) zero e is = ap (λ (y : Option E). some (some y)) is
  home_at (x ∷ xs) (suc k) e is = home_at xs k e is

  opens_desk : (eyes : List E) → IsDesk eyes (opening (replicate (length eyes) 0) (map (λ (x : E). Some x) eyes) (first_known eyes))
  opens_desk eyes = record {
    words = zeros_long (length eyes);
    bits = λ k. let z = zeros (length eyes) k in omega arith;
    home = λ k e none is. home_at eyes k e is;
    once = λ f. sym (zeros (length eyes) f);
    parts = refl;
    same = λ j v e p. ap (λ (u : Known E). u.eyes) (one_view (first_known eyes) j v e);
    idle = λ j v e p. ap (λ (u : Known E). u.took) (one_view (first_known eyes) j v e);
  }

  pub opens_with : (eyes : List E) (slots : List (Option E)) (ws : List ℕ) (n : ℕ) → slots ≡ map (λ (x : E). Some x) eyes → ws ≡ replicate n 0 → n ≡ length eyes → IsDesk eyes (opening ws slots (first_known eyes))
  opens_with eyes slots ws n same zeros long = rw (same, zeros, long) (opens_desk eyes)

  -- the same in the form in which the calls have it
  pub clerk_in : (id : TableId) (eyes : List E) (id' : TableId) (v : Known E) (d : DeskView E) (k : ClerkView E) → record { id = id; eyes = eyes } ≡ d → record { id = id'; known = v } ≡ k → IsClerkOf d k → IsClerkOf {E = E} (record { id = id; eyes = eyes }) (record { id = id'; known = v })
  clerk_in id eyes id' v d k p q h =
      let d₀ : DeskView E = record { id = id; eyes = eyes } in
      let k₀ : ClerkView E = record { id = id'; known = v } in
      subst (λ (x : DeskView E). IsClerkOf x k₀) (sym p) (subst (λ (y : ClerkView E). IsClerkOf d y) (sym q) h)

  pub took_one : (f found : ℕ) (m w : Me (Option E) (Known E)) → found ≡ 0 → TookEye f m found w → (e : E) × (slice_get m.0.eyes f ≡ Some e) × (w ≡ (record m.0 { took = f ∷ m.0.took }, (f, Some e) ∷ m.1))
  took_one f found m w none h = subst (λ (n : ℕ). TookEye f m n w) none h

  pub took_none : (f found : ℕ) (m w : Me (Option E) (Known E)) → found ≢ 0 → TookEye f m found w → (w ≡ m) × (m.0.parts ≡ all_parts → occurrences f m.0.took ≡ 1)
  took_none f found m w some_word h = rw (ne_eqb found 0 some_word) at h

  pub gives_slot_at : (eyes : List E) (slots seat f : ℕ) (me : Me (Option E) (Known E)) (v : Known E) (x : Option E) → me ≡ (v, (f, x) ∷ []) → 0 < occurrences f v.took → Allows (IsDesk eyes) slots seat me f (λ n. n) (λ n w. GaveBack me w)
  gives_slot_at eyes slots seat f me v x is taken = subst (λ (m : Me (Option E) (Known E)). Allows (IsDesk eyes) slots seat m f (λ n. n) (λ n w. GaveBack m w)) (sym is) (gives_slot eyes slots seat f v x taken)

pub head_is : {S : Type 0} (c : List (ℕ × S)) (x : ℕ × S) (r : List (ℕ × S)) → c ≡ x ∷ r → c ≡ x ∷ rest c
head_is {S} c x r e = e ∙ ap (λ (l : List (ℕ × S)). x ∷ l) (sym (ap rest e))

head_same : {A : Type 0} (x y : A) (r t : List A) → x ∷ r ≡ y ∷ t → x ≡ y
head_same x y r t e = cc

first_is : {S : Type 0} (x y : ℕ × S) (r t : List (ℕ × S)) → x ∷ r ≡ y ∷ t → x.1 ≡ y.1
first_is {S} x y r t e = ap (λ (p : ℕ × S). p.1) (head_same x y r t e)

pub slot_is : {S : Type 0} (c r : List (ℕ × S)) (f : ℕ) (x y : S) → c ≡ (f, x) ∷ r → c ≡ (f, y) ∷ rest c → y ≡ x
slot_is {S} c r f x y e h = first_is (f, y) (f, x) (rest c) r (sym h ∙ e)

pub after_exchange : {S V : Type 0} (m w w' : Me S V) (v : V) (f : ℕ) (x y : S) → m.1 ≡ [] → w ≡ (v, (f, x) ∷ m.1) → w' ≡ (w.0, (f, y) ∷ rest w.1) → w' ≡ (v, (f, y) ∷ [])
after_exchange {S} {V} m w w' v f x y none e h = h ∙ (ap (λ (u : Me S V). (u.0, (f, y) ∷ rest u.1)) e ∙ ap (λ (l : List (ℕ × S)). (v, (f, y) ∷ l)) none)
