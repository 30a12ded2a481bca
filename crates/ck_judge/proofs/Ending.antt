-- Where a search among sorted entries ends, by the entries on both sides.
use Rattle.std.proofs.Common.{◌≡◌, ℕ, ◌-◌, ◌≤◌, Bool, true, false, List, length, get_or, refl, ap, sym, ◌∙◌, arith, true≢false}
use Rattle.std.specs.declared.cmp.Ordering.{Ordering}
use Rattle.std.specs.declared.cmp.Ordering.TheVariants.{Less, Equal, Greater}
use Rattle.std.specs.Ordering.{ordering_reverse, is_lt}
use Rattle.std.specs.Cmp.{IsTotalOrder}
use Rattle.std.specs.List.Sorted.{IsSorted}
use Rattle.std.proofs.lemmas.List.Sorted.{sorted_far, ranks_by}
use Rattle.ck_judge.specs.Searches.{EndsAt, EndsFrom, EndsUpTo}

-- what isn't above an element below x is below x
pub below_too : {T : Type 0} {R : T → T → Ordering} (total : IsTotalOrder R) (a b x : T) → is_lt (R b a) ≡ false → is_lt (R b x) ≡ true → is_lt (R a x) ≡ true
below_too {T} {R} total a b x not below = by_order (R b a) refl not
  where
    less : (r : Ordering) → is_lt r ≡ true → r ≡ Less
    less Less e = refl
    less Equal e = absurd (true≢false (sym e))
    less Greater e = absurd (true≢false (sym e))

    by_order : (r : Ordering) → R b a ≡ r → is_lt r ≡ false → is_lt (R a x) ≡ true
    by_order Less e not = absurd (true≢false not)
    by_order Equal e not = ap is_lt (sym (total.congr b a x e)) ∙ below
    by_order Greater e not = ap is_lt (total.trans a b x (total.antisymm a b ∙ ap ordering_reverse e) (less (R b x) below))

module _ {T : Type 0} {R : T → T → Ordering} (total : IsTotalOrder R) (xs : List T) (x : T) where
  not_below_too : (a b : T) → is_lt (R b a) ≡ false → is_lt (R a x) ≡ false → is_lt (R b x) ≡ false
  not_below_too a b not above = by_test (is_lt (R b x)) refl
    where
      by_test : (t : Bool) → is_lt (R b x) ≡ t → is_lt (R b x) ≡ false
      by_test true e = absurd (true≢false (sym (below_too total a b x not e) ∙ above))
      by_test false e = e

  pub ends_between : IsSorted R xs → (at : ℕ) → at ≤ length xs → EndsFrom R xs x at → EndsUpTo R xs x at → EndsAt R xs x at
  ends_between sorted at bound below above =
      let far = sorted_far (λ y z. is_lt (R y z)) (ranks_by total (λ y. y)) xs sorted in
      record {
        bound = bound;
        below = λ i d lt.
            let not = far i (at - 1) d (omega arith) (omega arith) in
            (below_too total (get_or xs i d) (get_or xs (at - 1) d) x not (below d (omega arith) bound), not);
        above = λ i d from within.
            let not = far at i d from within in
            (not_below_too (get_or xs at d) (get_or xs i d) not (above d (omega arith)), not);
      }
