-- What taking out the first of equal members is, by where it stands.
use Rattle.std.proofs.Common.{◌≡◌, ℕ, ◌==◌, ◌∙◌, List, ap, sym, Some, None, get_or, arith}
use Rattle.std.proofs.lemmas.Bool.Decides.{nat_tests}
use Rattle.std.specs.Option.{option_map_or}
use Rattle.std.specs.List.{position, swap_remove}
use Rattle.std.proofs.lemmas.List.Quantifiers.{position-Some}
use Rattle.ck_history.specs.declared.edit.EditReply.{EditReply}
use Rattle.ck_history.specs.declared.edit.EditReply.TheVariants.{Dropped, Missing}
use Rattle.ck_history.specs.Lists.{drop_member}

module _ (xs : List ℕ) (v : ℕ) where
  -- the member is absent
  pub dropped_none : position (λ x. x == v) xs ≡ None → drop_member xs v ≡ (xs, Missing)
  dropped_none is = ap (λ r. option_map_or {U = List ℕ × EditReply} (λ at. (swap_remove xs at v, Dropped)) r (xs, Missing)) is

  -- it is taken from there, and is y
  pub dropped_at : (at y : ℕ) → position (λ x. x == v) xs ≡ Some at → y ≡ get_or xs at y → drop_member xs v ≡ (swap_remove xs at y, Dropped)
  dropped_at at y is taken =
      let equal = position-Some (λ x. x == v) xs at y is in
      let there = equal.1 in
      let same : y ≡ v = grind (arith, nat_tests, there, taken) in
      ap (λ r. option_map_or {U = List ℕ × EditReply} (λ at. (swap_remove xs at v, Dropped)) r (xs, Missing)) is ∙ ap (λ w. (swap_remove xs at w, Dropped)) (sym same)
