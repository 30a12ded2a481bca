-- Where a key is among sorted pairs, or where its pair would go.
use Rattle.std.specs.Prelude.{◌≡◌, ℕ, zero, suc, [], ◌∷◌}
use Rattle.std.specs.declared.cmp.Ordering.{Ordering}
use Rattle.std.specs.declared.cmp.Ordering.TheVariants.{Less, Equal, Greater}
use Rattle.ck_history.specs.Map.{Map}

module _ {K : Type 0} (cmp : K → K → Ordering) (k : K) where
  -- the key at this index is equal to k, and those before it are below k
  abbrev pub StandsAt : Map K → ℕ → Type 0
  StandsAt [] at = ⊥
  StandsAt (e ∷ m) zero = cmp k e.0 ≡ Equal
  StandsAt (e ∷ m) (suc at) = (cmp k e.0 ≡ Greater) × StandsAt m at

  -- the key at this index, if there is one, is above k, and those before it are below k
  abbrev pub BelongsAt : Map K → ℕ → Type 0
  BelongsAt [] zero = Unit {0}
  BelongsAt [] (suc at) = ⊥
  BelongsAt (e ∷ m) zero = cmp k e.0 ≡ Less
  BelongsAt (e ∷ m) (suc at) = (cmp k e.0 ≡ Greater) × BelongsAt m at
