-- What is known of the places of a job's answers, by the structure under the pool. A place is a number of updates.
use Rattle.std.specs.Prelude.{◌≡◌, ℕ, ◌+◌, List, [], ◌∷◌}
use Rattle.ck_history.specs.Places.{ArePlacedAt}
use Rattle.ck_pool.specs.Meaning.{EyeMeaning}

module _ {E A B : Type 0} (meaning : EyeMeaning E A B) where
  -- eyes with which nothing was done
  abbrev pub AreUnused : List E → Type 0
  AreUnused [] = Unit {0}
  AreUnused (e ∷ es) = (meaning.done e ≡ []) × AreUnused es

  -- There are `count` updates, and after p of them a query q has the answer `gives p q`. The answers of each eye are right at its places,
  -- which are `places f` of the first eye, and so on
  abbrev pub AllPlaced : ℕ → (ℕ → A → B) → (ℕ → List ℕ) → ℕ → List E → Type 0
  AllPlaced count gives places f [] = Unit {0}
  AllPlaced count gives places f (e ∷ es) = ArePlacedAt count gives 0 (meaning.done e) (places f) × AllPlaced count gives places (f + 1) es
