-- Lists of places.
use Rattle.std.specs.Prelude.{ℕ, zero, suc, List, [], ◌∷◌}

-- n places, from the number i on
abbrev pub places_from : (ℕ → ℕ) → ℕ → ℕ → List ℕ
places_from place i zero = []
places_from place i (suc n) = place i ∷ places_from place (suc i) n
