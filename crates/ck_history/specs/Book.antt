-- What a `Book` is seen as.
use Rattle.std.specs.Prelude.{ℕ}
use Rattle.ck_history.specs.Map.{Map}

-- how many pairs it may have, and the pairs that it has
pub record BookView (K : Type 0) : Type 0 where
  pub most : ℕ
  pub pairs : Map K
