-- How much room the updates of a job ask for.
use Rattle.std.specs.Prelude.{◌≡◌, ℕ, nat_eq, List, [], ◌∷◌, ◌++◌, length, is_some}
use Rattle.std.specs.List.{list_any}
use Rattle.std.specs.Ordering.{nat_cmp}
use Rattle.ck_history.specs.declared.update.Update.{Update}
use Rattle.ck_history.specs.declared.update.Update.TheVariants.{Set, Put, Del, Tidy}
use Rattle.ck_history.specs.Map.{Map, find, after}
use Rattle.ck_htlaw.specs.Actions.{most}
use Rattle.ck_ht.specs.Room.{HasRoomFor}

module _ {K : Type 0} where
  -- the key of which an update can add a pair, if there is one
  abbrev pub brought_by : Update K → List K
  brought_by (Set key value) = key ∷ []
  brought_by (Put key value) = key ∷ []
  brought_by (Del key) = []
  brought_by Tidy = []

  -- the keys of which these updates can add pairs, in order
  abbrev pub brought : List (Update K) → List K
  brought [] = []
  brought (u ∷ us) = brought_by u ++ brought us

-- how many pairs the map of a table has after the first p updates
abbrev pub pairs_after : List (Update ℕ) → ℕ → ℕ
pairs_after us p = length (after nat_cmp most us p)

-- up to so many pairs, a bound on them does
abbrev pub most_bounded : ℕ
most_bounded = 65536

-- these are the keys of the map's pairs
abbrev pub AreKeysOf : List ℕ → Map ℕ → Type 0
AreKeysOf keys m = (q : ℕ) → list_any (nat_eq q) keys ≡ is_some (find nat_cmp m q)

-- an arena of 2 ^ log words has room for the map after each number of these updates
abbrev pub HasRoomThroughout : ℕ → List (Update ℕ) → Type 0
HasRoomThroughout log us = (p : ℕ) → HasRoomFor log (pairs_after us p)
