-- What is kept of the updates to find places by: the places at which keys were touched.
use Rattle.std.specs.Prelude.{◌≡◌, ℕ, ◌+◌, ◌<◌, ◌≤◌, ◌⊎◌, List, [], ◌∷◌, ◌++◌, Option, Some, None}
use Rattle.std.specs.declared.cmp.Ordering.{Ordering}
use Rattle.std.specs.declared.cmp.Ordering.TheVariants.{Equal}
use Rattle.std.specs.List.{All, Contains}
use Rattle.ck_history.specs.declared.update.Update.{Update}
use Rattle.ck_history.specs.declared.update.Update.TheVariants.{Set, Put, Del, Tidy}
use Rattle.ck_history.specs.Map.{Map, find, step}
use Rattle.ck_judge.specs.declared.changes.Change.{Change}

-- the key of an update, if it has one
abbrev pub update_key : {K : Type 0} → Update K → Option K
update_key (Set k x) = Some k
update_key (Put k x) = Some k
update_key (Del k) = Some k
update_key Tidy = None

-- what a key has after the update that follows `place` others, if the update has a key
abbrev pub changes_at : {K : Type 0} → Option K → ℕ → Option ℕ → List (Change K)
changes_at None place value = []
changes_at (Some k) place value = record { key = k; place = place + 1; value = value } ∷ []

module _ {K : Type 0} (cmp : K → K → Ordering) where
  module _ (most : ℕ) where
    -- what the key has after one update to m, which is the one after `place` others
    abbrev pub change_by : Map K → ℕ → Update K → K → Change K
    change_by m place u k = record { key = k; place = place + 1; value = find cmp (step cmp most m u).0 k }

    -- what an update touches: its key, if it has one
    abbrev pub touched_by : Map K → ℕ → Update K → List (Change K)
    touched_by m place (Set k x) = change_by m place (Set k x) k ∷ []
    touched_by m place (Put k x) = change_by m place (Put k x) k ∷ []
    touched_by m place (Del k) = change_by m place (Del k) k ∷ []
    touched_by m place Tidy = []

    -- what updates to m touch, in order, where `place` updates stand before them
    abbrev pub changes_from : Map K → ℕ → List (Update K) → List (Change K)
    changes_from m place [] = []
    changes_from m place (u ∷ us) = touched_by m place u ++ changes_from (step cmp most m u).0 (place + 1) us

  -- entries of a list, read by `key_of` and `place_of`
  module _ {E : Type 0} (key_of : E → K) (place_of : E → ℕ) where
    -- there is an entry of this key and place
    pub record HasEntry (entries : List E) (p : ℕ) (k : K) : Type 0 where
      pub entry : E
      pub there : Contains entries entry
      pub key : cmp k (key_of entry) ≡ Equal
      pub place : place_of entry ≡ p

    -- .. and by `value_of`, where `gives p k` is what the key k has after p of `count` updates
    module _ (value_of : E → Option ℕ) (count : ℕ) (gives : ℕ → K → Option ℕ) where
      -- the entry tells what its key has at its place
      pub record IsRightEntry (e : E) : Type 0 where
        pub within : place_of e ≤ count
        pub told : value_of e ≡ gives (place_of e) (key_of e)

      -- there is an entry wherever a key's value may change
      pub record AreEntries (entries : List E) : Type 0 where
        pub told : All IsRightEntry entries
        pub each : (p : ℕ) (k : K) → p < count → (gives (p + 1) k ≡ gives p k) ⊎ HasEntry entries (p + 1) k
        pub start : (k : K) → gives 0 k ≡ None
        pub alike : (p : ℕ) (j k : K) → cmp j k ≡ Equal → gives p j ≡ gives p k
