-- The map that one thread would keep: its updates, their replies, and the map after some of them.
use Rattle.std.specs.Prelude.{ℕ, List, [], ◌∷◌, length, take, if◌then◌else◌, nat_lt, Option}
use Rattle.std.specs.declared.cmp.Ordering.{Ordering}
use Rattle.std.specs.Option.{option_map_or}
use Rattle.std.specs.Map.{lookup, remove_entry, keys_of}
use Rattle.std.specs.BTreeMap.{is_at, insert_entry}
use Rattle.std.specs.List.Sorted.{IsStrictlySortedBy}
use Rattle.ck_history.specs.declared.update.Update.{Update}
use Rattle.ck_history.specs.declared.update.Update.TheVariants.{Set, Put, Del, Tidy}
use Rattle.ck_history.specs.declared.update.Reply.{Reply}
use Rattle.ck_history.specs.declared.update.Reply.TheVariants.{Fresh, Was, Has, Missing, Tidied, Full}

-- A map is a list of pairs of a key and its value ..
abbrev pub Map : Type 0 → Type 0
Map K = List (K × ℕ)

-- the map of at most `most` pairs whose keys are ordered by cmp
module _ {K : Type 0} (cmp : K → K → Ordering) where
  -- .. in which each key is below those after it
  abbrev pub IsMap : Map K → Type 0
  IsMap m = IsStrictlySortedBy cmp (keys_of m)

  -- the value that stands beside the key, or none
  abbrev pub find : Map K → K → Option ℕ
  find m k = lookup (is_at (cmp k)) m

  module _ (most : ℕ) where
    -- a pair whose key is absent is added at its place, unless the map is full
    abbrev pub add : Map K → K → ℕ → Map K × Reply
    add m k x = if nat_lt (length m) most then (insert_entry cmp m k x, Fresh) else (m, Full)

    -- one update: the map after it, and its reply
    abbrev pub step : Map K → Update K → Map K × Reply
    step m (Set k x) = option_map_or (λ v. (insert_entry cmp m k x, Was v)) (find m k) (add m k x)
    step m (Put k x) = option_map_or (λ v. (m, Has v)) (find m k) (add m k x)
    step m (Del k) = option_map_or (λ v. (remove_entry (is_at (cmp k)) m, Was v)) (find m k) (m, Missing)
    step m Tidy = (m, Tidied)

    -- the map after updates to m
    abbrev pub after_from : Map K → List (Update K) → Map K
    after_from m [] = m
    after_from m (u ∷ us) = after_from (step m u).0 us

    -- the replies of updates to m, in order
    abbrev pub replies_from : Map K → List (Update K) → List Reply
    replies_from m [] = []
    replies_from m (u ∷ us) = (step m u).1 ∷ replies_from (step m u).0 us

    -- the map after the first p updates, from the empty map on
    abbrev pub after : List (Update K) → ℕ → Map K
    after us p = after_from [] (take p us)

    -- what a look-up of the key finds after the first p updates
    abbrev pub answer_after : List (Update K) → ℕ → K → Option ℕ
    answer_after us p k = find (after us p) k

    -- the replies of the updates, from the empty map on
    abbrev pub replies : List (Update K) → List Reply
    replies us = replies_from [] us
