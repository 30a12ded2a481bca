-- The map that the writer's own lists hold.
use Rattle.std.specs.Prelude.{◌≡◌, ℕ, ◌<◌, Some, None}
use Rattle.std.specs.Ordering.{nat_cmp}
use Rattle.ck_history.specs.Key.{IsKey, number_of_words}
use Rattle.ck_history.specs.Map.{Map, IsMap, find}
use Rattle.ck_slots.specs.Slots.{SlotsView}

-- the number of the key of a slot
abbrev pub key_in : SlotsView → ℕ → ℕ
key_in v s = number_of_words (v.high s) (v.low s)

-- each key of the map is one
abbrev pub HasKeys : Map ℕ → Type 0
HasKeys m = (k x : ℕ) → find nat_cmp m k ≡ Some x → IsKey k

-- the full ones among the first n slots hold the pairs of this map, and no others
pub record HoldsMap (v : SlotsView) (n : ℕ) (m : Map ℕ) : Type 0 where
  pub sorted : IsMap nat_cmp m
  pub keys : HasKeys m
  pub full : (s : ℕ) → s < n → v.state s ≡ 1 → find nat_cmp m (key_in v s) ≡ Some (v.value s)
  pub none : (k : ℕ) → ((s : ℕ) → s < n → v.state s ≡ 1 → key_in v s ≡ k → ⊥) → find nat_cmp m k ≡ None

-- these pairs are of the map, and those of the first i slots are among them
pub record AreGathered (v : SlotsView) (m : Map ℕ) (i : ℕ) (some : Map ℕ) : Type 0 where
  pub sorted : IsMap nat_cmp some
  pub of_map : (k x : ℕ) → find nat_cmp some k ≡ Some x → find nat_cmp m k ≡ Some x
  pub all : (s : ℕ) → s < i → v.state s ≡ 1 → find nat_cmp some (key_in v s) ≡ Some (v.value s)
