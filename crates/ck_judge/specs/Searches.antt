-- How entries are sorted, and where a search among them ends.
use Rattle.std.specs.Prelude.{◌≡◌, ℕ, ◌-◌, ◌<◌, ◌≤◌, true, false, List, length, slice_index_or}
use Rattle.std.specs.declared.cmp.Ordering.{Ordering}
use Rattle.std.specs.Ordering.{nat_cmp, ordering_then, is_lt}
use Rattle.std.specs.Option.{option_cmp}
use Rattle.ck_judge.specs.declared.changes.Change.{Change}
use Rattle.ck_judge.specs.declared.changes.Given.{Given}

module _ {K : Type 0} (cmp : K → K → Ordering) where
  -- by key, and then by place
  abbrev pub change_cmp : Change K → Change K → Ordering
  change_cmp c d = ordering_then (cmp c.key d.key) (ordering_then (nat_cmp c.place d.place) (option_cmp nat_cmp c.value d.value))

  -- by key, then by value and then by place
  abbrev pub given_cmp : Given K → Given K → Ordering
  given_cmp c d = ordering_then (cmp c.key d.key) (ordering_then (option_cmp nat_cmp c.value d.value) (nat_cmp c.place d.place))

-- The entries before `at` are below the target and not above the last of them; those from there on aren't below the target nor below the first of
-- them. An index past the end reads as the default
pub record EndsAt {E : Type 0} (order : E → E → Ordering) (entries : List E) (target : E) (at : ℕ) : Type 0 where
  pub bound : at ≤ length entries
  pub below : (i : ℕ) (d : E) → i < at → (is_lt (order (slice_index_or entries i d) target) ≡ true) × (is_lt (order (slice_index_or entries (at - 1) d) (slice_index_or entries i d)) ≡ false)
  pub above : (i : ℕ) (d : E) → at ≤ i → i < length entries → (is_lt (order (slice_index_or entries i d) target) ≡ false) × (is_lt (order (slice_index_or entries i d) (slice_index_or entries at d)) ≡ false)

module _ {E : Type 0} (order : E → E → Ordering) (entries : List E) (target : E) where
  -- a search for the target ends at this index or after it: the entry before it is below the target
  abbrev pub EndsFrom : ℕ → Type 0
  EndsFrom from = (d : E) → 0 < from → from ≤ length entries → is_lt (order (slice_index_or entries (from - 1) d) target) ≡ true

  -- it ends there or before: the entry there isn't below the target
  abbrev pub EndsUpTo : ℕ → Type 0
  EndsUpTo to = (d : E) → to < length entries → is_lt (order (slice_index_or entries to d) target) ≡ false
