-- The shape of the writer's lists stays.
use Rattle.std.proofs.Common.{◌≡◌, ℕ, ◌+◌, ◌*◌, length-set, get_or-set_same, ap, ◌∙◌}
use Rattle.std.specs.Vec.{with_item}
use Rattle.ck_htwrite.specs.declared.state.HtState.{HtState}
use Rattle.ck_htwrite.specs.State.{IsShaped, counter_at, next_count}
use Rattle.ck_htwrite.specs.Updates.{bumped_lists, keyed_lists}
use Rattle.ck_htwrite.proofs.Slots.{counter_here}

module _ (n : ℕ) (s : HtState) (m : IsShaped n s) where
  pub shaped_word : (i value : ℕ) → IsShaped n (record s { words = with_item s.words i value })
  shaped_word i value = record { is_root = m.is_root; long = length-set s.words.items i value ∙ m.long; many = m.many; small = m.small; room = m.room; other_room = m.other_room }

  pub shaped_bump : IsShaped n (bumped_lists n s)
  shaped_bump = record { is_root = m.is_root; long = m.long; many = length-set s.counters.items (counter_at n s.root) (next_count n s) ∙ m.many; small = m.small; room = m.room; other_room = m.other_room }

  -- what a second bump stores
  pub bumped_again : next_count n (bumped_lists n s) ≡ next_count n s + 1
  bumped_again = ap (λ (k : ℕ). k + 1) (get_or-set_same s.counters.items (counter_at n s.root) (next_count n s) 0 (counter_here n s m))

pub shaped_keyed : (n : ℕ) (s : HtState) → IsShaped n s → (at key : ℕ) → IsShaped n (keyed_lists s at key)
shaped_keyed n s m at key = shaped_word n _ (shaped_word n _ (shaped_word n s m (4 * at + 1) _) (4 * at + 2) _) (4 * at + 0) 1
