-- Where the words of an array lie: the root, which is the place of the present region's first word, and an arena in which regions are
-- pieces. A region's first word is how many members it has, and they follow.
use Rattle.std.specs.Prelude.{◌≡◌, ℕ, zero, suc, ◌+◌, ◌-◌, ◌^◌, ◌<◌, ◌≤◌, min, cond, nat_lt, List, length, slice_index, All}
use Rattle.ck_history.specs.declared.edit.TheConstants.{MOST_MEMBERS}
use Rattle.ck_epoch.specs.declared.item.Item.{Item}
use Rattle.ck_epoch.specs.State.{Retirement}
use Rattle.ck_epoch.specs.Within.{item_from}
use Rattle.ck_reclaim.specs.Pieces.{AreApart}
use Rattle.ck_arraylaw.specs.declared.client.TheConstants.{ARENA, ARENA_LOG, LEAST_LOG}

-- how many words an array has
abbrev pub array_words : ℕ
array_words = ARENA + 2 ^ ARENA_LOG

-- the least number from l on of which the power of two is above n, but at most `more` above l
abbrev pub log_from : ℕ → ℕ → ℕ → ℕ
log_from zero l n = l
log_from (suc more) l n = cond (nat_lt n (2 ^ l)) l (log_from more (suc l) n)

-- a region for n members has the least power of two of words that holds them and one word more, and no fewer than 8; n is at most 4096
abbrev pub log_for : ℕ → ℕ
log_for n = log_from 10 LEAST_LOG n

-- the region at opening
abbrev pub first_region : Item
first_region = record { at = ARENA; log = LEAST_LOG }

-- the region lies in the arena
pub record IsRegion (region : Item) : Type 0 where
  pub low : ARENA ≤ region.at
  pub high : region.at + 2 ^ region.log ≤ array_words

-- the place that a reader goes to for this root, and how many members it loads where it found the number n there. In a true run neither is
-- cut short
abbrev pub region_at : ℕ → ℕ
region_at root = min root (array_words - 1)

abbrev pub members_at : ℕ → ℕ → ℕ
members_at at n = min (min n MOST_MEMBERS) (array_words - 1 - at)

-- The array's words begin at `base`. The region has these members, of which the first i are stored
pub record HoldsFirst (base : ℕ) (words : List ℕ) (region : Item) (members : List ℕ) (i : ℕ) : Type 0 where
  pub count : slice_index words (base + region.at) ≡ length members
  pub member : (j : ℕ) → j < i → slice_index words (base + region.at + 1 + j) ≡ slice_index members j

-- the region has these members, and room for them
pub record HoldsList (base : ℕ) (words : List ℕ) (region : Item) (members : List ℕ) : Type 0 where
  pub all : HoldsFirst base words region members (length members)
  pub room : length members < 2 ^ region.log

-- An item of the domain's is placed from the first word of its client on, and the array's words begin at `place` there. It is of the array
abbrev pub IsArrayItem : ℕ → Item → Type 0
IsArrayItem place i = (place ≤ i.at) × (i.at < place + array_words)

-- The region is in the arena and shares no word with the present one, nor with an item of the array's that is pending
pub record IsFreeRegion (place : ℕ) (present region : Item) (pending : List Retirement) : Type 0 where
  pub inside : IsRegion region
  pub apart : AreApart (item_from place present) (item_from place region)
  pub unused : All (λ (k : Retirement). IsArrayItem place k.retired.item → AreApart k.retired.item (item_from place region)) pending
