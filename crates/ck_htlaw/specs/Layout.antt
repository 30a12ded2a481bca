-- Where the words of a table lie: the root, the counters, and an arena with 32 words for each counter, in which regions are pieces.
use Rattle.std.specs.Prelude.{◌≡◌, ℕ, ◌+◌, ◌-◌, ◌*◌, ◌/◌, ◌%◌, ◌^◌, ◌<◌, ◌≤◌, List, [], ◌∷◌, All}
use Rattle.ck_slots.specs.Slots.{Order}
use Rattle.ck_epoch.specs.declared.item.Item.{Item}
use Rattle.ck_epoch.specs.State.{Retirement}
use Rattle.ck_reclaim.specs.Pieces.{AreApart}
use Rattle.ck_htlaw.specs.declared.client.HtClient.{HtClient}
use Rattle.ck_htlaw.specs.Table.{Layout}

-- how many counters a table has: its arena has 2 ^ arena_log words, or 32 where that is less
abbrev pub counters_of : HtClient → ℕ
counters_of client = 2 ^ (client.arena_log - 5)

-- with so many counters: where the arena begins among the words of the table, how long it is, and how many words the table has
abbrev pub arena : ℕ → ℕ
arena counters = 1 + counters

abbrev pub arena_words : ℕ → ℕ
arena_words counters = 32 * counters

abbrev pub table_words : ℕ → ℕ
table_words counters = arena counters + arena_words counters

-- a root is 32 * at + c, for a region of 2 ^ c slots that starts at the word `at` of the table
abbrev pub at_of : ℕ → ℕ
at_of root = root / 32

abbrev pub log_of : ℕ → ℕ
log_of root = root % 32

-- four words for each slot
abbrev pub words_of : ℕ → ℕ
words_of root = 4 * 2 ^ log_of root

-- For a table with so many counters whose words begin at `base`, among those of the domain's client, which begin at `floor`, with the probe
-- orders of its seed by the logarithm of the slots
abbrev pub layout : ℕ → ℕ → ℕ → (ℕ → Order) → Layout
layout floor base counters orders = record {
  floor = floor;
  base = base;
  size = table_words counters;
  slots_from = base + arena counters;
  order = λ root. orders (log_of root);
  word = λ root s j. base + at_of root + 4 * s + j;
  counter = λ root. base + 1 + (at_of root - arena counters) / 32;
  item = λ root. (base - floor + at_of root) ∷ (log_of root + 2) ∷ [];
}

-- the root names a piece of the arena, of 8 slots or more, whose place is a multiple of 32 from the arena's start
pub record IsPiece (counters root : ℕ) : Type 0 where
  pub some_lines : 3 ≤ log_of root
  pub low : arena counters ≤ at_of root
  pub high : at_of root + words_of root ≤ table_words counters
  pub aligned : 32 * ((at_of root - arena counters) / 32) ≡ at_of root - arena counters

-- A region as an item of the domain's. Items are placed from the first word of the domain's client on, and the table's words begin at `place`
abbrev pub region_item : ℕ → ℕ → Item
region_item place root = record { at = place + at_of root; log = log_of root + 2 }

-- the item is of the table's words
abbrev pub IsTableItem : ℕ → ℕ → Item → Type 0
IsTableItem counters place i = (place ≤ i.at) × (i.at < place + table_words counters)

-- The region is a piece of the arena that shares no word with the present region, nor with an item of the table's that is pending
pub record IsFreeRegion (counters place current root : ℕ) (pending : List Retirement) : Type 0 where
  pub piece : IsPiece counters root
  pub apart : AreApart (region_item place current) (region_item place root)
  pub unused : All (λ (k : Retirement). IsTableItem counters place k.retired.item → AreApart k.retired.item (region_item place root)) pending
