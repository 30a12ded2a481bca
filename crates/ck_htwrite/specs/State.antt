-- What the writer's own lists say of its account.
use Rattle.std.specs.Prelude.{◌≡◌, ℕ, ◌+◌, ◌*◌, ◌-◌, ◌/◌, ◌^◌, ◌<◌, ◌≤◌, List, length, slice_index, min, vec_capacity}
use Rattle.ck_epoch.specs.State.{Origin, Token, state}
use Rattle.ck_epoch.specs.Ends.{Writer}
use Rattle.ck_slots.specs.Counting.{count as how_many}
use Rattle.ck_htplan.specs.Region.{view_of}
use Rattle.ck_htlaw.specs.Host.{Host, lies}
use Rattle.ck_htlaw.specs.Stages.{idle}
use Rattle.ck_htlaw.specs.Layout.{arena, arena_words, at_of, log_of}
use Rattle.ck_htlaw.specs.Table.{Layout, WriterState}
use Rattle.ck_htlaw.specs.Known.{IsRoot, knows}
use Rattle.ck_htwrite.specs.declared.state.HtState.{HtState}
use Rattle.ck_htwrite.specs.Writes.{counters_in, WriterIs}
use Rattle.ck_arena.specs.Arena.{unreturned}
use Rattle.ck_htwrite.specs.Arena.{IsKept}

-- of a table with so many counters
module _ (counters : ℕ) where
  -- the number of a region's counter, and what the next bump stores in that of the present one
  abbrev pub counter_at : ℕ → ℕ
  counter_at root = (at_of root - arena counters) / 32

  abbrev pub next_count : HtState → ℕ
  next_count s = slice_index s.counters.items (counter_at s.root) + 1

  -- the words of the largest region: none has more than 2^19 slots
  abbrev pub most_words : ℕ
  most_words = min (arena_words counters) (2 ^ 21)

  -- the lists are as long as they are to be, and there is room for the words of two regions of any length
  pub record IsShaped (s : HtState) : Type 0 where
    pub is_root : IsRoot counters s.root
    pub long : length s.words.items ≡ 2 ^ (log_of s.root + 2)
    pub many : length s.counters.items ≡ counters
    pub small : counters ≤ 2 ^ 19
    pub room : most_words ≤ vec_capacity s.words
    pub other_room : most_words ≤ vec_capacity s.spare

  -- The lists have of the region that they name the states of all slots, and all words of its full slots; the counters of all regions; and how
  -- many of the region's slots are full and how many are tombstones. Of the other words nothing is told: in a region that was taken again they
  -- are from an earlier use
  pub record Mirrors (l : Layout) (ws : List ℕ) (s : HtState) : Type 0 where
    pub shape : IsShaped s
    pub states : (i : ℕ) → i < 2 ^ log_of s.root → (view_of s.words.items).state i ≡ slice_index ws (l.word s.root i 0)
    pub pairs : (i j : ℕ) → i < 2 ^ log_of s.root → j < 4 → (view_of s.words.items).state i ≡ 1 → slice_index s.words.items (4 * i + j) ≡ slice_index ws (l.word s.root i j)
    pub fits : l.base + l.size ≤ length ws
    pub counts : (i : ℕ) → i < counters → slice_index s.counters.items i ≡ slice_index ws (l.base + 1 + i)
    pub keys : s.keys ≡ how_many (view_of s.words.items).state 1 (2 ^ log_of s.root)
    pub tombstones : s.tombstones ≡ how_many (view_of s.words.items).state 2 (2 ^ log_of s.root)

  -- The lists have the words of the present region as the writer's own stores left them, whatever step is next
  pub record Reflects (l : Layout) (p : WriterState) (s : HtState) : Type 0 where
    pub root : p.root ≡ s.root
    pub mirrors : Mirrors l p.words s
    -- no counter is above the number of bumps
    pub bumped : (i : ℕ) → slice_index s.counters.items i ≤ p.bumps
    pub hole : (e : ℕ) × (e < 2 ^ log_of s.root) × ((view_of s.words.items).state e ≡ 0)

module _ {D : Type 0} (h : Host D) (o : Origin D) where
  -- the writer is between two calls, with these lists
  pub record IsReady (t : Token D) (s : HtState) : Type 0 where
    pub is_writer : WriterState
    pub is : WriterIs h o t is_writer
    pub idles : is_writer.stage ≡ idle
    pub reflects : Reflects (counters_in h o) (lies h o) is_writer s

  -- The same of the writer's end, whose tally is the length of the log. What is free in the arena is no word of the present region, nor of a
  -- region that was retired and isn't given back
  pub record Ready {F : Type 0} (w : Writer D F) (s : HtState) : Type 0 where
    pub lists : IsReady w.token s
    pub arena : IsKept (counters_in h o) (h.place o.config.client) s.root (unreturned (state w.token) w.waiting) s.arena
    pub tally : w.tally ≡ length (knows h o w.token).log
    pub few : w.tally ≤ w.calls
