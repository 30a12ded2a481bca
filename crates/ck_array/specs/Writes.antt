-- The writer of an array between two calls, in a domain whose client holds the array; and what its calls put down.
use Rattle.std.specs.Prelude.{◌≡◌, ℕ, zero, suc, ◌+◌, ◌≤◌, List, [], ◌∷◌, ◌++◌, length, slice_index}
use Rattle.ck_run.specs.declared.account.Step.TheVariants.{Load, Store}
use Rattle.ck_run.specs.declared.account.Entry.{Entry}
use Rattle.ck_run.specs.Run.{entry, further, handing}
use Rattle.ck_words.specs.Buddies.{Arena, Piece, piece}
use Rattle.ck_history.specs.declared.edit.Edit.{Edit}
use Rattle.ck_history.specs.declared.edit.Edit.TheVariants.{Add, Drop, Commit}
use Rattle.ck_history.specs.Lists.{empty_lists, lists_after_from}
use Rattle.ck_epoch.specs.declared.item.Item.{Item}
use Rattle.ck_epoch.specs.State.{Origin, Token, state}
use Rattle.ck_epoch.specs.Ends.{Writer}
use Rattle.ck_arena.specs.Arena.{IsKept, unreturned}
use Rattle.ck_arraylaw.specs.declared.client.TheConstants.{ARENA, ARENA_LOG, LEAST_LOG}
use Rattle.ck_arraylaw.specs.Calls.{add, drop_one, commit}
use Rattle.ck_arraylaw.specs.Host.{Host, base_word}
use Rattle.ck_arraylaw.specs.Layout.{IsArrayItem, IsRegion, IsFreeRegion}
use Rattle.ck_arraylaw.specs.Array.{between_calls, filling, WriterState, writer, lists_of, region_by, MayWrite}
use Rattle.ck_arraylaw.specs.Client.{BeginsCommit}
use Rattle.ck_arraylaw.specs.Regions.{place_in}
use Rattle.ck_arraylaw.specs.Known.{knows}
use Rattle.ck_array.specs.declared.state.ArrayState.{ArrayState}

-- the name and the argument of the call that makes this edit
abbrev pub opens_of : Edit → List ℕ
opens_of (Add v) = add ∷ v ∷ []
opens_of (Drop v) = drop_one ∷ v ∷ []
opens_of Commit = commit ∷ []

-- a writer between two calls that answered these edits, and whose present region is this
abbrev pub idle : List Edit → Item → WriterState
idle log region = record { log = log; region = region; stage = between_calls }

-- the same writer within a commit, with the length and the first i members stored in a new region
abbrev pub filling_by : List Edit → Item → Item → ℕ → WriterState
filling_by log region new i = record { log = log; region = region; stage = filling new i }

-- the stores of the first i members, from this word on
abbrev pub member_stores : ℕ → List ℕ → ℕ → List Entry
member_stores word members zero = []
member_stores word members (suc i) = member_stores word members i ++ further (Store (word + i) (slice_index members i)) ∷ []

-- a region is a piece of the arena
abbrev pub region_piece : Item → Piece
region_piece region = piece region.at region.log

-- the arena is that of an array
pub record IsArenaOfArray (a : Arena) : Type 0 where
  pub first : a.first ≡ ARENA
  pub long : a.log_len ≡ ARENA_LOG
  pub least : a.log_min ≡ LEAST_LOG

-- a region of the most members has so many words, as a logarithm
abbrev pub largest_log : ℕ
largest_log = 13

module _ {D : Type 0} (h : Host D) (o : Origin D) where
  -- What a commit puts down and hands over: the number of members and the members go into the new region, then the root into its word, and then
  -- the old region is retired
  abbrev pub commit_entries : List ℕ → Item → Item → ℕ → List Entry
  commit_entries members new old epoch =
      entry (commit ∷ []) (Store (base_word h o + new.at) (length members)) ∷ (member_stores (base_word h o + new.at + 1) members (length members) ++ further (Store (base_word h o) new.at) ∷ handing [] ((place_in h o + old.at) ∷ old.log ∷ []) (Load 0 epoch) ∷ [])

  -- The array's word `at` is the one in which the writer stores this number next, by a step that puts this down. A region that it takes by that is
  -- free by its own account
  pub record IsStoreDue (t : Token D) (opens : List ℕ) (at x : ℕ) : Type 0 where
    pub stands : WriterState
    pub local : knows h o t ≡ writer stands
    pub due : MayWrite (base_word h o) stands opens stands.stage (Store (base_word h o + at) x)
    pub free : BeginsCommit stands.stage opens → IsFreeRegion (place_in h o) stands.region (region_by (base_word h o) (length (lists_of stands).pending) (Store (base_word h o + at) x)) (state t).pending

  -- The state is what the writer's calls have left of it, by its account. The arena is the array's, and what is out of it is the present region,
  -- and each item of the array's that isn't given back
  pub record IsReady {F : Type 0} (w : Writer D F) (s : ArrayState) : Type 0 where
    pub log : List Edit
    pub local : knows h o w.token ≡ writer (idle log s.region)
    pub lists : s.lists ≡ lists_after_from empty_lists log
    pub inside : IsRegion s.region
    pub short : s.region.log ≤ largest_log
    pub arena : IsArenaOfArray s.arena
    pub kept : IsKept (IsArrayItem (place_in h o)) (place_in h o) (region_piece s.region) (unreturned (state w.token) w.waiting) s.arena
