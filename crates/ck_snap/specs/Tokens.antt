-- What contracts see of a dictionary, its writer and its passes.
use Rattle.std.specs.Prelude.{◌≡◌, ℕ, ◌<◌, ◌+◌, List, [], ◌∷◌, ◌++◌, length, Option, Some, None}
use mathlib.Core.List.{IsPrefix}
use Rattle.std.specs.Ordering.{nat_cmp}
use Rattle.atomic_table.specs.Seated.{TableId}
use Rattle.logbook.specs.Pages.{Book}
use Rattle.ck_history.specs.declared.log.Look.{Look}
use Rattle.ck_history.specs.declared.log.Look.TheVariants.{Found, Absent}
use Rattle.ck_history.specs.declared.log.Placed.{Placed}
use Rattle.ck_history.specs.declared.update.Update.{Update}
use Rattle.ck_history.specs.declared.update.Reply.{Reply}
use Rattle.ck_history.specs.Map.{find, step}
use Rattle.ck_history.specs.declared.event.WriterEvent.TheVariants.{Updated}
use Rattle.ck_snap.specs.Log.{Log, most_pairs, map_after, AreReplies}
use Rattle.ck_snap.specs.Places.{Writing, Reading, log_of_events, answers_at, ArePlacedIn}

-- which dictionary something belongs to: that of this log and these journals
pub record Origin : Type 0 where
  pub log : Book
  pub journals : TableId

-- a dictionary: which one it is, and for how many readers
pub record Dictionary : Type 0 where
  pub origin : Origin
  pub readers : ℕ

-- the writer: its dictionary, what was done with it, the updates that readers see from now on, and the number of its counted calls
pub record WriterView : Type 0 where
  pub origin : Origin
  pub done : Writing
  pub published : Log
  pub calls : ℕ

-- a pass: its dictionary and its number there, the part of the log that it has seen, what was done with it with the places of its answers,
-- and the numbers of its ruled enters and of its counted calls
pub record PassView : Type 0 where
  pub origin : Origin
  pub number : ℕ
  pub seen : Log
  pub done : Reading
  pub places : List ℕ
  pub enters : ℕ
  pub calls : ℕ

-- the writer's answered updates
abbrev pub log : WriterView → Log
log w = log_of_events w.done

-- the pass's answered look-ups
abbrev pub mine : PassView → List (Placed ℕ)
mine p = answers_at p.done p.places

-- both were made with one dictionary
abbrev pub IsWriterOf : Dictionary → WriterView → Type 0
IsWriterOf d w = w.origin ≡ d.origin

pub record IsPassOf (d : Dictionary) (p : PassView) : Type 0 where
  pub made : p.origin ≡ d.origin
  pub number : p.number < d.readers

-- all answered updates are published, and each had the map's reply
pub record IsCurrent (w : WriterView) : Type 0 where
  pub published : w.published ≡ log w
  pub replies : AreReplies (log w)

-- the writer has made this update and was given the map's reply, and nothing else was done with it
pub record HasUpdated (old : WriterView) (u : Update ℕ) (new : WriterView) (r : Reply) : Type 0 where
  pub reply : r ≡ (step nat_cmp most_pairs (map_after (log old)) u).1
  pub appended : log new ≡ log old ++ record { update = u; reply = r } ∷ []
  pub writer : new ≡ record old { done = old.done ++ Updated u r ∷ []; published = log new; calls = old.calls + 1 }
  pub current : IsCurrent new

-- an answer as `look` gives it
abbrev pub look_of : Option ℕ → Look
look_of None = Absent
look_of (Some v) = Found v

-- what is found after all that the pass has seen
abbrev pub placed : PassView → ℕ → Placed ℕ
placed p k = record { key = k; answer = find nat_cmp (map_after p.seen) k; place = length p.seen }

-- a writer with which nothing was done
abbrev pub fresh_writer : Dictionary → WriterView
fresh_writer d = record { origin = d.origin; done = []; published = []; calls = 0 }

-- a pass with which nothing was done, and that has seen nothing
abbrev pub fresh_pass : Dictionary → ℕ → PassView
fresh_pass d n = record { origin = d.origin; number = n; seen = []; done = []; places = []; enters = 0; calls = 0 }

-- such passes, numbered from n in order
abbrev pub AreFreshSnapPasses : Dictionary → ℕ → List PassView → Type 0
AreFreshSnapPasses d n [] = Unit {0}
AreFreshSnapPasses d n (p ∷ ps) = (p ≡ fresh_pass d n) × AreFreshSnapPasses d (n + 1) ps

-- Both calls are counted. The pass has seen the writer's whole log, and what it had seen before is a prefix of that
pub record IsTied (w : WriterView) (p : PassView) (w' : WriterView) (p' : PassView) : Type 0 where
  pub prefix : IsPrefix p.seen (log w)
  pub writer : w' ≡ record w { calls = w.calls + 1 }
  pub current : IsCurrent w'
  pub pass : p' ≡ record p { seen = log w; enters = p'.enters; calls = p.calls + 1 }
  pub enters : p.enters < p'.enters
  pub placed : ArePlacedIn (log w) p.done p.places
