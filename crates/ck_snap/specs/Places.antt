-- What was done with the tokens of a dictionary, and the places of a pass's answers in the log.
use Rattle.std.specs.Prelude.{ℕ, List, [], ◌∷◌, length, Option}
use Rattle.std.specs.Ordering.{nat_cmp}
use Rattle.ck_history.specs.declared.event.WriterEvent.{WriterEvent}
use Rattle.ck_history.specs.declared.event.WriterEvent.TheVariants.{Updated, Told}
use Rattle.ck_history.specs.declared.event.ReaderEvent.{ReaderEvent}
use Rattle.ck_history.specs.declared.event.ReaderEvent.TheVariants.{Answered, Reached}
use Rattle.ck_history.specs.declared.log.Placed.{Placed}
use Rattle.ck_history.specs.declared.update.Update.{Update}
use Rattle.ck_history.specs.declared.update.Reply.{Reply}
use Rattle.ck_history.specs.Map.{answer_after}
use Rattle.ck_history.specs.Places.{ArePlacedAt}
use Rattle.ck_snap.specs.Log.{Log, most_pairs, updates}

-- what was done with the writer, and with a pass
abbrev pub Writing : Type 0
Writing = List (WriterEvent (Update ℕ) Reply)

abbrev pub Reading : Type 0
Reading = List (ReaderEvent ℕ (Option ℕ))

-- the answered updates among events, in order
abbrev pub log_of_events : Writing → Log
log_of_events [] = []
log_of_events (Updated u r ∷ es) = record { update = u; reply = r } ∷ log_of_events es
log_of_events (Told reader k ∷ es) = log_of_events es

-- the answered look-ups among events, in order, with their places
abbrev pub answers_at : Reading → List ℕ → List (Placed ℕ)
answers_at [] ps = []
answers_at (Answered k a ∷ es) [] = []
answers_at (Answered k a ∷ es) (p ∷ ps) = record { key = k; answer = a; place = p } ∷ answers_at es ps
answers_at (Reached n result ∷ es) ps = answers_at es ps

-- The answers are those of the map after as many updates of the log as their places say. Places don't fall, none is below what a `reached`
-- before it told, and what was told is at most the length of the log
abbrev pub ArePlacedIn : Log → Reading → List ℕ → Type 0
ArePlacedIn log es ps = ArePlacedAt (length log) (answer_after nat_cmp most_pairs (updates log)) 0 es ps
