-- The updates that have taken place by a moment, with their replies, and the map after them.
use Rattle.std.specs.Prelude.{◌≡◌, ℕ, cond, nat_lt, List, [], ◌∷◌, ◌++◌, map}
use Rattle.std.specs.Ordering.{nat_cmp}
use Rattle.ck_history.specs.declared.log.LogEntry.{LogEntry}
use Rattle.ck_history.specs.declared.update.Update.{Update}
use Rattle.ck_history.specs.declared.update.Update.TheVariants.{Set, Put, Del, Tidy}
use Rattle.ck_history.specs.Map.{Map, after_from, replies_from}
use Rattle.ck_htlaw.specs.Calls.{Opening, setting, putting, removing}
use Rattle.ck_htlaw.specs.Stages.{Stage, twice, before_tombstone, with_tombstone, retiring_at_end}
use Rattle.ck_htlaw.specs.Table.{linearized_of}
use Rattle.ck_htlaw.specs.Actions.{most}
use Rattle.ck_htlaw.specs.Client.{Answers, logged}

abbrev pub updates : List (LogEntry ℕ) → List (Update ℕ)
updates us = map (λ (e : LogEntry ℕ). e.update) us

abbrev pub map_after : List (LogEntry ℕ) → Map ℕ
map_after us = after_from nat_cmp most [] (updates us)

-- the replies are those of one thread
abbrev pub AreReplies : List (LogEntry ℕ) → Type 0
AreReplies us = map (λ (e : LogEntry ℕ). e.reply) us ≡ replies_from nat_cmp most [] (updates us)

-- the update of the call that is under way has taken place, and isn't answered yet
abbrev pub under_way : Stage → LogEntry ℕ → List (LogEntry ℕ)
under_way (twice from w) due = due ∷ []
under_way (before_tombstone from w) due = due ∷ []
under_way with_tombstone due = due ∷ []
under_way (retiring_at_end old) due = due ∷ []
under_way g due = []

-- what has taken place: what is in the log, and perhaps one more
abbrev pub linearized_updates : Answers → List (LogEntry ℕ)
linearized_updates a = a.log ++ cond (nat_lt (logged a.local) (linearized_of a.local)) (a.due ∷ []) []

-- the update of a call
abbrev pub update_of : Opening → Update ℕ
update_of (setting key value) = Set key value
update_of (putting key value) = Put key value
update_of (removing key) = Del key
update_of c = Tidy
