-- The log of a dictionary, and the map after it.
use Rattle.std.specs.Prelude.{◌≡◌, ℕ, List, [], ◌∷◌, Option, Some, None, map}
use Rattle.std.specs.Ordering.{nat_cmp}
use Rattle.ck_history.specs.declared.log.LogEntry.{LogEntry}
use Rattle.ck_history.specs.declared.update.Update.{Update}
use Rattle.ck_history.specs.Map.{Map, after_from, replies}
use Rattle.ck_history.specs.Book.{BookView}

-- answered updates with their replies, in order
abbrev pub Log : Type 0
Log = List (LogEntry ℕ)

-- the log of one entry, or of none
abbrev pub last_of : Option (LogEntry ℕ) → Log
last_of None = []
last_of (Some e) = e ∷ []

abbrev pub updates : Log → List (Update ℕ)
updates log = map (λ e. e.update) log

-- the most pairs
abbrev pub most_pairs : ℕ
most_pairs = 65536

-- the map after all updates of the log
abbrev pub map_after : Log → Map ℕ
map_after log = after_from nat_cmp most_pairs [] (updates log)

-- each reply is the map's
abbrev pub AreReplies : Log → Type 0
AreReplies log = map (λ e. e.reply) log ≡ replies nat_cmp most_pairs (updates log)

-- the map after all updates, as a book
abbrev pub book_after : Log → BookView ℕ
book_after log = record { most = most_pairs; pairs = map_after log }
