-- What a poll tells of the readers.
use Rattle.std.specs.Prelude.{◌≡◌, ℕ, Option, Some, None}
use Rattle.ck_history.specs.declared.log.Busy.{Busy}
use Rattle.ck_epoch.specs.declared.answers.Poll.{Poll}
use Rattle.ck_epoch.specs.declared.answers.Poll.TheVariants.{Clear, Moved, Blocked}
use Rattle.ck_epoch.specs.State.{Origin, Token, queue, records_of, state}
use Rattle.ck_epoch.specs.Calls.{Polls, pending_after}

-- the record that a poll loaded active, and the epoch that it loaded of it, by the global epoch that it loaded and by its answer
abbrev pub found_by : ℕ → Poll → Option Busy
found_by e (Clear n) = None
found_by e (Moved n rec) = Some (record { rec = rec; epoch = e })
found_by e (Blocked n rec epoch) = Some (record { rec = rec; epoch = epoch })

-- from t to u one poll was made, and this is what it found
abbrev pub PollsOnce : {C : Type 0} → Origin C → Token C → Option Busy → Token C → Type 0
PollsOnce o t found u = (answer : Poll) × Polls (records_of o) (state t).epoch t answer u × (found ≡ found_by (state t).epoch answer) × (queue (state u).pending ≡ pending_after (state t).epoch answer (queue (state t).pending))
