-- The tokens of an array that has a domain of its own, with signals.
use Rattle.std.specs.Prelude.{◌≡◌, ℕ, ◌≤◌, List, [], length}
use Rattle.ck_history.specs.declared.edit.Edit.{Edit}
use Rattle.ck_epoch.specs.State.{Origin, Token, state}
use Rattle.ck_epoch.specs.Ends.{Writer, Pass}
use Rattle.ck_signal.specs.declared.signals.Signals.{Signals}
use Rattle.ck_arena.specs.Arena.{AreItems, unreturned}
use Rattle.ck_arraylaw.specs.declared.client.ArrayClient.{ArrayClient}
use Rattle.ck_arraylaw.specs.Array.{reader}
use Rattle.ck_arraylaw.specs.Client.{logged}
use Rattle.ck_arraylaw.specs.Known.{knows}
use Rattle.ck_arraylaw.specs.Layout.{IsArrayItem}
use Rattle.ck_arraylaw.specs.Reached.{with_signals}
use Rattle.ck_arraylaw.specs.Regions.{place_in}
use Rattle.ck_array.specs.declared.state.ArrayState.{ArrayState}
use Rattle.ck_array.specs.Reads.{resting}
use Rattle.ck_array.specs.Writes.{IsReady}

-- What contracts see of a writer: its token's end, and its own state
pub record ArrayWriter (F : Type 0) : Type 0 where
  pub writer : Writer (Signals ArrayClient) F
  pub state : ArrayState

-- the edits that the writer answered
abbrev pub edits_by : Origin (Signals ArrayClient) → Token (Signals ArrayClient) → List Edit
edits_by o t = logged (knows with_signals o t)

-- The writer is between two edits, with its state. All that polls dispatched is given back, what it retired are regions of the array, there is room
-- for as many as can be out, and its tally is the length of its log
pub record IsWriterReady {F : Type 0} (o : Origin (Signals ArrayClient)) (w : Writer (Signals ArrayClient) F) (s : ArrayState) : Type 0 where
  pub ready : IsReady with_signals o w s
  pub own : AreItems (IsArrayItem (place_in with_signals o)) (unreturned (state w.token) w.waiting)
  pub given : w.waiting ≡ []
  pub room : 4096 ≤ w.room
  pub tally : w.tally ≡ length (edits_by o w.token)
  pub few : w.tally ≤ w.calls

-- The pass is between two calls, and its tally is the number of its answers
pub record IsPassReady (o : Origin (Signals ArrayClient)) (p : Pass (Signals ArrayClient)) : Type 0 where
  pub answers : List (List ℕ)
  pub local : knows with_signals o p.token ≡ reader (resting answers)
  pub tally : p.tally ≡ length answers
  pub few : p.tally ≤ p.calls
