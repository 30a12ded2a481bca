-- The tokens of a table that has a domain of its own, with signals.
use Rattle.std.specs.Prelude.{◌≡◌, ◌+◌, ◌*◌, ◌^◌, ◌≤◌, []}
use Rattle.ck_epoch.specs.State.{Origin, state}
use Rattle.ck_epoch.specs.Ends.{Writer, Pass}
use Rattle.ck_signal.specs.declared.signals.Signals.{Signals}
use Rattle.ck_htlaw.specs.declared.client.HtClient.{HtClient}
use Rattle.ck_htlaw.specs.Known.{knows}
use Rattle.ck_htlaw.specs.Layout.{arena_words, log_of}
use Rattle.ck_htlaw.specs.Linearized.{map_after}
use Rattle.ck_htlaw.specs.Reached.{with_signals}
use Rattle.ck_htlaw.specs.Stages.{idle}
use Rattle.ck_htlaw.specs.Table.{WriterState, LocalState, writer}
use Rattle.ck_htread.specs.Reading.{IsBetweenLooks}
use Rattle.ck_htwrite.specs.declared.state.HtState.{HtState}
use Rattle.ck_arena.specs.Arena.{unreturned}
use Rattle.ck_htwrite.specs.Arena.{AreTableItems}
use Rattle.ck_htwrite.specs.Entries.{HasKeys}
use Rattle.ck_htwrite.specs.State.{Ready}
use Rattle.ck_htwrite.specs.Writes.{counters_in}

-- What contracts see of a writer: its token's end, and its own lists
pub record HtWriter (F : Type 0) : Type 0 where
  pub writer : Writer (Signals HtClient) F
  pub state : HtState

-- The writer is between two updates, with its lists. All that polls dispatched is given back, what it retired are regions of the table, and there
-- is room for as many as the arena has pieces. The present region has at most half of the arena, and each key of the map is one
pub record IsWriterReady {F : Type 0} (o : Origin (Signals HtClient)) (w : Writer (Signals HtClient) F) (s : HtState) : Type 0 where
  pub ready : Ready with_signals o w s
  pub own : AreTableItems (counters_in with_signals o) 0 (unreturned (state w.token) w.waiting)
  pub given : w.waiting ≡ []
  pub room : counters_in with_signals o ≤ w.room
  pub half : 2 * 2 ^ (log_of s.root + 2) ≤ arena_words (counters_in with_signals o)
  pub keys : HasKeys (map_after (knows with_signals o w.token).log)

-- the writer is between two updates
abbrev pub IsIdle : LocalState → Type 0
IsIdle local = (p : WriterState) × (local ≡ writer p) × (p.stage ≡ idle)

-- The pass is between two looks, and its tally is the number of its answered looks
abbrev pub IsPassReady : Origin (Signals HtClient) → Pass (Signals HtClient) → Type 0
IsPassReady o p = IsBetweenLooks with_signals o p
