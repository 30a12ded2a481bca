-- What holds of the writer and of a pass between two calls.
use Rattle.std.specs.Prelude.{◌≡◌, ◌≤◌, length}
use Rattle.ck_snap.specs.declared.tokens.SnapWriter.TheInside.{Inside as WriterInside}
use Rattle.ck_snap.specs.declared.tokens.SnapPass.TheInside.{Inside as PassInside}
use Rattle.ck_snap.specs.Log.{AreReplies}
use Rattle.ck_snap.specs.Places.{log_of_events, ArePlacedIn}

-- The journal has the updates that are published, with the map's replies. Each was a counted call
pub record IsSnapWriter (w : WriterInside) : Type 0 where
  pub log : log_of_events w.journal.events.written ≡ w.publisher.log
  pub replies : AreReplies w.publisher.log
  pub count : length w.publisher.log ≤ w.calls

-- the answers of a pass have places in what it has seen
abbrev pub IsSnapPass : PassInside → Type 0
IsSnapPass p = ArePlacedIn p.subscriber.log p.journal.events.read p.journal.events.places
