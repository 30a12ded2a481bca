-- The rule of the two copies.
use Rattle.std.specs.Prelude.{◌≡◌, ℕ, ◌+◌, List, Some, None}
use mathlib.Core.Option.{some}
use lib.ListN.{get_elem?}
use Rattle.logbook.specs.Pages.{Book}
use Rattle.ck_snap.specs.declared.version.Version.{Version}
use Rattle.ck_snap.specs.declared.snapshot.Snapshot.{Snapshot}
use Rattle.ck_snap.specs.declared.rule.EndView.{EndView}
use Rattle.ck_snap.specs.Log.{Log, book_after}
use Rattle.ck_snap.specs.Version.{version_log, Precedes}

-- the map of a version
abbrev pub snapshot_of : Version → Snapshot
snapshot_of v = record { book = book_after (version_log v); version = v }

abbrev pub newcomer : EndView
newcomer = record { enters = 0; seen = None }

-- what is known after one more enter, at which this version was seen
abbrev pub seeing : EndView → Version → EndView
seeing v next = record { enters = v.enters + 1; seen = Some next }

-- The published map is the fold of the published updates, and what each end has seen precedes it
pub record Keeps (x : Snapshot) (views : List EndView) : Type 0 where
  pub fold : x ≡ snapshot_of x.version
  pub each : (seat : ℕ) (v : EndView) → get_elem? views seat ≡ some v → Precedes v.seen x.version

-- what an enter or a publish tells of the copy that is shown after it
pub record Shows (v : EndView) (y : Snapshot) (w : EndView) : Type 0 where
  pub view : w ≡ seeing v y.version
  pub later : Precedes v.seen y.version
  pub fold : y ≡ snapshot_of y.version

-- what an end of the two copies knows: the log that they come from, the part of it that the end has seen or published,
-- and how often it entered
pub record Known : Type 0 where
  pub book : Book
  pub log : Log
  pub enters : ℕ
