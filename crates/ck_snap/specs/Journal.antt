-- What contracts see of a journal.
use Rattle.std.specs.Prelude.{[]}
use Rattle.atomic_table.specs.Seated.{TableId}
use Rattle.ck_snap.specs.declared.journal.Events.{Events}

-- the word that it stands on, and its events
pub record JournalView : Type 0 where
  pub journals : TableId
  pub events : Events

abbrev pub no_events : Events
no_events = record { written = []; read = []; places = [] }
