-- Versions of the map: the part of the log that each comes from.
use Rattle.std.specs.Prelude.{◌≡◌, ℕ, ◌++◌, Option, Some, None}
use mathlib.Core.List.{IsPrefix}
use Rattle.std.specs.Ordering.{nat_cmp}
use Rattle.logbook.specs.Pages.{Book}
use Rattle.ck_history.specs.declared.log.LogEntry.{LogEntry}
use Rattle.ck_history.specs.Map.{step}
use Rattle.ck_history.specs.Book.{BookView}
use Rattle.ck_snap.specs.declared.version.Version.{Version}
use Rattle.ck_snap.specs.Log.{Log, last_of}

abbrev pub version_log : Version → Log
version_log v = v.prefix.log ++ last_of v.last

abbrev pub version_book : Version → Book
version_book v = v.prefix.book

-- of one log, the second version has all that the first has
abbrev pub Precedes : Option Version → Version → Type 0
Precedes None next = Unit {0}
Precedes (Some v) next = (version_book v ≡ version_book next) × IsPrefix (version_log v) (version_log next)

-- its prefix is all that the other version has
abbrev pub FollowsVersion : Version → Version → Type 0
FollowsVersion v next = (next.prefix.book ≡ version_book v) × (next.prefix.log ≡ version_log v)

-- a map after one more update, if there is one
abbrev pub book_with : BookView ℕ → Option (LogEntry ℕ) → BookView ℕ
book_with b None = b
book_with b (Some e) = record b { pairs = (step nat_cmp b.most b.pairs e.update).0 }
