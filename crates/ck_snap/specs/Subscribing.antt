-- What a reader's end of the two copies knows, and what holds of it between two calls.
use Rattle.std.specs.Prelude.{◌≡◌, Some}
use Rattle.left_right.specs.Sides.{view}
use Rattle.ck_snap.specs.declared.subscriber.Subscriber.TheInside.{Inside}
use Rattle.ck_snap.specs.Version.{version_log, version_book}
use Rattle.ck_snap.specs.Copies.{Known}

abbrev pub known_to : Inside → Known
known_to s = record { book = version_book s.version; log = version_log s.version; enters = (view s.reader.place).enters }

-- the rule knows the version that was seen
abbrev pub IsSubscriber : Inside → Type 0
IsSubscriber s = (view s.reader.place).seen ≡ Some s.version
