-- What holds of the writer's end of the two copies between two calls.
use Rattle.std.specs.Prelude.{◌≡◌, [], drop, Some}
use Rattle.left_right.specs.Sides.{view}
use Rattle.ck_snap.specs.declared.publisher.Publisher.TheInside.{Inside}
use Rattle.ck_snap.specs.declared.version.Version.{Version}
use Rattle.ck_snap.specs.Growing.{LogPart}
use Rattle.ck_snap.specs.Version.{version_log, version_book}
use Rattle.ck_snap.specs.Copies.{snapshot_of}

-- the version that readers take
abbrev pub published : Inside → Version
published p = p.writer.desk.shown.value.version

abbrev pub published_by : Inside → LogPart
published_by p = record { book = version_book (published p); log = version_log (published p) }

-- the published copy is the map of its version, its version is the publisher's, the end of the log has what that version has
-- settled, and nothing is pending
pub record IsPublisher (p : Inside) : Type 0 where
  pub fold : p.writer.desk.shown.value ≡ snapshot_of (published p)
  pub log : version_log p.version ≡ version_log (published p)
  pub book : version_book p.version ≡ version_book (published p)
  pub knows : (view p.writer.desk.place).seen ≡ Some (published p)
  pub whole : p.end ≡ p.version.prefix
  pub settled : drop p.writer.behind p.writer.log.items ≡ []
