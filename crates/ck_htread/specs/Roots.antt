-- Roots that a look may load.
use Rattle.std.specs.Prelude.{◌++◌}
use Rattle.ck_run.specs.Run.{Run}
use Rattle.ck_epoch.specs.State.{Origin}
use Rattle.ck_htlaw.specs.Host.{Host}
use Rattle.ck_htlaw.specs.Known.{IsRoot}
use Rattle.ck_htlaw.specs.Law.{IsTableRun, root_in}
use Rattle.ck_htlaw.specs.Layout.{counters_of}

-- At each moment of every true run the table's root is that of a region of its arena
abbrev pub RootsLaw : {D : Type 0} → Host D → Origin D → Type 0
RootsLaw host origin = (past rest : Run) → IsTableRun host origin (past ++ rest) → IsRoot (counters_of (host.part origin.config.client)) (root_in host origin past)
