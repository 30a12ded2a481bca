use Rattle.std.proofs.Common.{◌+◌, ◌≤◌, length}
use Rattle.ck_report.specs.Reports.{parts_of}
use Rattle.ck_report.proofs.Faults.{Read}
use Rattle.ck_report.proofs.read.read_map_report.Given as goal

-- the lines so far are read, and the rest has the others
abbrev pub invariant-loop-rest : goal.invariant-loop-rest
invariant-loop-rest g l = record {
  read : Read g.K.KeyWord.is_key g.K.KeyWord.spelling g.K.Ord.cmp l.bytes l.number l.rest l.place (parts_of l.report);
  room : l.number + length l.rest ≤ length l.bytes;
}

abbrev pub decreases-loop-rest : goal.decreases-loop-rest
decreases-loop-rest g l = length l.rest
