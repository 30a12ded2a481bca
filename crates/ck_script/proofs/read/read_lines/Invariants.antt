use Rattle.std.proofs.Common.{◌≡◌, ◌+◌, ◌≤◌, length}
use Rattle.std.specs.List.{list_any}
use Rattle.ck_script.proofs.Saying.{Read}
use Rattle.ck_script.proofs.read.read_lines.Given as goal

-- the lines so far are read, and the rest has the others
abbrev pub invariant-loop-rest : goal.invariant-loop-rest
invariant-loop-rest g l = record {
  read : Read g.L.ScriptLine.is_taken g.L.ScriptLine.spelling l.bytes l.number l.rest l.said.items;
  waits : l.waits ≡ list_any (λ x. g.L.ScriptLine.waits x.what) l.said.items;
  room : l.number + length l.rest ≤ length l.bytes;
}

abbrev pub decreases-loop-rest : goal.decreases-loop-rest
decreases-loop-rest g l = length l.rest
