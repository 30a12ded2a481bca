use Rattle.std.proofs.Common.{◌≡◌, ◌+◌, ◌≤◌, ◌++◌, drop, length}
use Rattle.ck_script.specs.Script.{said_of}
use Rattle.ck_report.specs.Pairing.{asked_lines}
use Rattle.ck_report.proofs.pairing.pair_block.Given as goal

-- the lines so far are paired
abbrev pub invariant-loop-i : goal.invariant-loop-i
invariant-loop-i g l = record {
  within : l.next ≤ length l.answers;
  count : l.start + length l.block.items ≤ l.i;
  paired : l.block.items ++ asked_lines (said_of (drop l.i (g.F.LineList.items l.lines))) (drop l.next l.answers) ≡ asked_lines (said_of (drop l.start (g.F.LineList.items l.lines))) l.answers;
}
