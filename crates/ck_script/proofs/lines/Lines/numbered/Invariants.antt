use Rattle.std.proofs.Common.{◌≡◌, take}
use Rattle.ck_script.specs.Script.{numbered}
use Rattle.ck_script.proofs.lines.Lines.numbered.Given as goal

-- the lines so far say what was said so far
abbrev pub invariant-loop-i : goal.invariant-loop-i
invariant-loop-i g l = l.lines.items ≡ numbered 1 (take l.i l.said)
