use Rattle.std.proofs.Common.{◌≡◌, drop, map, ◌+◌}
use Rattle.ck_script.specs.Checks.{first_wait_beyond}
use Rattle.ck_script.proofs.check.find_wait.Given as goal

-- the first is among the files that are left
abbrev pub invariant-loop-i : goal.invariant-loop-i
invariant-loop-i g l = first_wait_beyond l.all (l.i + 1) (map g.F.LineList.items (drop l.i l.asks)) ≡ first_wait_beyond l.all 1 (map g.F.LineList.items l.asks)
