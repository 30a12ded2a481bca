use Rattle.std.proofs.Common.{◌≡◌, drop}
use Rattle.std.specs.List.{find}
use Rattle.ck_script.specs.Checks.{is_wait_beyond}
use Rattle.ck_script.proofs.check.find_wait_in.Given as goal

-- the first is among the lines that are left
abbrev pub invariant-loop-i : goal.invariant-loop-i
invariant-loop-i g l = find (λ x. is_wait_beyond l.all x.what) (drop l.i (g.F.LineList.items l.lines)) ≡ find (λ x. is_wait_beyond l.all x.what) (g.F.LineList.items l.lines)
