use Rattle.std.proofs.Common.{◌≡◌, ◌+◌, drop, take}
use Rattle.std.specs.List.{position_or_len}
use Rattle.ck_script.specs.Shorts.{is_short}
use Rattle.ck_script.proofs.check.first_short.Given as goal

-- the first is among the lines that are left
abbrev pub invariant-loop-i : goal.invariant-loop-i
invariant-loop-i g l = l.i + position_or_len (λ x. is_short l.f l.n x.what) (drop l.i (take l.end (g.U.LineList.items l.ups))) ≡ position_or_len (λ x. is_short l.f l.n x.what) (take l.end (g.U.LineList.items l.ups))
