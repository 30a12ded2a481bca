use Rattle.std.proofs.Common.{◌-◌, length}
use Rattle.ck_script.specs.Fronts.{IsFront}
use Rattle.ck_script.proofs.circle.moved.Given as goal

abbrev pub invariant-loop-front : goal.invariant-loop-front
invariant-loop-front g l = IsFront l.m (g.F.LineList.items l.lines) l.front

abbrev pub decreases-loop-front : goal.decreases-loop-front
decreases-loop-front g l = length (g.F.LineList.items l.lines) - l.front.at
