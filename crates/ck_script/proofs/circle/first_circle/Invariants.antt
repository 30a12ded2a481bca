use Rattle.std.proofs.Common.{◌≡◌, ◌+◌, ◌≤◌, drop, take}
use Rattle.std.specs.List.{position_or_len}
use Rattle.ck_script.specs.Script.{said_of}
use Rattle.ck_script.specs.Checks.{placed}
use Rattle.ck_script.specs.Fronts.{IsFront, is_circle_with}
use Rattle.ck_script.proofs.circle.first_circle.Given as goal

-- the first is among the lines that are left, and the front needs no more updates than stand before them
abbrev pub invariant-loop-i : goal.invariant-loop-i
invariant-loop-i g l = record {
  front : IsFront l.m (g.F.LineList.items l.lines) l.front;
  first : l.i + position_or_len (λ x. is_circle_with l.f (said_of (g.F.LineList.items l.lines)) x.0 x.1.what) (placed l.m (drop l.i (take l.end (g.U.LineList.items l.ups)))) ≡ position_or_len (λ x. is_circle_with l.f (said_of (g.F.LineList.items l.lines)) x.0 x.1.what) (placed 0 (take l.end (g.U.LineList.items l.ups)));
  room : l.m ≤ l.i;
}
