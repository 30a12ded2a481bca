use Rattle.std.proofs.Common.{◌≡◌, drop}
use Rattle.std.specs.List.{list_any}
use Rattle.ck_script.specs.Fronts.{is_hold}
use Rattle.ck_script.proofs.circle.has_hold.Given as goal

-- what the lines that are left say is what all say
abbrev pub invariant-loop-i : goal.invariant-loop-i
invariant-loop-i g l = list_any (λ x. is_hold x.what) (drop l.i (g.U.LineList.items l.ups)) ≡ list_any (λ x. is_hold x.what) (g.U.LineList.items l.ups)
