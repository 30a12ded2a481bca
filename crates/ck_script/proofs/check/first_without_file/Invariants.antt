use Rattle.std.proofs.Common.{◌≡◌, ◌+◌, drop}
use Rattle.std.specs.List.{position_or_len}
use Rattle.ck_script.specs.Shorts.{names_no_file}
use Rattle.ck_script.proofs.check.first_without_file.Given as goal

-- the first is among the lines that are left
abbrev pub invariant-loop-i : goal.invariant-loop-i
invariant-loop-i g l = l.i + position_or_len (λ x. names_no_file l.files x.what) (drop l.i (g.U.LineList.items l.ups)) ≡ position_or_len (λ x. names_no_file l.files x.what) (g.U.LineList.items l.ups)
