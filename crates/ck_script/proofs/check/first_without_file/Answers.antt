use Rattle.std.proofs.Common.{arith, ◌∙◌, sym}
use Rattle.ck_script.specs.Shorts.{names_no_file}
use Rattle.ck_script.proofs.Circles.{position_next, position_there}
use Rattle.ck_script.proofs.check.first_without_file.Goals as goal

pub returns-then-has_no_file-clause-first : goal.returns-then-has_no_file-clause-first
returns-then-has_no_file-clause-first g c =
    omega (arith, position_there (names_no_file c.args.files) (g.U.LineList.items c.args.ups.now) c.loop-i.i c.what.result c.what.ensures (sym c.has_no_file.ensures ∙ c.if-has_no_file.true), c.loop-i.invariant)

pub loop-i-preserved : goal.loop-i-preserved
loop-i-preserved g c =
    omega (arith, position_next (names_no_file c.args.files) (g.U.LineList.items c.args.ups.now) c.loop-i.i c.what.result c.what.ensures (sym c.has_no_file.ensures ∙ c.if-has_no_file.false), c.loop-i.invariant)
