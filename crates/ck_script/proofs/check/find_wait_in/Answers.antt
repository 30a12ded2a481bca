use Rattle.std.proofs.Common.{◌∙◌, sym, ap}
use Rattle.std.specs.Option.{option_map}
use Rattle.ck_script.specs.Checks.{is_wait_beyond}
use Rattle.ck_script.proofs.Standing.{find_past, find_here}
use Rattle.ck_script.proofs.check.find_wait_in.Goals as goal

pub returns-then-wait_is_beyond : goal.returns-then-wait_is_beyond
returns-then-wait_is_beyond g c =
    let here = find_here (is_wait_beyond c.args.all) (g.F.LineList.items c.args.lines.now) c.loop-i.i c.what.result c.get.result c.what.ensures c.get.ensures (sym c.wait_is_beyond.ensures ∙ c.if-wait_is_beyond.true) in
    ap (option_map (λ l. l.line)) (sym here ∙ c.loop-i.invariant)

pub loop-i-preserved : goal.loop-i-preserved
loop-i-preserved g c =
    sym (find_past (is_wait_beyond c.args.all) (g.F.LineList.items c.args.lines.now) c.loop-i.i c.what.result c.what.ensures (sym c.wait_is_beyond.ensures ∙ c.if-wait_is_beyond.false)) ∙ c.loop-i.invariant
