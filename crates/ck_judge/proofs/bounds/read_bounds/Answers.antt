use Rattle.std.proofs.Common.{ap, ◌∙◌, arith, sym, length}
use Rattle.std.specs.List.{slice_get}
use Rattle.std.specs.Option.{unwrap_or}
use Rattle.ck_judge.proofs.Holding.{bounds_wait, bounds_ask, bounds_end}
use Rattle.ck_judge.proofs.bounds.read_bounds.Goals as goal
use Rattle.ck_judge.proofs.bounds.read_bounds.Goals.{in-Ask+in_ok-push-in-Ask, in-Wait}

pub loop-i-preserved : goal.loop-i-preserved
loop-i-preserved g c = λ f hs limited. elim c.match-what.branch [
  | in-Ask+in_ok-push-in-Ask w ↦
      bounds_ask (g.F.LineList.items c.args.lines.now) c.loop-i.i c.what.result c.what.ensures c.args.all f hs c.loop-i.bounds.items c.match-what.bounds.items c.loop-i.least c.match-what.least _ (c.loop-i.invariant f hs limited) _ _ w.in-Ask.is (ap (λ v. v.items) w.bounds-is ∙ w.in_ok-push-in-Ask.ensures.items) w.least-is (limited (length c.loop-i.bounds.items) ∙ (ap (λ n. unwrap_or (slice_get c.args.limits.now n) c.args.all) (omega (arith, w.len.ensures, c.loop-i.bounds.ok)) ∙ sym w.limit_at-greatest.ensures))
  | in-Wait w ↦
      bounds_wait (g.F.LineList.items c.args.lines.now) c.loop-i.i c.what.result c.what.ensures c.args.all f hs c.loop-i.bounds.items c.match-what.bounds.items c.loop-i.least c.match-what.least _ (c.loop-i.invariant f hs limited) _ w.in-Wait.is (ap (λ v. v.items) w.bounds-is) (w.least-is ∙ w.max-least.ensures)
]

pub returns : goal.returns
returns g c = λ f hs limited. bounds_end (g.F.LineList.items c.args.lines.now) c.loop-i.i c.args.all f hs c.loop-i.bounds.items c.loop-i.least _ (omega (arith, c.loop-i-test.false)) (c.loop-i.invariant f hs limited)
