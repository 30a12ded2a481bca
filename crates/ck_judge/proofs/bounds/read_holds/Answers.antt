use Rattle.std.proofs.Common.{arith, ap, ◌∙◌}
use Rattle.ck_judge.proofs.Holding.{holds_call, holds_hold}
use Rattle.ck_judge.proofs.bounds.read_holds.Goals as goal
use Rattle.ck_judge.proofs.bounds.read_holds.Goals.{in-Call, in-Hold+in_ok-push-in-Hold}

pub loop-i-preserved : goal.loop-i-preserved
loop-i-preserved g c = elim c.match-what.branch [
  | in-Call w ↦ record {
    all = holds_call (g.U.LineList.items c.args.ups.now) c.loop-i.i c.what.result c.what.ensures c.loop-i.held.items c.match-what.held.items c.loop-i.after c.match-what.after _ c.loop-i.invariant.all _ w.in-Call.is (ap (λ v. v.items) w.held-is) w.after-is;
    room = omega (arith, w.after-is, c.loop-i.invariant.room);
  }
  | in-Hold+in_ok-push-in-Hold w ↦ record {
    all = holds_hold (g.U.LineList.items c.args.ups.now) c.loop-i.i c.what.result c.what.ensures c.loop-i.held.items c.match-what.held.items c.loop-i.after c.match-what.after _ c.loop-i.invariant.all _ _ w.in-Hold.is (ap (λ v. v.items) w.held-is ∙ w.in_ok-push-in-Hold.ensures.items) w.after-is;
    room = omega (arith, w.after-is, c.loop-i.invariant.room);
  }
]
