use Rattle.std.proofs.Common.{ap, ◌∙◌}
use Rattle.ck_judge.proofs.Replaying.{listed_call, listed_hold}
use Rattle.ck_judge.proofs.replay.list_updates.Goals as goal
use Rattle.ck_judge.proofs.replay.list_updates.Goals.{in-Call+in_ok-push-in-Call, in-Hold}

pub loop-i-preserved : goal.loop-i-preserved
loop-i-preserved g c = elim c.match-what.branch [
  | in-Call+in_ok-push-in-Call w ↦ listed_call (g.U.LineList.items c.args.ups.now) c.loop-i.i c.what.result c.what.ensures c.loop-i.us.items c.match-what.us.items _ c.loop-i.invariant _ w.in-Call.is (ap (λ v. v.items) w.us-is ∙ w.in_ok-push-in-Call.ensures.items)
  | in-Hold w ↦ listed_hold (g.U.LineList.items c.args.ups.now) c.loop-i.i c.what.result c.what.ensures c.loop-i.us.items c.match-what.us.items _ c.loop-i.invariant _ _ w.in-Hold.is (ap (λ v. v.items) w.us-is)
]
