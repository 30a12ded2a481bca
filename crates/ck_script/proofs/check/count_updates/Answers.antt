use Rattle.std.proofs.Common.{arith}
use Rattle.ck_script.proofs.Checking.{updates_next}
use Rattle.ck_script.proofs.check.count_updates.Goals as goal
use Rattle.ck_script.proofs.check.count_updates.Goals.{in-Call, in-Hold}

pub loop-i-preserved : goal.loop-i-preserved
loop-i-preserved g c = elim c.match-what.branch [
  | in-Call w ↦
      let next = updates_next (g.U.LineList.items c.args.ups.now) c.loop-i.i c.what.result _ c.what.ensures w.in-Call.is in
      record { all = omega arith; room = omega arith }
  | in-Hold w ↦
      let next = updates_next (g.U.LineList.items c.args.ups.now) c.loop-i.i c.what.result _ c.what.ensures w.in-Hold.is in
      record { all = omega arith; room = omega arith }
]
