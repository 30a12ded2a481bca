use Rattle.std.proofs.Common.{arith, max, drop, ◌+◌}
use Rattle.ck_script.specs.Script.{said_of}
use Rattle.ck_script.proofs.Checking.{queries_next, queries_counted}
use Rattle.ck_script.proofs.check.count_queries.Goals as goal
use Rattle.ck_script.proofs.check.count_queries.Goals.{in-Ask, in-Wait}

pub loop-i-preserved : goal.loop-i-preserved
loop-i-preserved g c = elim c.match-what.branch [
  | in-Ask w ↦
      let next = queries_next (g.F.LineList.items c.args.lines.now) c.loop-i.i c.what.result _ c.what.ensures w.in-Ask.is in
      record { all = omega arith; room = omega arith }
  | in-Wait w ↦
      let next = queries_next (g.F.LineList.items c.args.lines.now) c.loop-i.i c.what.result _ c.what.ensures w.in-Wait.is in
      record { all = omega (arith, queries_counted (max 0 w.in-Wait.n) (said_of (drop (c.loop-i.i + 1) (g.F.LineList.items c.args.lines.now)))); room = omega arith }
]
