use Rattle.std.proofs.Common.{◌∙◌, ap, inr, drop, ◌+◌, ◌∷◌, arith}
use Rattle.ck_script.specs.Script.{said_of}
use Rattle.ck_script.proofs.Standing.{said_there}
use Rattle.ck_script.proofs.Fronts.{front_more}
use Rattle.ck_script.proofs.circle.moved.Goals as goal

-- a query that needs more updates
pub returns-in-None-clause-stop : goal.returns-in-None-clause-stop
returns-in-None-clause-stop g c =
    let more = c.in-None.ensures in
    let later = said_of (drop (c.loop-front.front.at + 1) (g.F.LineList.items c.args.lines.now)) in
    inr (more.0, later, said_there (g.F.LineList.items c.args.lines.now) c.loop-front.front.at c.what.result c.what.ensures ∙ ap (λ w. w ∷ later) more.1, more.2)

-- one more line
pub loop-front-preserved : goal.loop-front-preserved
loop-front-preserved g c =
    front_more c.args.m (g.F.LineList.items c.args.lines.now) c.loop-front.front c.in-Some.longer c.what.result c.loop-front.invariant (omega arith) c.what.ensures c.in-Some.ensures
