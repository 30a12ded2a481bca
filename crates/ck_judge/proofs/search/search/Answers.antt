use Rattle.std.proofs.Common.{◌≡◌, arith, subst}
use Rattle.ck_judge.specs.Searches.{EndsUpTo}
use Rattle.ck_judge.proofs.Ending.{ends_between}
use Rattle.ck_judge.proofs.search.search.Goals as goal

pub returns : goal.returns
returns g c =
    let i = c.loop-low.invariant in
    let at : c.loop-low.high ≡ c.loop-low.low = omega (arith, i.order, c.loop-low-test.false) in
    ends_between g.met.T.Ord.total c.args.elements.now c.args.x.now c.requires.sorted c.loop-low.low (omega (arith, i.order, i.within)) i.below
    (subst (EndsUpTo g.T.Ord.cmp c.args.elements.now c.args.x.now) at i.above)
