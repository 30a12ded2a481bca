use Rattle.std.proofs.Common.{ap, subst}
use Rattle.ck_epoch.specs.Ends.{Pass, IsReading}
use Rattle.ck_epoch.proofs.ends.Pass.rec.Goals as goal

pub returns-clause-reading : goal.returns-clause-reading
returns-clause-reading g c =
    let i = c.self.invariant.0 in
    subst (IsReading g.C.Client.meaning) (ap (λ (p : Pass g.row.C.Denot). p.token) c.self.view_is) (record { part = i.part; rec = c.self.inside.rec; other = i.other; low = i.low })
