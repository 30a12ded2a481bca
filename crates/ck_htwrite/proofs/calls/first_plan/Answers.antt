use Rattle.std.proofs.Common.{ap}
use Rattle.ck_htlaw.specs.Host.{host}
use Rattle.ck_htwrite.proofs.Between.{small}
use Rattle.ck_htwrite.proofs.calls.first_plan.Goals as goal

pub returns-clause-small : goal.returns-clause-small
returns-clause-small g c =
    let w = c.args.writer.now in let writing = c.tally-updates.ensures.writing in let ready = c.requires.ready in
    small (host g.D.Client.meaning g.D.Within.place g.D.Within.part) g.met.D.Within.within c.args.domain.now.origin w.token (ap (λ v. v.origin) c.requires.table) writing.part writing.first c.args.state.now ready.lists w.tally w.calls ready.tally ready.few c.requires.calls

pub returns-clause-plan : goal.returns-clause-plan
returns-clause-plan g c r = c.plan_for.ensures.plan r.is_writer r.reflects
