use Rattle.std.proofs.Common.{subst, arith}
use Rattle.ck_run.specs.Tokens.{Table}
use Rattle.ck_epoch.specs.declared.about.About.{About}
use Rattle.ck_epoch.specs.State.{base_of}
use Rattle.ck_epoch.specs.Calls.{StepsBelow}
use Rattle.ck_signal.specs.declared.signals.Signals.{Signals}
use Rattle.ck_htlaw.specs.declared.client.HtClient.{HtClient}
use Rattle.ck_ht.proofs.SignalSteps.{sections_still}
use Rattle.ck_ht.proofs.table.Ht.begin.Goals as goal

pub returns : goal.returns
returns c =
    let p = c.args.pass.now in let q = c.begin.new.pass in let e = c.begin.ensures in
    let s = sections_still c.args.self.now.origin p q c.requires.ready (subst (λ (t : Table (About (Signals HtClient))). StepsBelow (base_of t.origin) p.token q.token) c.self.view_is e.below) e.same.2 (let n = e.calls in omega arith) in
    record { table = e.same.0; steps = e.steps; totals = s.1; events = s.2; ready = s.0; calls = e.calls; depth = e.depth }
