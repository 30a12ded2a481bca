use Rattle.std.proofs.Common.{subst}
use Rattle.ck_run.specs.Tokens.{Table}
use Rattle.ck_epoch.specs.declared.about.About.{About}
use Rattle.ck_signal.specs.declared.signals.Signals.{Signals}
use Rattle.ck_events.proofs.Steps.{Reaches}
use Rattle.ck_htlaw.specs.declared.client.HtClient.{HtClient}
use Rattle.ck_htlaw.specs.Client.{table}
use Rattle.ck_ht.proofs.SignalSteps.{reached_still}
use Rattle.ck_ht.proofs.table.Ht.reached.Goals as goal

pub returns : goal.returns
returns c =
    let p = c.args.pass.now in let q = c.reached.new.pass in let n = c.args.n in let result = c.reached.result in
    let step = subst (λ (t : Table (About (Signals HtClient))). Reaches table t.origin p q n result) c.self.view_is c.reached.ensures.step in
    let s = reached_still c.args.self.now.origin p q n result c.requires.ready step in
    record { step = step; totals = s.1; events = s.2; ready = s.0; depth = c.reached.ensures.depth }
