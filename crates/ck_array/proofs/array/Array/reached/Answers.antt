use Rattle.std.proofs.Common.{subst}
use Rattle.ck_run.specs.Tokens.{Table}
use Rattle.ck_epoch.specs.declared.about.About.{About}
use Rattle.ck_signal.specs.declared.signals.Signals.{Signals}
use Rattle.ck_events.proofs.Steps.{Reaches}
use Rattle.ck_arraylaw.specs.declared.client.ArrayClient.{ArrayClient}
use Rattle.ck_arraylaw.specs.Client.{array}
use Rattle.ck_array.proofs.SignalSteps.{reached_still}
use Rattle.ck_array.proofs.array.Array.reached.Goals as goal

pub returns : goal.returns
returns c =
    let p = c.args.pass.now in let q = c.reached.new.pass in let n = c.args.n in let result = c.reached.result in
    let step = subst (λ (t : Table (About (Signals ArrayClient))). Reaches array t.origin p q n result) c.self.view_is c.reached.ensures.step in
    let s = reached_still c.args.self.now.origin p q n result c.requires.ready step in
    record { step = step; answers = s.1; events = s.2; ready = s.0; depth = c.reached.ensures.depth }
