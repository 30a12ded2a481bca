use Rattle.std.specs.Prelude.{◌≡◌, Option, IfSome}
use Rattle.std.proofs.Common.{subst}
use Rattle.std.proofs.lemmas.List.Elements.{All-pop}
use Rattle.ck_run.specs.Tokens.{table}
use Rattle.ck_epoch.specs.Ends.{Pass}
use Rattle.ck_epoch.specs.State.{depth}
use Rattle.ck_signal.specs.declared.signals.Signals.{Signals}
use Rattle.ck_htlaw.specs.declared.client.HtClient.{HtClient}
use Rattle.ck_ht.specs.Ends.{IsPassReady}
use Rattle.ck_ht.proofs.thread_tests.next_reader.Goals as goal

pub returns-clause-tables : goal.returns-clause-tables
returns-clause-tables c = (All-pop (λ (q : Pass (Signals HtClient)). table q.token ≡ c.args.ht.now) c.args.passes.now.items c.pop.new.self.items c.pop.result c.pop.ensures.items c.requires.tables).0

pub returns-clause-ready : goal.returns-clause-ready
returns-clause-ready c = (All-pop (λ (q : Pass (Signals HtClient)). IsPassReady c.args.ht.now.origin q) c.args.passes.now.items c.pop.new.self.items c.pop.result c.pop.ensures.items c.requires.ready).0

pub returns-clause-new : goal.returns-clause-new
returns-clause-new c = (All-pop (λ (q : Pass (Signals HtClient)). (depth q.token ≡ 0) × (q.calls ≡ 0)) c.args.passes.now.items c.pop.new.self.items c.pop.result c.pop.ensures.items c.requires.new).0

pub returns-clause-table : goal.returns-clause-table
returns-clause-table c = subst (λ (r : Option (Pass (Signals HtClient))). IfSome r (λ q. table q.token ≡ c.args.ht.now)) c.unwrap-pass.ensures
    (All-pop (λ (q : Pass (Signals HtClient)). table q.token ≡ c.args.ht.now) c.args.passes.now.items c.pop.new.self.items c.pop.result c.pop.ensures.items c.requires.tables).1

pub returns-clause-is_ready : goal.returns-clause-is_ready
returns-clause-is_ready c = subst (λ (r : Option (Pass (Signals HtClient))). IfSome r (λ q. IsPassReady c.args.ht.now.origin q)) c.unwrap-pass.ensures
    (All-pop (λ (q : Pass (Signals HtClient)). IsPassReady c.args.ht.now.origin q) c.args.passes.now.items c.pop.new.self.items c.pop.result c.pop.ensures.items c.requires.ready).1

pub returns-clause-is_new : goal.returns-clause-is_new
returns-clause-is_new c = subst (λ (r : Option (Pass (Signals HtClient))). IfSome r (λ q. (depth q.token ≡ 0) × (q.calls ≡ 0))) c.unwrap-pass.ensures
    (All-pop (λ (q : Pass (Signals HtClient)). (depth q.token ≡ 0) × (q.calls ≡ 0)) c.args.passes.now.items c.pop.new.self.items c.pop.result c.pop.ensures.items c.requires.new).1
