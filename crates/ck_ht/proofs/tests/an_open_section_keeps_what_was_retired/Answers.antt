use Rattle.std.specs.Prelude.{Option, IfSome}
use Rattle.std.proofs.Common.{subst}
use Rattle.std.proofs.lemmas.List.Elements.{All-pop}
use Rattle.ck_epoch.specs.Ends.{Pass}
use Rattle.ck_signal.specs.declared.signals.Signals.{Signals}
use Rattle.ck_htlaw.specs.declared.client.HtClient.{HtClient}
use Rattle.ck_ht.specs.Ends.{IsPassReady}
use Rattle.ck_ht.proofs.tests.an_open_section_keeps_what_was_retired.Goals as goal

pub begin-requires-clause-ready : goal.begin-requires-clause-ready
begin-requires-clause-ready g c =
    let o = c.in_ok-table.table.origin in
    subst (λ (r : Option (Pass (Signals HtClient))). IfSome r (λ q. IsPassReady o q)) c.unwrap-pass.ensures
    (All-pop (λ (q : Pass (Signals HtClient)). IsPassReady o q) c.in_ok-table.passes.items c.pop.new.self.items c.pop.result c.pop.ensures.items c.in_ok-table.ensures.ready).1
