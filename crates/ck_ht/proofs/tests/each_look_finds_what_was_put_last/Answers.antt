use Rattle.std.specs.Prelude.{◌≡◌, Option, IfSome}
use Rattle.std.proofs.Common.{subst}
use Rattle.std.proofs.lemmas.List.Elements.{All-pop}
use Rattle.ck_run.specs.Tokens.{table}
use Rattle.ck_epoch.specs.Ends.{Pass}
use Rattle.ck_signal.specs.declared.signals.Signals.{Signals}
use Rattle.ck_htlaw.specs.declared.client.HtClient.{HtClient}
use Rattle.ck_ht.specs.Ends.{IsPassReady}
use Rattle.ck_ht.proofs.tests.each_look_finds_what_was_put_last.Goals as goal

pub look_after_each-requires-clause-pass : goal.look_after_each-requires-clause-pass
look_after_each-requires-clause-pass g c =
    let t = c.in_ok-table.table in (
      subst (λ (r : Option (Pass (Signals HtClient))). IfSome r (λ q. table q.token ≡ t)) c.unwrap-pass.ensures
          (All-pop (λ (q : Pass (Signals HtClient)). table q.token ≡ t) c.in_ok-table.passes.items c.pop.new.self.items c.pop.result c.pop.ensures.items c.in_ok-table.ensures.made).1,
      subst (λ (r : Option (Pass (Signals HtClient))). IfSome r (λ q. IsPassReady t.origin q)) c.unwrap-pass.ensures
          (All-pop (λ (q : Pass (Signals HtClient)). IsPassReady t.origin q) c.in_ok-table.passes.items c.pop.new.self.items c.pop.result c.pop.ensures.items c.in_ok-table.ensures.ready).1,
    )
