use Rattle.std.proofs.Common.{subst, sym}
use Rattle.std.specs.Prelude.{All}
use Rattle.std.proofs.lemmas.List.Elements.{All-nil}
use Rattle.ck_run.proofs.Lists.{All-snoc}
use Rattle.ck_epoch.specs.Ends.{Pass}
use Rattle.ck_signal.specs.declared.signals.Signals.{Signals}
use Rattle.ck_htlaw.specs.declared.client.HtClient.{HtClient}
use Rattle.ck_ht.specs.Ends.{IsPassReady}
use Rattle.ck_ht.proofs.thread_tests.close.Goals as goal

pub close-closed-requires-clause-ready : goal.close-closed-requires-clause-ready
close-closed-requires-clause-ready g c =
    let P : Pass (Signals HtClient) → Type 0 = λ q. IsPassReady c.args.ht.origin q in
    let none : All P c.in_ok-passes.passes.items = subst (All P) (sym c.in_ok-passes.ensures.items) (All-nil P) in
    let one : All P c.push.new.self.items = subst (All P) (sym c.in_ok-push.ensures.items) (All-snoc P c.in_ok-passes.passes.items c.args.a.pass none c.requires.ready.0) in
    let two : All P c.push-2.new.self.items = subst (All P) (sym c.in_ok-push-2.ensures.items) (All-snoc P c.push.new.self.items c.args.b.pass one c.requires.ready.1) in
    subst (All P) (sym c.in_ok-push-3.ensures.items) (All-snoc P c.push-2.new.self.items c.args.c.pass two c.requires.ready.2)
