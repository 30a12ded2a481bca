use Rattle.std.proofs.Common.{subst, sym}
use Rattle.std.specs.Prelude.{All}
use Rattle.std.proofs.lemmas.List.Elements.{All-nil}
use Rattle.ck_run.proofs.Lists.{All-snoc}
use Rattle.ck_epoch.specs.Ends.{Pass}
use Rattle.ck_signal.specs.declared.signals.Signals.{Signals}
use Rattle.ck_arraylaw.specs.declared.client.ArrayClient.{ArrayClient}
use Rattle.ck_array.specs.Ends.{IsPassReady}
use Rattle.ck_array.proofs.thread_tests.close.Goals as goal

pub close-requires-clause-ready : goal.close-requires-clause-ready
close-requires-clause-ready g c =
    let P : Pass (Signals ArrayClient) → Type 0 = λ q. IsPassReady c.args.array.origin q in
    let none : All P c.in_ok-passes.passes.items = subst (All P) (sym c.in_ok-passes.ensures.items) (All-nil P) in
    let one : All P c.push.new.self.items = subst (All P) (sym c.in_ok-push.ensures.items) (All-snoc P c.in_ok-passes.passes.items c.args.first none c.requires.ready.0) in
    subst (All P) (sym c.in_ok-push-2.ensures.items) (All-snoc P c.push.new.self.items c.args.second one c.requires.ready.1)
