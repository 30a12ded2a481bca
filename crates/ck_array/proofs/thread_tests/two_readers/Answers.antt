use Rattle.std.proofs.Common.{subst}
use Rattle.std.specs.Prelude.{Option, IfSome}
use Rattle.std.proofs.lemmas.List.Elements.{All-pop}
use Rattle.ck_epoch.specs.Ends.{Pass}
use Rattle.ck_signal.specs.declared.signals.Signals.{Signals}
use Rattle.ck_arraylaw.specs.declared.client.ArrayClient.{ArrayClient}
use Rattle.ck_array.specs.Ends.{IsPassReady}
use Rattle.ck_array.proofs.thread_tests.two_readers.Goals as goal

pub returns-clause-ready : goal.returns-clause-ready
returns-clause-ready g c =
    let P : Pass (Signals ArrayClient) → Type 0 = λ q. IsPassReady c.in_ok-array.array.origin q in
    let second = All-pop P c.in_ok-array.passes.items c.pop.new.self.items c.pop.result c.pop.ensures.items c.in_ok-array.ensures.ready in
    let first = All-pop P c.pop.new.self.items c.pop-2.new.self.items c.pop-2.result c.pop-2.ensures.items second.0 in
    (subst (λ (r : Option (Pass (Signals ArrayClient))). IfSome r P) c.unwrap-first.ensures first.1, subst (λ (r : Option (Pass (Signals ArrayClient))). IfSome r P) c.unwrap-second.ensures second.1)
