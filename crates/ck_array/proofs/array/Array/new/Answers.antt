use Rattle.std.proofs.Common.{ℕ, ◌≤◌, ap, sym, subst, arith}
use Rattle.ck_run.specs.Tokens.{origin}
use Rattle.ck_epoch.specs.State.{Origin, Token}
use Rattle.ck_signal.specs.declared.signals.Signals.{Signals}
use Rattle.ck_arraylaw.specs.declared.client.ArrayClient.{ArrayClient}
use Rattle.ck_array.specs.Ends.{IsWriterReady}
use Rattle.ck_events.proofs.Opening.{all_made}
use Rattle.ck_array.proofs.AtOpening.{all_ready, none_done, opened_ready}
use Rattle.ck_array.proofs.array.Array.new.Goals as goal

pub invariant_of-result-2 : goal.invariant_of-result-2
invariant_of-result-2 g c =
    let d = c.in_ok-domain in let s = c.in_ok-state in
    let is = ap (λ v. v.token) d.ensures.writer in
    subst (λ (o : Origin (Signals ArrayClient)). IsWriterReady o d.writer s.state) (sym (ap (λ (t : Token (Signals ArrayClient)). origin t) is))
    (opened_ready d.domain d.writer s.state is (ap (λ v. v.waiting) d.ensures.writer) (ap (λ v. v.tally) d.ensures.writer) (subst (λ (k : ℕ). 4096 ≤ k) (sym (ap (λ v. v.room) d.ensures.writer)) (omega arith)) s.ensures.lists s.ensures.region s.ensures.arena s.ensures.kept)

pub returns-clause-made : goal.returns-clause-made
returns-clause-made g c = let d = c.in_ok-domain in all_made d.domain d.passes.items d.ensures.passes.1

pub returns-clause-ready : goal.returns-clause-ready
returns-clause-ready g c = let d = c.in_ok-domain in all_ready d.domain d.passes.items d.ensures.passes.1

pub returns-clause-events : goal.returns-clause-events
returns-clause-events g c = let d = c.in_ok-domain in none_done d.domain d.passes.items d.ensures.passes.1
