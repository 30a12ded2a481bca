use Rattle.std.proofs.Common.{◌≡◌, ℕ, ◌+◌, ◌*◌, [], replicate, ap, ◌∙◌, subst, sym}
use Rattle.ck_epoch.specs.Itself.{itself}
use Rattle.ck_epoch.specs.State.{state}
use Rattle.ck_htlaw.specs.declared.client.HtClient.{HtClient}
use Rattle.ck_htlaw.specs.Client.{table as table_client}
use Rattle.ck_htlaw.specs.Host.{Host, host}
use Rattle.ck_htlaw.specs.Layout.{arena, counters_of}
use Rattle.ck_htwrite.specs.Arena.{IsKept}
use Rattle.ck_htwrite.specs.State.{IsShaped}
use Rattle.ck_htwrite.proofs.Opened.{opened_ready}
use Rattle.ck_htwrite.proofs.tests.opened.Goals as goal

pub returns-clause-ready : goal.returns-clause-ready
returns-clause-ready g c =
    let d = c.in_ok-domain in let s = c.in_ok-state in
    let h : Host HtClient = host table_client (λ x. 0) (λ x. x) in
    let many : counters_of c.args.client ≡ counters_of d.domain.origin.config.client = ap counters_of (sym (ap (λ a. a.client) d.ensures.about)) in
    opened_ready h (itself table_client) d.domain d.ensures.words.1 d.writer (ap (λ w. w.token) d.ensures.writer) (ap (λ w. w.waiting) d.ensures.writer) (ap (λ w. w.tally) d.ensures.writer) s.state
    (subst (λ (n : ℕ). IsShaped n s.state) many s.ensures.shape) (ap (λ x. x.root) s.ensures.state ∙ ap (λ (n : ℕ). 32 * arena n + 3) many) (ap (λ x. x.keys) s.ensures.state) (ap (λ x. x.tombstones) s.ensures.state)
    s.ensures.words (s.ensures.counters ∙ ap (λ (n : ℕ). replicate n 0) many)
    (subst (λ (n : ℕ). (place : ℕ) → IsKept n place s.state.root [] s.state.arena) many s.ensures.arena)

pub returns-clause-room : goal.returns-clause-room
returns-clause-room g c =
    let d = c.in_ok-domain in
    (ap (λ w. w.room) d.ensures.writer, ap (λ w. w.waiting) d.ensures.writer, ap (λ w. (state w.token).pending) d.ensures.writer)
