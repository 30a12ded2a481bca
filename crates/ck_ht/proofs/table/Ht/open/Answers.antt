use Rattle.std.proofs.Common.{◌≡◌, ℕ, ◌+◌, ◌*◌, ◌^◌, ◌≤◌, [], replicate, ap, ◌∙◌, sym, subst, arith}
use Rattle.ck_run.specs.Tokens.{origin}
use Rattle.ck_epoch.specs.State.{Origin, Token, state}
use Rattle.ck_signal.specs.declared.signals.Signals.{Signals}
use Rattle.ck_htlaw.specs.declared.client.HtClient.{HtClient}
use Rattle.ck_htlaw.specs.Layout.{arena, arena_words, counters_of, log_of, IsTableItem}
use Rattle.ck_htlaw.specs.Known.{knows}
use Rattle.ck_htlaw.specs.Linearized.{map_after}
use Rattle.ck_htlaw.specs.Reached.{with_signals}
use Rattle.ck_htwrite.specs.Entries.{HasKeys}
use Rattle.std.proofs.lemmas.List.Elements.{All-nil}
use Rattle.ck_epoch.specs.declared.item.Retired.{Retired}
use Rattle.ck_epoch.specs.Ends.{Writer}
use Rattle.ck_arena.specs.Arena.{unreturned}
use Rattle.ck_htwrite.specs.Arena.{AreTableItems, IsKept}
use Rattle.ck_htwrite.specs.Writes.{counters_in}
use Rattle.ck_ht.specs.Ends.{IsWriterReady}
use Rattle.ck_htwrite.specs.State.{IsShaped}
use Rattle.ck_htwrite.proofs.Opened.{opened_ready}
use Rattle.ck_events.proofs.Opening.{all_made}
use Rattle.ck_ht.proofs.AtOpening.{all_ready, none_done}
use Rattle.ck_ht.proofs.Keyed.{none_keyed}
use Rattle.ck_ht.proofs.Settling.{is_within}
use Rattle.ck_ht.proofs.Sizes.{half_at_opening}
use Rattle.ck_ht.proofs.table.Ht.open.Goals as goal

pub invariant_of-result-2 : goal.invariant_of-result-2
invariant_of-result-2 g c =
    let d = c.in_ok-domain in let s = c.in_ok-state in
    let is = ap (λ v. v.token) d.ensures.writer in
    let many : counters_of c.args.client ≡ counters_of d.domain.origin.config.client.client = ap counters_of (sym (ap (λ a. a.client.client) d.ensures.about ∙ c.new-signals.ensures.0)) in
    subst (λ (o : Origin (Signals HtClient)). IsWriterReady o d.writer s.state) (sym (ap (λ (t : Token (Signals HtClient)). origin t) is)) record {
      own = subst (λ (w : Writer (Signals HtClient) g.row.F.Denot). AreTableItems (counters_in with_signals d.domain.origin) 0 (unreturned (state w.token) w.waiting)) (sym d.ensures.writer) (All-nil (λ (k : Retired). IsTableItem (counters_in with_signals d.domain.origin) 0 k.item));
      given = ap (λ w. w.waiting) d.ensures.writer;
      room = let room = ap (λ w. w.room) d.ensures.writer in let counted = c.counter_count-room.ensures.count in omega arith;
      half = subst (λ (x : ℕ × ℕ). 2 * 2 ^ (log_of x.0 + 2) ≤ arena_words x.1) (λ i. (sym (ap (λ x. x.root) s.ensures.state) i, many i)) (half_at_opening c.args.client c.requires.least);
      keys = subst (λ (t : Token (Signals HtClient)). HasKeys (map_after (knows with_signals d.domain.origin t).log)) (sym is) none_keyed;
      ready = (opened_ready with_signals is_within d.domain d.ensures.words.1 d.writer is (ap (λ w. w.waiting) d.ensures.writer) (ap (λ w. w.tally) d.ensures.writer) s.state
          (subst (λ (n : ℕ). IsShaped n s.state) many s.ensures.shape) (ap (λ x. x.root) s.ensures.state ∙ ap (λ (n : ℕ). 32 * arena n + 3) many) (ap (λ x. x.keys) s.ensures.state) (ap (λ x. x.tombstones) s.ensures.state)
          s.ensures.words (s.ensures.counters ∙ ap (λ (n : ℕ). replicate n 0) many)
          (subst (λ (n : ℕ). (place : ℕ) → IsKept n place s.state.root [] s.state.arena) many s.ensures.arena));
    }

pub returns-clause-made : goal.returns-clause-made
returns-clause-made g c = let d = c.in_ok-domain in all_made d.domain d.passes.items d.ensures.passes.1

pub returns-clause-ready : goal.returns-clause-ready
returns-clause-ready g c = let d = c.in_ok-domain in all_ready d.domain d.passes.items d.ensures.passes.1

pub returns-clause-events : goal.returns-clause-events
returns-clause-events g c = let d = c.in_ok-domain in none_done d.domain d.passes.items d.ensures.passes.1
