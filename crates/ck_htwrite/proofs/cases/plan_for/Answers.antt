use Rattle.std.proofs.Common.{◌≡◌, ℕ, List, sym, ap, ◌∙◌, subst}
use Rattle.ck_epoch.specs.State.{base_of}
use Rattle.ck_htplan.specs.Plans.{IsPlan}
use Rattle.ck_htplan.specs.Planning.{plan_of}
use Rattle.ck_htplan.specs.Region.{order_of, view_of}
use Rattle.ck_htlaw.specs.Host.{host, first, inner}
use Rattle.ck_htlaw.specs.Layout.{log_of}
use Rattle.ck_htlaw.specs.Client.{hash_of}
use Rattle.ck_htwrite.specs.Writes.{counters_in}
use Rattle.ck_htwrite.proofs.Agree.{plan_same}
use Rattle.ck_htwrite.proofs.Plans.{plan_in, plan_states, hash_is}
use Rattle.ck_htwrite.proofs.cases.plan_for.Goals as goal

pub returns : goal.returns
returns g c =
    let o = c.args.domain.now.origin in let h = host g.D.Client.meaning g.D.Within.place g.D.Within.part in let client = (inner h o).config.client in
    let s = c.args.state.now in let key : ℕ = c.args.key in let order = order_of (log_of s.root) (hash_of client) in
    let hash = hash_is client c.inner.result.now key c.key_code-hash.result c.low_word.result c.high_word.result c.key_code-hash.ensures c.low_word.ensures c.high_word.ensures (c.inner.ensures ∙ ap h.part c.client.ensures.same) in
    let right = subst (λ (xs : List ℕ). IsPlan order (view_of xs) key c.plan.result × (c.plan.result ≡ plan_of order (view_of xs) key)) c.deref.ensures.value (c.plan.ensures (hash_of client) hash) in
    record {
      inside = plan_in client (log_of s.root) (view_of s.words.items) key c.plan.result right.0;
      states = plan_states client (log_of s.root) (view_of s.words.items) key c.plan.result right.0;
      plan = λ p r. plan_same (base_of (inner h o)) (first h o) (counters_in h o) client p s r key ∙ sym right.1;
    }
