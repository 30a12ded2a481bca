use Rattle.std.proofs.Common.{◌≡◌, ◌∙◌, ◌+◌, ◌<◌, ap, subst, vec_len, arith}
use Rattle.ck_snap.specs.Tokens.{WriterView, IsPassOf, log}
use Rattle.ck_snap.specs.Places.{Writing, log_of_events, ArePlacedIn}
use Rattle.ck_pool.specs.Limits.{call_bound}
use Rattle.ck_pool.proofs.Files.{all_front}
use Rattle.ck_pool.proofs.Snapping.{tied_snoc}
use Rattle.ck_pool.proofs.over_snap.tie_all.Goals as goal

pub loop-pass-preserved : goal.loop-pass-preserved
loop-pass-preserved g c =
    let inv = c.loop-pass.invariant in
    let t = c.in_ok-tie.ensures.ok in
    let p = c.in-Some.pass in
    let whole = c.in-Some.ensures.items in
    let len : vec_len c.pop.new.self + 1 ≡ vec_len c.loop-pass.left = c.in-Some.ensures.cases in
    let one : c.tie.new.w.calls ≡ c.loop-pass.hand.calls + 1 = ap (λ (w : WriterView). w.calls) t.writer in
    let before = inv.calls in
    record {
      hand = ap (λ (w : WriterView). w.origin) t.writer ∙ inv.hand;
      done = ap (λ (w : WriterView). w.done) t.writer ∙ inv.done;
      calls = omega arith;
      left = all_front (λ p. IsPassOf c.args.snap.now p × (p.calls < call_bound)) c.loop-pass.left.items c.pop.new.self.items p whole inv.left;
      tied = λ all. inv.tied (tied_snoc (log c.args.hand.now) c.pop.new.self.items c.loop-pass.left.items p whole (subst (λ (es : Writing). ArePlacedIn (log_of_events es) p.done p.places) inv.done t.placed) all);
    }
