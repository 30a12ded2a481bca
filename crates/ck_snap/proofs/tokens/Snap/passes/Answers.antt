use Rattle.std.proofs.Common.{◌≡◌, ◌∙◌, ◌+◌, List, length, ap, sym, subst, arith}
use Rattle.ck_snap.specs.Tokens.{PassView, fresh_pass, AreFreshSnapPasses}
use Rattle.ck_snap.proofs.Numbering.{fresh_snoc}
use Rattle.ck_snap.proofs.tokens.Snap.passes.Goals as goal

pub loop-number-preserved : goal.loop-number-preserved
loop-number-preserved c =
    let snap = c.args.self.now in
    let h = c.loop-number.invariant in
    let at : c.loop-number.number ≡ 0 + length c.loop-number.passes.items = omega (arith, h.count, c.loop-number.passes.ok) in
    let pass = c.in_ok-pass.ensures.pass ∙ ap (fresh_pass snap) at in
    record {
      publisher = c.in_ok-pass.ensures.same.0 ∙ h.publisher;
      journal = c.in_ok-pass.ensures.same.1 ∙ h.journal;
      count = omega (arith, h.count, c.in_ok-push.ensures.len);
      fresh = subst (λ (ps : List PassView). AreFreshSnapPasses snap 0 ps) (sym c.in_ok-push.ensures.items) (fresh_snoc snap 0 c.loop-number.passes.items c.in_ok-pass.field-0 h.fresh pass);
    }
