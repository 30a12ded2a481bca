use Rattle.std.proofs.Common.{ℕ, ◌++◌, ◌∙◌, ap, arith}
use Rattle.ck_history.specs.declared.update.Update.{Update}
use Rattle.ck_probe.specs.Mixing.{mix_of}
use Rattle.ck_gen.specs.Generated.{drawn_update, update_line}
use Rattle.ck_gen.proofs.Lines.{whole_next}
use Rattle.ck_gen.proofs.files.updates.Goals as goal

pub loop-i-preserved : goal.loop-i-preserved
loop-i-preserved c = record {
  within = omega (arith, c.loop-i-test.true);
  whole = whole_next update_line (λ (i : ℕ). drawn_update (mix_of i c.args.seed)) c.loop-i.i c.args.lines _ _ _ c.loop-i-test.true (c.in_ok-print_update.ensures ∙ ap (λ (x : Update ℕ). c.loop-i.out.items ++ update_line x) (c.draw_update.ensures ∙ ap drawn_update c.mix.ensures)) c.loop-i.invariant.whole;
}
