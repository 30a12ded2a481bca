use Rattle.std.proofs.Common.{ℕ, ◌++◌, ◌∙◌, ap, bit_xor, arith}
use Rattle.ck_probe.specs.Mixing.{mix_of}
use Rattle.ck_gen.specs.Generated.{drawn_key, query_line}
use Rattle.ck_gen.proofs.Lines.{whole_next}
use Rattle.ck_gen.proofs.files.queries.Goals as goal

pub loop-i-preserved : goal.loop-i-preserved
loop-i-preserved c = record {
  within = omega (arith, c.loop-i-test.true);
  whole = whole_next query_line (λ (i : ℕ). drawn_key (mix_of i (bit_xor c.args.seed 1))) c.loop-i.i c.args.lines _ _ _ c.loop-i-test.true (c.in_ok-print_query.ensures ∙ ap (λ (x : ℕ). c.loop-i.out.items ++ query_line x) (c.draw_key.ensures ∙ ap drawn_key c.mix.ensures)) c.loop-i.invariant.whole;
}
