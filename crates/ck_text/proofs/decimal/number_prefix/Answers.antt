use Rattle.std.proofs.Common.{arith, sym, ◌∙◌}
use Rattle.std.proofs.lemmas.Int.Digits.{digits_more, digits_value_more}
use Rattle.ck_text.proofs.Decimals.{prefix_spelt}
use Rattle.ck_text.proofs.decimal.number_prefix.Goals as goal

pub returns-then-is_spelt : goal.returns-then-is_spelt
returns-then-is_spelt c =
    let spelt = c.is_spelt.ensures.0 c.if-is_spelt.true in
    let lt = c.loop-i-test.true in (
      omega arith,
      lt,
      prefix_spelt c.args.text.now c.loop-i.i c.loop-i.n lt c.loop-i.invariant.digits c.loop-i.invariant.value (omega arith) spelt.0 spelt.1,
    )

-- one more digit
pub loop-i-preserved : goal.loop-i-preserved
loop-i-preserved c = record {
  small = omega (arith, c.add_digit-n.ensures.more, c.add_digit-n.ensures.digit);
  digits = digits_more 10 c.args.text.now c.loop-i.i (omega arith) c.loop-i.invariant.digits c.add_digit-n.ensures.digit;
  value = c.add_digit-n.ensures.more ∙ (rw c.loop-i.invariant.value (sym (digits_value_more 10 c.args.text.now c.loop-i.i (omega arith))));
}
