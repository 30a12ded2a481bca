use Rattle.std.proofs.Common.{◌≡◌, ◌≤◌, ◌<◌, length, get_or, arith, inl, inr, sym, ◌∙◌}
use Rattle.std.proofs.lemmas.Bool.{eqb-true, eqb-false}
use Rattle.std.proofs.lemmas.Int.Digits.{digits_more, digits_value_more}
use Rattle.ck_text.proofs.Decimals.{not_empty, not_led_by_zero, no_other_byte, not_above, read_whole}
use Rattle.ck_text.proofs.decimal.read_decimal.Goals as goal
use Rattle.ck_text.proofs.decimal.read_decimal.Goals.{else-word-eq48-via-then-word-eq48+else-word-gt1, else-word-eq48-via-else-word-eq48}

pub returns-then-is_empty : goal.returns-then-is_empty
returns-then-is_empty c n le same =
    not_empty n c.args.most c.args.word.now le c.ranges.most.fits same (eqb-true _ _ (sym c.is_empty.ensures ∙ c.if-is_empty.true))

pub returns-then-word-gt1 : goal.returns-then-word-gt1
returns-then-word-gt1 c n le same = not_led_by_zero n c.args.most c.args.word.now le c.ranges.most.fits same c.if-word-eq48.true c.if-word-gt1.true

pub returns-in-None : goal.returns-in-None
returns-in-None c n le same = elim c.in-None.ensures.none [
  | inl other ↦ no_other_byte n c.args.most c.args.word.now le c.ranges.most.fits same c.loop-b.b-index (omega arith) other
  | inr above ↦ not_above n c.args.most c.args.word.now le c.ranges.most.fits same c.loop-b.b-index (omega arith) (rw c.loop-b.invariant.value at above)
]

-- one more digit
pub loop-b-preserved : goal.loop-b-preserved
loop-b-preserved c =
    let facts = c.in-Some.ensures.some in record {
      digits = digits_more 10 c.args.word.now c.loop-b.b-index (omega arith) c.loop-b.invariant.digits facts.1;
      value = facts.0 ∙ (rw c.loop-b.invariant.value (sym (digits_value_more 10 c.args.word.now c.loop-b.b-index (omega arith))));
      small = facts.2;
    }

pub returns : goal.returns
returns c =
    let end : c.loop-b.b-index ≡ length c.args.word.now = omega arith in
    let filled : 0 < length c.args.word.now = omega (arith, eqb-false _ _ (sym c.is_empty.ensures ∙ c.if-is_empty.false)) in
    let lead = elim c.else-word-eq48.branch as (λ _. get_or c.args.word.now 0 0 ≡ 48 → length c.args.word.now ≤ 1) [
      | else-word-eq48-via-then-word-eq48+else-word-gt1 w ↦ λ e. w.if-word-gt1.false
      | else-word-eq48-via-else-word-eq48 w ↦ λ e. absurd (w.if-word-eq48.false e)
    ] in
    read_whole c.args.word.now c.loop-b.n c.args.most (rw end at c.loop-b.invariant.digits) (rw end at c.loop-b.invariant.value) c.loop-b.invariant.small c.ranges.most.fits filled lead
