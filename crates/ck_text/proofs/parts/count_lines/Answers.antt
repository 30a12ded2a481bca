use Rattle.std.proofs.Common.{arith, ◌<◌, length, sym, ◌∙◌}
use Rattle.std.proofs.lemmas.Bool.{eqb-false}
use Rattle.ck_text.proofs.Counting.{count_lines_is, open_closed, open_open}
use Rattle.ck_text.proofs.parts.count_lines.Goals as goal

pub returns-then-bytes-eq10 : goal.returns-then-bytes-eq10
returns-then-bytes-eq10 c =
    let some : 0 < length c.args.bytes.now = omega (arith, eqb-false _ _ (sym c.is_empty.ensures ∙ c.if-is_empty.false)) in
    omega (arith, c.count_feeds-feeds.ensures, count_lines_is c.args.bytes.now, open_closed c.args.bytes.now some c.if-bytes-eq10.true)

pub returns-else-bytes-eq10 : goal.returns-else-bytes-eq10
returns-else-bytes-eq10 c =
    let some : 0 < length c.args.bytes.now = omega (arith, eqb-false _ _ (sym c.is_empty.ensures ∙ c.if-is_empty.false)) in
    omega (arith, c.count_feeds-feeds.ensures, count_lines_is c.args.bytes.now, open_open c.args.bytes.now some c.if-bytes-eq10.false)
