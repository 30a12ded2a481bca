use Rattle.std.proofs.Common.{◌≡◌, ◌++◌, drop}
use Rattle.ck_report.specs.Text.{pair_lines}
use Rattle.ck_report.proofs.print.print_pairs.Given as goal

-- with the lines of the other pairs the text would be whole
abbrev pub invariant-loop-pair : goal.invariant-loop-pair
invariant-loop-pair g l = l.out.items ++ pair_lines g.K.KeyWord.spelling (drop l.pair-index l.pairs) ≡ l.initial.out.items ++ pair_lines g.K.KeyWord.spelling l.pairs
