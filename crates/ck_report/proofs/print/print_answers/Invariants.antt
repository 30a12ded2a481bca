use Rattle.std.proofs.Common.{◌≡◌, ◌+◌, ◌++◌, drop}
use Rattle.ck_report.specs.Text.{answer_lines}
use Rattle.ck_report.proofs.print.print_answers.Given as goal

-- with the lines of the other answers the text would be whole
abbrev pub invariant-loop-answer : goal.invariant-loop-answer
invariant-loop-answer g l = record {
  count : l.i ≡ l.answer-index;
  whole : l.out.items ++ answer_lines g.K.KeyWord.spelling l.f (l.i + 1) (drop l.answer-index l.answers) ≡ l.initial.out.items ++ answer_lines g.K.KeyWord.spelling l.f 1 l.answers;
}
