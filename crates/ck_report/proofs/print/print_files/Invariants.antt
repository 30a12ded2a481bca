use Rattle.std.proofs.Common.{◌≡◌, ◌+◌, ◌++◌, drop, map}
use Rattle.ck_report.specs.Text.{file_lines}
use Rattle.ck_report.proofs.print.print_files.Given as goal

-- with the lines of the other files the text would be whole
abbrev pub invariant-loop-answers : goal.invariant-loop-answers
invariant-loop-answers g l = record {
  count : l.f ≡ l.answers-index;
  whole : l.out.items ++ file_lines g.K.KeyWord.spelling (l.f + 1) (map (λ file. file.items) (drop l.answers-index l.files)) ≡ l.initial.out.items ++ file_lines g.K.KeyWord.spelling 1 (map (λ file. file.items) l.files);
}
