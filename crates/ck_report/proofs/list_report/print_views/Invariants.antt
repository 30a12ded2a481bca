use Rattle.std.proofs.Common.{◌≡◌, ◌+◌, ◌++◌, drop, map}
use Rattle.ck_report.specs.Numbered.{files_text}
use Rattle.ck_report.specs.ListText.{view_line}
use Rattle.ck_report.proofs.list_report.print_views.Given as goal

-- with the lines of the other files the text would be whole
abbrev pub invariant-loop-i : goal.invariant-loop-i
invariant-loop-i l = record {
  whole : l.out.items ++ files_text view_line (l.i + 1) (map (λ file. file.items) (drop l.i l.answers)) ≡ l.initial.out.items ++ files_text view_line 1 (map (λ file. file.items) l.answers);
}
