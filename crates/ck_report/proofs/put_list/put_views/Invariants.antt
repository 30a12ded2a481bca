use Rattle.std.proofs.Common.{◌+◌, ◌≤◌, ◌++◌, drop, map}
use Rattle.ck_report.specs.Numbered.{files_text}
use Rattle.ck_report.specs.ListText.{view_line}
use Rattle.ck_report.specs.Streaming.{IsStreamed}
use Rattle.ck_report.proofs.put_list.put_views.Given as goal

-- with the lines of the other files the text would be whole
abbrev pub invariant-loop-i : goal.invariant-loop-i
invariant-loop-i g l = record {
  goes : IsStreamed (g.S.Sink.taken l.initial.sink) (g.S.Sink.taken l.sink) (l.initial.buffer.items ++ files_text view_line 1 (map (λ file. file.items) l.answers)) (l.buffer.items ++ files_text view_line (l.i + 1) (map (λ file. file.items) (drop l.i l.answers)));
  lasting : g.S.Sink.faults l.initial.sink ≤ g.S.Sink.faults l.sink;
}
