use Rattle.std.proofs.Common.{◌+◌, ◌≤◌, ◌++◌, drop}
use Rattle.ck_report.specs.Text.{file_lines}
use Rattle.ck_report.specs.Streaming.{IsStreamed}
use Rattle.ck_report.proofs.Answering.{paired}
use Rattle.ck_report.proofs.put.put_files.Given as goal

-- with the lines of the other files the text would be whole
abbrev pub invariant-loop-i : goal.invariant-loop-i
invariant-loop-i g l = record {
  goes : IsStreamed (g.S.Sink.taken l.initial.sink) (g.S.Sink.taken l.sink) (l.initial.buffer.items ++ file_lines g.K.KeyWord.spelling 1 (paired g.F.LineList.items l.asks l.answers)) (l.buffer.items ++ file_lines g.K.KeyWord.spelling (l.i + 1) (paired g.F.LineList.items (drop l.i l.asks) (drop l.i l.answers)));
  lasting : g.S.Sink.faults l.initial.sink ≤ g.S.Sink.faults l.sink;
}
