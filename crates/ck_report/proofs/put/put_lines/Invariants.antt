use Rattle.std.proofs.Common.{◌≡◌, ◌+◌, ◌≤◌, ◌++◌, length}
use Rattle.ck_report.specs.Numbered.{numbered}
use Rattle.ck_report.specs.Streaming.{IsStreamed}
use Rattle.ck_report.proofs.put.put_lines.Given as goal

-- with the lines of the other items the text would be whole
abbrev pub invariant-loop-rest : goal.invariant-loop-rest
invariant-loop-rest g l = record {
  count : l.before + length l.rest ≡ length l.items;
  goes : IsStreamed (g.S.Sink.taken l.initial.sink) (g.S.Sink.taken l.sink) (l.initial.buffer.items ++ numbered (g.P.LinePrinter.line l.printer) 0 l.items) (l.buffer.items ++ numbered (g.P.LinePrinter.line l.printer) l.before l.rest);
  lasting : g.S.Sink.faults l.initial.sink ≤ g.S.Sink.faults l.sink;
}

abbrev pub decreases-loop-rest : goal.decreases-loop-rest
decreases-loop-rest g l = length l.rest
