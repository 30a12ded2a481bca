use Rattle.std.proofs.Common.{◌≤◌, ◌-◌, ◌++◌, drop, length}
use Rattle.ck_script.specs.Script.{said_of}
use Rattle.ck_report.specs.Numbered.{numbered, answer_line}
use Rattle.ck_report.specs.Pairing.{asked_lines}
use Rattle.ck_report.specs.Streaming.{IsStreamed}
use Rattle.ck_report.proofs.put.put_answers.Given as goal

-- with what the other lines and answers give the text would be whole
abbrev pub invariant-loop-start : goal.invariant-loop-start
invariant-loop-start g l = record {
  within : l.start ≤ length (g.F.LineList.items l.lines);
  count : l.before ≤ l.start;
  goes : IsStreamed (g.S.Sink.taken l.initial.sink) (g.S.Sink.taken l.sink) (l.initial.buffer.items ++ numbered (answer_line g.K.KeyWord.spelling l.f) 0 (asked_lines (said_of (g.F.LineList.items l.lines)) l.answers)) (l.buffer.items ++ numbered (answer_line g.K.KeyWord.spelling l.f) l.before (asked_lines (said_of (drop l.start (g.F.LineList.items l.lines))) l.left));
  lasting : g.S.Sink.faults l.initial.sink ≤ g.S.Sink.faults l.sink;
}

abbrev pub decreases-loop-start : goal.decreases-loop-start
decreases-loop-start g l = length (g.F.LineList.items l.lines) - l.start
