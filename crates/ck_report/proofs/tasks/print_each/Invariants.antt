use Rattle.std.proofs.Common.{◌≡◌, ◌+◌, ◌++◌, drop}
use Rattle.ck_report.specs.Numbered.{numbered}
use Rattle.ck_report.proofs.tasks.print_each.Given as goal

-- with the lines of the other items the text would be whole
abbrev pub invariant-loop-item : goal.invariant-loop-item
invariant-loop-item g l = record {
  count : l.number ≡ l.before + l.item-index;
  whole : l.out.items ++ numbered (g.P.LinePrinter.line l.printer) l.number (drop l.item-index l.items) ≡ l.initial.out.items ++ numbered (g.P.LinePrinter.line l.printer) l.before l.items;
}
