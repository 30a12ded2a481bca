use Rattle.std.proofs.Common.{◌+◌, ◌++◌, ◌∙◌, ap, sym, drop, map}
use Rattle.ck_report.specs.Numbered.{files_text}
use Rattle.ck_report.specs.ListText.{view_line}
use Rattle.ck_report.proofs.ListLines.{next_views}
use Rattle.ck_report.proofs.list_report.print_views.Goals as goal

pub loop-i-preserved : goal.loop-i-preserved
loop-i-preserved c =
    let rest = files_text view_line (c.loop-i.i + 1 + 1) (map (λ file. file.items) (drop (c.loop-i.i + 1) c.args.answers.now)) in
    let e = next_views view_line c.args.answers.now c.loop-i.i c.index-answers-i.result c.loop-i.out.items c.loop-i-test.true c.index-answers-i.is in
    record { whole = ap (λ t. t ++ rest) (rw c.deref.ensures.value at c.in_ok-print_each.ensures) ∙ (sym e ∙ c.loop-i.invariant.whole) }
