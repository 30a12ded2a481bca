use Rattle.std.proofs.Common.{map}
use Rattle.std.proofs.lemmas.Result.{err_from_is_err_and}
use Rattle.ck_report.specs.Reports.{parts_of}
use Rattle.ck_lookup.specs.Tables.{table_kind}
use Rattle.ck_lookup.specs.Causes.{AreSaid}
use Rattle.ck_lookup.proofs.Verdicts.{judged_mapped, report_not_judged}
use Rattle.ck_lookup.proofs.judging.judge_files.Goals as goal

pub returns-in_err-report-in-len2-up-clause-refused : goal.returns-in_err-report-in-len2-up-clause-refused
returns-in_err-report-in-len2-up-clause-refused c u qs r is =
    let scripts = c.in_ok-scripts-in-len2-up in
    let p = err_from_is_err_and c.from_residual-in_err-report-in-len2-up.result c.from_residual-in_err-report-in-len2-up.ensures.1 in
    let same = judged_mapped c.args.files.now c.update_file-item.result c.report_file-item.result u qs r c.requires is c.update_file-item.is c.report_file-item.is in
    let said : AreSaid table_kind u qs scripts.scripts.ups.items (map (λ file. file.items) scripts.scripts.asks.items) = rw (c.deref.ensures.value, same.0, same.1) at scripts.ensures.said in
    rw (p.1, p.2) (report_not_judged u qs r _ _ _ said (rw (c.deref-in-len2-up.ensures.value, same.2) at c.in_err-report-in-len2-up.ensures.refused))

pub returns-in-Ok-clause-judged : goal.returns-in-Ok-clause-judged
returns-in-Ok-clause-judged c u qs r is =
    let scripts = c.in_ok-scripts-in-len2-up in
    let same = judged_mapped c.args.files.now c.update_file-item.result c.report_file-item.result u qs r c.requires is c.update_file-item.is c.report_file-item.is in
    record {
      ups = scripts.scripts.ups.items;
      asks = map (λ file. file.items) scripts.scripts.asks.items;
      said = rw (c.deref.ensures.value, same.0, same.1) at scripts.ensures.said;
      report = parts_of c.in_ok-report-in-len2-up.report;
      reads = rw (c.deref-in-len2-up.ensures.value, same.2) at c.in_ok-report-in-len2-up.ensures.reads;
      judged = rw c.deref-in-len2-up-2.ensures.value at c.in-Ok.ensures.verdict;
      exact = rw c.deref-in-len2-up-2.ensures.value at c.in-Ok.ensures.legal;
    }
