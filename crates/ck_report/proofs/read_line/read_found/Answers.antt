use Rattle.std.proofs.Common.{sym, ◌∙◌}
use Rattle.ck_report.specs.Text.{found_words}
use Rattle.ck_report.specs.Reports.{IsFound}
use Rattle.ck_report.proofs.Words.{none_read, numbered_found_words}
use Rattle.ck_report.proofs.read_line.read_found.Goals as goal

-- there is no number
pub returns-in_err-value-in-Some : goal.returns-in_err-value-in-Some
returns-in_err-value-in-Some c =
    none_read IsFound found_words c.args.text.now _ c.from_residual.ensures (λ f fits spelt.
    let cut = c.in-Some.ensures in
    let found = numbered_found_words f _ _ fits cut.1 (sym spelt ∙ cut.0) in
    c.in_err-value-in-Some.ensures found.0 found.1 found.2)
