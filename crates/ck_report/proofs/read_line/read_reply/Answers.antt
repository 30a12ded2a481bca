use Rattle.std.proofs.Common.{sym, ◌∙◌}
use Rattle.ck_report.specs.Text.{reply_words}
use Rattle.ck_report.specs.Reports.{IsReply}
use Rattle.ck_report.proofs.Words.{none_read, numbered_reply_words}
use Rattle.ck_report.proofs.read_line.read_reply.Goals as goal

-- there is no number
pub returns-in_err-value-in-Some : goal.returns-in_err-value-in-Some
returns-in_err-value-in-Some c =
    none_read IsReply reply_words c.args.text.now _ c.from_residual.ensures (λ r fits spelt.
    let cut = c.in-Some.ensures in
    let found = numbered_reply_words r _ _ fits cut.1 (sym spelt ∙ cut.0) in
    c.in_err-value-in-Some.ensures found.0 found.1 found.2)
