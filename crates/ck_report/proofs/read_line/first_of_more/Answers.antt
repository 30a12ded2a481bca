use Rattle.ck_text.proofs.Cutting.{parts_some}
use Rattle.ck_report.proofs.read_line.first_of_more.Goals as goal

pub returns-in-Some : goal.returns-in-Some
returns-in-Some c = (rw c.in-Some.is at c.cut.ensures.parts, parts_some 32 c.in-Some.rest.now)
