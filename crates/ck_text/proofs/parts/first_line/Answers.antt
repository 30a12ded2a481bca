use Rattle.ck_text.proofs.Cutting.{lines_more}
use Rattle.ck_text.proofs.parts.first_line.Goals as goal

pub returns-in-Some-clause-lines : goal.returns-in-Some-clause-lines
returns-in-Some-clause-lines c = lines_more c.args.bytes.now c.cut.result.0.now c.in-Some.rest.now (rw c.in-Some.is at c.cut.ensures.parts)
