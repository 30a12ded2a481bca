use Rattle.std.proofs.Common.{◌∙◌}
use Rattle.ck_judge.proofs.Filing.{first_here, first_other}
use Rattle.ck_judge.proofs.files.answers_at.Goals as goal

pub returns-then-entry-file : goal.returns-then-entry-file
returns-then-entry-file g c = c.as_slice.ensures.value ∙ first_here c.args.named.now c.args.at c.args.file c.index-named-at.result c.if-at-named.false c.index-named-at.is c.if-entry-file.true

pub returns-else-entry-file : goal.returns-else-entry-file
returns-else-entry-file g c = first_other c.args.named.now c.args.at c.args.file c.index-named-at.result c.if-at-named.false c.index-named-at.is c.if-entry-file.false
