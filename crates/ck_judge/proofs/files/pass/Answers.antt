use Rattle.ck_judge.proofs.Filing.{past_here, past_other}
use Rattle.ck_judge.proofs.files.pass.Goals as goal

pub returns-then-entry-file-clause-past : goal.returns-then-entry-file-clause-past
returns-then-entry-file-clause-past g c = past_here c.args.named.now c.args.at c.args.file c.index-named-at.result c.if-at-named.false c.index-named-at.is c.if-entry-file.true

pub returns-else-entry-file-clause-past : goal.returns-else-entry-file-clause-past
returns-else-entry-file-clause-past g c = past_other c.args.named.now c.args.at c.args.file c.index-named-at.result c.if-at-named.false c.index-named-at.is c.if-entry-file.false
