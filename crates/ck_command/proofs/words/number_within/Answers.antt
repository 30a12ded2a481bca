use Rattle.std.proofs.Common.{arith, sym, rules}
use Rattle.ck_command.proofs.Parsing.{within_some, within_low}
use Rattle.ck_command.proofs.words.number_within.Goals as goal

pub returns-then-n-least : goal.returns-then-n-least
returns-then-n-least c = sym (within_some c.args.least c.args.most c.in-Some.n c.args.word.now (omega arith) c.in-Some.ensures.0 (search rules) (omega arith))

pub returns-else-n-least : goal.returns-else-n-least
returns-else-n-least c = sym (within_low c.args.least c.args.most c.in-Some.n c.args.word.now (omega arith) c.in-Some.ensures.0 (search rules) (omega arith))
