use Rattle.ck_report.proofs.Answering.{asked_end}
use Rattle.ck_report.proofs.pairing.push_pair.Goals as goal

pub returns-then-next-answers-clause-paired : goal.returns-then-next-answers-clause-paired
returns-then-next-answers-clause-paired g c later =
    rw c.in-Ask.is (asked_end c.args.block.now.items c.in-Ask.key later c.args.answers.now c.args.next c.if-next-answers.true)
