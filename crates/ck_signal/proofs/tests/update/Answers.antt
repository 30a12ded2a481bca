use Rattle.std.proofs.Common.{arith}
use Rattle.ck_signal.specs.contracts.tests.CounterClient.TheImpl.{ghosts}
use Rattle.ck_signal.proofs.Steps.{may_step}
use Rattle.ck_signal.proofs.tests.update.Goals as goal

pub write-requires-clause-client : goal.write-requires-clause-client
write-requires-clause-client g c writing = may_step ghosts.meaning c.args.writer.now.token c.args.domain.now _ c.requires.table writing.part (omega arith) (tt {0})
