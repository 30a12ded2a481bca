use Rattle.std.proofs.Common.{arith}
use Rattle.ck_signal.specs.contracts.tests.CounterClient.TheImpl.{ghosts}
use Rattle.ck_signal.proofs.Steps.{may_step}
use Rattle.ck_signal.proofs.tests.look.Goals as goal

pub read-found-requires-clause-client : goal.read-found-requires-clause-client
read-found-requires-clause-client c reading n _ = may_step ghosts.meaning c.args.pass.now.token c.args.domain.now _ c.requires.table reading.part (omega arith) (tt {0})
