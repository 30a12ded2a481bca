use Rattle.std.proofs.Common.{arith}
use Rattle.ck_ring.specs.State.{size_of}
use Rattle.ck_pool.proofs.Dequeuing.{may_again}
use Rattle.ck_pool.proofs.worker.dequeue.Goals as goal

pub try_dequeue-requires-clause-calls : goal.try_dequeue-requires-clause-calls
try_dequeue-requires-clause-calls c = omega (arith, c.requires.may.few)

pub returns-clause-may : goal.returns-clause-may
returns-clause-may c = may_again (size_of c.args.ring.now.origin) c.args.consumer.now c.try_dequeue.new.c c.try_dequeue.result c.requires.may c.try_dequeue.ensures.steps c.try_dequeue.ensures.calls
