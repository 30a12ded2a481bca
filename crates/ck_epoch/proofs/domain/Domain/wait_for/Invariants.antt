use Rattle.ck_epoch.proofs.Waits.{HasLooked}
use Rattle.ck_epoch.proofs.domain.Domain.wait_for.Given as goal

abbrev pub invariant-loop : goal.invariant-loop
invariant-loop g l = HasLooked g.C.Client.meaning l.epoch l.rec l.initial.token l.token
