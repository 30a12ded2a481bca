use Rattle.ck_epoch.proofs.TwoRounds.{HasWaited}
use Rattle.ck_epoch.proofs.domain.Domain.round.Given as goal

abbrev pub invariant-loop-rec : goal.invariant-loop-rec
invariant-loop-rec g l = HasWaited g.C.Client.meaning l.epoch l.rec l.initial.token l.token
