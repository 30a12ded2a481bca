use Rattle.std.proofs.Common.{true, sym, subst}
use Rattle.ck_epoch.specs.Lists.{Answers}
use Rattle.ck_htlaw.specs.Client.{home_of}
use Rattle.ck_ht.proofs.Sizes.{whole_room}
use Rattle.ck_ht.proofs.tests.come_and_go.Goals as goal

pub set-set-requires-clause-room : goal.set-set-requires-clause-room
set-set-requires-clause-room g c = whole_room _ _ c.requires.arena

pub set-set-requires-clause-handler : goal.set-set-requires-clause-handler
set-set-requires-clause-handler g c = subst (λ (f : g.row.F.Denot). Answers (λ item. true) (λ item. home_of item) (λ item. g.F.Fn.pre f (item, tt)) (λ item back. g.F.Fn.post f (item, tt) back)) (sym c.loop-i.invariant.handler) c.requires.handler
