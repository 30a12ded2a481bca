use Rattle.std.proofs.Common.{true, sym, subst}
use Rattle.ck_epoch.specs.Lists.{Answers}
use Rattle.ck_htlaw.specs.Client.{home_of}
use Rattle.ck_ht.proofs.thread_tests.write_stretch.Goals as goal

pub make-reply-requires-clause-handler : goal.make-reply-requires-clause-handler
make-reply-requires-clause-handler g c = subst (λ (f : g.row.F.Denot). Answers (λ item. true) (λ item. home_of item) (λ item. g.F.Fn.pre f (item, tt)) (λ item back. g.F.Fn.post f (item, tt) back)) (sym c.loop-i.invariant.handler) c.requires.handler
