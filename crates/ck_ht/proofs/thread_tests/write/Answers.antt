use Rattle.std.proofs.Common.{true, sym, subst, ◌∙◌}
use Rattle.ck_epoch.specs.Lists.{Answers}
use Rattle.ck_htlaw.specs.Client.{home_of}
use Rattle.ck_ht.proofs.thread_tests.write.Goals as goal

pub write_stretch-requires-clause-handler : goal.write_stretch-requires-clause-handler
write_stretch-requires-clause-handler g c = subst (λ (f : g.row.F.Denot). Answers (λ item. true) (λ item. home_of item) (λ item. g.F.Fn.pre f (item, tt)) (λ item back. g.F.Fn.post f (item, tt) back)) (sym (c.await_answers-told.ensures.handler ∙ c.loop-k.invariant.handler)) c.requires.handler

pub barrier-given-requires-clause-handler : goal.barrier-given-requires-clause-handler
barrier-given-requires-clause-handler g c =
    let before = c.await_answers-told.ensures.handler ∙ c.loop-k.invariant.handler in
    let after = c.ask_and_mark-seen.ensures.handler ∙ c.write_stretch.ensures.handler in
    subst (λ (f : g.row.F.Denot). Answers (λ item. true) (λ item. home_of item) (λ item. g.F.Fn.pre f (item, tt)) (λ item back. g.F.Fn.post f (item, tt) back)) (sym (after ∙ before)) c.requires.handler
