use Rattle.std.proofs.Common.{ℕ, ◌+◌, ap, subst, sym, arith}
use Rattle.ck_run.specs.declared.account.Step.TheVariants.{Store}
use Rattle.ck_run.specs.Run.{entry}
use Rattle.ck_epoch.specs.Calls.{MayFollow}
use Rattle.ck_htlaw.specs.Host.{host, lies}
use Rattle.ck_htlaw.proofs.Tokens.{word_is}
use Rattle.ck_htwrite.proofs.Writing.{may_step}
use Rattle.ck_htwrite.proofs.Making.{steps_is}
use Rattle.ck_htwrite.proofs.writes.store.Goals as goal

pub write-requires-clause-client : goal.write-requires-clause-client
write-requires-clause-client g c writing =
    let o = c.args.domain.now.origin in
    let h = host g.D.Client.meaning g.D.Within.place g.D.Within.part in
    let word = word_is h o c.base.result (h.place c.client-client.result.now) c.args.at c.base.ensures (ap h.place c.client-client.ensures.same) in
    subst (λ (w : ℕ). MayFollow g.D.Client.meaning c.args.writer.now.token (entry g.O.Opens.opens (Store w c.args.value))) (sym word)
    (may_step h o g.met.D.Within.within c.args.writer.now.token (ap (λ w. w.origin) c.requires.table) writing.part (entry g.O.Opens.opens (Store ((lies h o).base + c.args.at) c.args.value)) c.requires.due (omega arith) (omega arith))

pub returns : goal.returns
returns g c =
    let o = c.args.domain.now.origin in
    let h = host g.D.Client.meaning g.D.Within.place g.D.Within.part in
    let word = word_is h o c.base.result (h.place c.client-client.result.now) c.args.at c.base.ensures (ap h.place c.client-client.ensures.same) in
    record { step = steps_is h o _ _ _ _ c.write.ensures.step (ap (λ (w : ℕ). entry g.O.Opens.opens (Store w c.args.value)) word) c.write.ensures.part (c.write.ensures.same.0, c.write.ensures.same.1) }
