use Rattle.std.proofs.Common.{ℕ, [], ◌∷◌, ap, ◌∙◌, subst, sym}
use Rattle.ck_run.specs.declared.account.Step.TheVariants.{Store}
use Rattle.ck_run.specs.Run.{entry}
use Rattle.ck_run.specs.Tokens.{adding}
use Rattle.ck_epoch.specs.Calls.{MayFollow}
use Rattle.ck_arraylaw.specs.Host.{host}
use Rattle.ck_arraylaw.proofs.Tokens.{word_is}
use Rattle.ck_array.proofs.CommitSteps.{may_store, stored}
use Rattle.ck_array.proofs.committing.store.Goals as goal

pub write-requires-clause-client : goal.write-requires-clause-client
write-requires-clause-client g c writing =
    let o = c.args.domain.now.origin in
    let h = host g.D.Client.meaning g.D.Within.place g.D.Within.part in
    let word = word_is h o c.base.result (h.place c.client-client.result.now) c.args.at c.base.ensures (ap h.place c.client-client.ensures.same) in
    subst (λ (w : ℕ). MayFollow g.D.Client.meaning c.args.writer.now.token (entry g.O.Opens.opens (Store w c.args.value))) (sym word)
    (may_store h o g.met.D.Within.within c.args.writer.now.token (ap (λ w. w.origin) c.requires.table) writing.part g.O.Opens.opens c.args.at c.args.value c.requires.word c.requires.due)

pub returns-clause-local : goal.returns-clause-local
returns-clause-local g c p local =
    let o = c.args.domain.now.origin in
    let h = host g.D.Client.meaning g.D.Within.place g.D.Within.part in
    let t = c.args.writer.now.token in
    let word = word_is h o c.base.result (h.place c.client-client.result.now) c.args.at c.base.ensures (ap h.place c.client-client.ensures.same) in
    stored h o t c.write.new.writer.token g.O.Opens.opens c.args.at c.args.value c.requires.word
    (ap (λ p. p.token) c.write.ensures.step ∙ ap (λ (k : ℕ). adding t (entry g.O.Opens.opens (Store k c.args.value) ∷ [])) word) p local
