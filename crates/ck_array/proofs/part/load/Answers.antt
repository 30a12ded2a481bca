use Rattle.std.proofs.Common.{ℕ, [], ◌∷◌, ap, ◌∙◌, subst, sym, arith}
use Rattle.ck_run.specs.declared.account.Step.TheVariants.{Load}
use Rattle.ck_run.specs.Run.{entry}
use Rattle.ck_run.specs.Tokens.{adding}
use Rattle.ck_epoch.specs.Calls.{MayFollow}
use Rattle.ck_arraylaw.specs.Host.{host}
use Rattle.ck_arraylaw.proofs.Tokens.{word_is}
use Rattle.ck_array.proofs.Loading.{may_load, loads}
use Rattle.ck_array.proofs.part.load.Goals as goal

pub read-requires-clause-word : goal.read-requires-clause-word
read-requires-clause-word g c =
    let fits = g.met.D.Within.within.fits c.args.domain.now.origin.config.client in
    let base = c.base.ensures ∙ ap g.D.Within.place c.client-client.ensures.same in
    omega arith

pub read-requires-clause-client : goal.read-requires-clause-client
read-requires-clause-client g c reading n _ =
    let o = c.args.domain.now.origin in
    let h = host g.D.Client.meaning g.D.Within.place g.D.Within.part in
    let word = word_is h o c.base.result (h.place c.client-client.result.now) c.args.at c.base.ensures (ap h.place c.client-client.ensures.same) in
    subst (λ (w : ℕ). MayFollow g.D.Client.meaning c.args.pass.now.token (entry g.O.Opens.opens (Load w n))) (sym word)
    (may_load h o g.met.D.Within.within c.args.pass.now.token (ap (λ w. w.origin) c.requires.table) reading.part g.O.Opens.opens c.args.at n c.requires.word c.requires.due)

pub returns-clause-local : goal.returns-clause-local
returns-clause-local g c y local =
    let o = c.args.domain.now.origin in
    let h = host g.D.Client.meaning g.D.Within.place g.D.Within.part in
    let t = c.args.pass.now.token in
    let word = word_is h o c.base.result (h.place c.client-client.result.now) c.args.at c.base.ensures (ap h.place c.client-client.ensures.same) in
    let due = c.requires.due in
    loads h o t c.read.new.pass.token g.O.Opens.opens c.args.at c.read.result c.requires.word due.own
    (ap (λ p. p.token) c.read.ensures.step ∙ ap (λ (k : ℕ). adding t (entry g.O.Opens.opens (Load k c.read.result) ∷ [])) word) y local
