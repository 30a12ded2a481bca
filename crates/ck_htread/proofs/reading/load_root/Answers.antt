use Rattle.std.proofs.Common.{ℕ, ◌+◌, List, [], ◌∷◌, add-zero, ap, ◌∙◌, subst, sym}
use Rattle.ck_run.specs.declared.account.Step.TheVariants.{Load}
use Rattle.ck_run.specs.Run.{entry}
use Rattle.ck_run.specs.Tokens.{adding}
use Rattle.ck_epoch.specs.State.{base_of}
use Rattle.ck_epoch.specs.Calls.{MayFollow}
use Rattle.ck_htlaw.specs.Calls.{look}
use Rattle.ck_htlaw.specs.Host.{host}
use Rattle.ck_htlaw.proofs.Tokens.{word_is}
use Rattle.ck_htread.proofs.RootsHold.{root_loaded}
use Rattle.ck_htread.proofs.WholeLook.{may_enter, enters}
use Rattle.ck_htread.proofs.reading.load_root.Goals as goal

pub read-requires-clause-client : goal.read-requires-clause-client
read-requires-clause-client g c reading n _ =
    let o = c.args.domain.now.origin in
    let ht = host g.D.Client.meaning g.D.Within.place g.D.Within.part in
    let was = c.requires.between in
    let word = word_is ht o c.base.result (ht.place c.client.result.now) 0 c.base.ensures (ap ht.place c.client.ensures.same) ∙ add-zero (base_of o + ht.place o.config.client) in
    subst (λ (w : ℕ). MayFollow g.D.Client.meaning c.args.pass.now.token (entry g.O.Opens.opens (Load w n))) (sym word)
    (may_enter ht o g.met.D.Within.within c.args.pass.now.token (ap (λ w. w.origin) c.requires.table) reading.part was.reader_state was.local was.outside g.O.Opens.opens c.args.key n c.requires.name)

pub returns-clause-root : goal.returns-clause-root
returns-clause-root g c =
    let o = c.args.domain.now.origin in
    let ht = host g.D.Client.meaning g.D.Within.place g.D.Within.part in
    let word = word_is ht o c.base.result (ht.place c.client.result.now) 0 c.base.ensures (ap ht.place c.client.ensures.same) ∙ add-zero (base_of o + ht.place o.config.client) in
    root_loaded ht o (c.roots_law.ensures o) c.args.pass.now.token c.read.new.pass.token (ap (λ w. w.origin) c.requires.table) c.read.ensures.part g.O.Opens.opens c.read.result
    (ap (λ p. p.token) c.read.ensures.step ∙ ap (λ (w : ℕ). adding c.args.pass.now.token (entry g.O.Opens.opens (Load w c.read.result) ∷ [])) word)

pub returns-clause-at : goal.returns-clause-at
returns-clause-at g c =
    let o = c.args.domain.now.origin in
    let ht = host g.D.Client.meaning g.D.Within.place g.D.Within.part in
    let was = c.requires.between in
    let word = word_is ht o c.base.result (ht.place c.client.result.now) 0 c.base.ensures (ap ht.place c.client.ensures.same) ∙ add-zero (base_of o + ht.place o.config.client) in
    enters ht o c.args.pass.now.token c.read.new.pass.token was.reader_state c.args.key c.read.result was.local was.outside
    (ap (λ p. p.token) c.read.ensures.step ∙ (ap (λ (os : List ℕ). adding c.args.pass.now.token (entry os (Load (base_of o + (c.base.result + 0)) c.read.result) ∷ [])) c.requires.name
    ∙ ap (λ (w : ℕ). adding c.args.pass.now.token (entry (look ∷ c.args.key ∷ []) (Load w c.read.result) ∷ [])) word))
