use Rattle.std.proofs.Common.{ℕ, ◌+◌, [], ◌∷◌, ap, ◌∙◌, subst, sym, arith}
use Rattle.ck_run.specs.declared.account.Step.TheVariants.{Load}
use Rattle.ck_run.specs.Run.{further}
use Rattle.ck_run.specs.Tokens.{adding}
use Rattle.ck_epoch.specs.Calls.{MayFollow}
use Rattle.ck_htlaw.specs.Host.{host, lies}
use Rattle.ck_htlaw.proofs.Tokens.{word_is}
use Rattle.ck_htread.proofs.Loads.{may_load, loads}
use Rattle.ck_htread.proofs.reading.load.Goals as goal

pub read-requires-clause-word : goal.read-requires-clause-word
read-requires-clause-word g c =
    let fits = g.met.D.Within.within.fits c.args.domain.now.origin.config.client in
    let base = c.base.ensures ∙ ap g.D.Within.place c.client-client.ensures.same in
    omega arith

pub read-requires-clause-client : goal.read-requires-clause-client
read-requires-clause-client g c reading n _ =
    let o = c.args.domain.now.origin in
    let ht = host g.D.Client.meaning g.D.Within.place g.D.Within.part in
    let due = c.requires.due in
    let word = word_is ht o c.base.result (ht.place c.client-client.result.now) c.args.at c.base.ensures (ap ht.place c.client-client.ensures.same) in
    subst (λ (w : ℕ). MayFollow g.D.Client.meaning c.args.pass.now.token (further (Load w n))) (sym word)
    (may_load ht o g.met.D.Within.within c.args.pass.now.token (ap (λ w. w.origin) c.requires.table) reading.part due.0 due.1 due.2 due.3 due.4 ((lies ht o).base + c.args.at) n due.5 (omega arith) (let low = c.requires.word in omega arith))

pub returns-clause-at : goal.returns-clause-at
returns-clause-at g c root look_state totals at within =
    let o = c.args.domain.now.origin in
    let ht = host g.D.Client.meaning g.D.Within.place g.D.Within.part in
    let t = c.args.pass.now.token in
    let w : ℕ = (lies ht o).base + c.args.at in
    let word = word_is ht o c.base.result (ht.place c.client-client.result.now) c.args.at c.base.ensures (ap ht.place c.client-client.ensures.same) in
    loads ht o t c.read.new.pass.token root look_state totals w c.read.result (omega arith) (let low = c.requires.word in omega arith)
    (ap (λ p. p.token) c.read.ensures.step ∙ ap (λ (k : ℕ). adding t (further (Load k c.read.result) ∷ [])) word) at within
