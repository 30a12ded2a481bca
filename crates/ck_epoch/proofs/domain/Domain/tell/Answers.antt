use Rattle.std.proofs.Common.{◌+◌, sym, ap, ◌∙◌, subst, refl}
use Rattle.ck_run.specs.declared.account.Step.TheVariants.{Store}
use Rattle.ck_run.specs.Run.{entry}
use Rattle.ck_run.specs.Tokens.{table}
use Rattle.ck_epoch.specs.State.{Token, base_of}
use Rattle.ck_epoch.specs.Ends.{Pass, IsReading}
use Rattle.ck_epoch.specs.Calls.{MayFollow}
use Rattle.ck_epoch.proofs.ClientSteps.{client_word, may_read}
use Rattle.ck_epoch.proofs.domain.Domain.tell.Goals as goal

pub store-requires-clause-may : goal.store-requires-clause-may
store-requires-clause-may g c =
    let meaning = g.C.Client.meaning in
    let now = c.args.self.now in
    let token_is = ap (λ (v : Pass g.row.C.Denot). v.token) c.pass.view_is in
    may_read meaning c.pass.inside.token c.pass.inside.rec c.pass.inside.depth c.pass.invariant.0 g.O.Opens.opens (λ w. Store w c.args.value) (λ w. refl) now c.args.at (c.base_word.result + c.args.at)
    (ap table token_is ∙ c.requires.table)
    (client_word meaning c.self.inside.words now c.self.inside.about c.base_word.result c.args.at c.base_word.ensures c.self.invariant.told c.self.view_is)
    (λ k found is guarded. absurd cc)
    (subst (λ (t : Token g.row.C.Denot). IsReading meaning t → MayFollow meaning t (entry g.O.Opens.opens (Store (base_of now.origin + c.args.at) c.args.value))) (sym token_is) c.requires.client)
