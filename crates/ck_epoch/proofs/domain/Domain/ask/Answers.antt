use Rattle.std.proofs.Common.{◌+◌, sym, ap, ◌∙◌, subst, refl}
use Rattle.ck_run.specs.declared.account.Step.TheVariants.{Load}
use Rattle.ck_run.specs.Run.{entry}
use Rattle.ck_run.specs.Tokens.{table}
use Rattle.ck_epoch.specs.State.{Token, base_of}
use Rattle.ck_epoch.specs.Ends.{Writer, IsWriting}
use Rattle.ck_epoch.specs.Calls.{MayFollow}
use Rattle.ck_epoch.proofs.ClientSteps.{client_word, may_ask}
use Rattle.ck_epoch.proofs.domain.Domain.ask.Goals as goal

pub load-requires-clause-may : goal.load-requires-clause-may
load-requires-clause-may g c n fits =
    let meaning = g.C.Client.meaning in
    let now = c.args.self.now in
    let token_is = ap (λ (v : Writer g.row.C.Denot g.row.F.Denot). v.token) c.writer.view_is in
    may_ask meaning c.writer.inside.token c.writer.inside.backlog c.writer.invariant.0 g.O.Opens.opens (λ w. Load w n) (λ w. refl) now c.args.at (c.base_word.result + c.args.at)
    (ap table token_is ∙ c.requires.table)
    (client_word meaning c.self.inside.words now c.self.inside.about c.base_word.result c.args.at c.base_word.ensures c.self.invariant.told c.self.view_is)
    (subst (λ (t : Token g.row.C.Denot). IsWriting meaning t → MayFollow meaning t (entry g.O.Opens.opens (Load (base_of now.origin + c.args.at) n))) (sym token_is) (λ writing. c.requires.client writing n fits))
