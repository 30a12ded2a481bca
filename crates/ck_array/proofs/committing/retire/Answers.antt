use Rattle.std.proofs.Common.{ℕ, List, [], ◌∷◌, ap, ◌∙◌, subst, sym}
use Rattle.ck_run.specs.declared.account.Step.TheVariants.{Load}
use Rattle.ck_run.specs.Run.{handing}
use Rattle.ck_run.specs.Tokens.{adding}
use Rattle.ck_epoch.specs.State.{state}
use Rattle.ck_epoch.specs.Calls.{MayFollow}
use Rattle.ck_arraylaw.specs.Host.{host}
use Rattle.ck_array.proofs.CommitSteps.{may_retire, retired_is, item_is}
use Rattle.ck_array.proofs.committing.retire.Goals as goal

pub call-requires-clause-client : goal.call-requires-clause-client
call-requires-clause-client g c writing n _ =
    let o = c.args.domain.now.origin in
    let h = host g.D.Client.meaning g.D.Within.place g.D.Within.part in
    let item = item_is h o c.args.old c.requires.inside c.base.result (c.base.ensures ∙ ap h.place c.client.ensures.same) in
    let due = c.requires.due in
    subst (λ (x : List ℕ). MayFollow g.D.Client.meaning c.args.writer.now.token (handing [] x (Load 0 n))) (sym item)
    (may_retire h o c.args.old c.requires.inside g.met.D.Within.within c.args.writer.now.token (ap (λ w. w.origin) c.requires.table) writing.part due.0 due.1 due.2 n)

pub returns-clause-local : goal.returns-clause-local
returns-clause-local g c p local replaces =
    let o = c.args.domain.now.origin in
    let h = host g.D.Client.meaning g.D.Within.place g.D.Within.part in
    let t = c.args.writer.now.token in
    let item = item_is h o c.args.old c.requires.inside c.base.result (c.base.ensures ∙ ap h.place c.client.ensures.same) in
    retired_is h o c.args.old c.requires.inside t c.call.new.writer.token (state t).epoch
    (ap (λ p. p.token) c.call.ensures.step ∙ ap (λ (x : List ℕ). adding t (handing [] x (Load 0 (state t).epoch) ∷ [])) item) p local replaces
