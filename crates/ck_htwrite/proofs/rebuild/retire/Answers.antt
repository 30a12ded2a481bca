use Rattle.std.proofs.Common.{◌≡◌, ℕ, ◌+◌, ◌/◌, ◌%◌, true, cond, nat_lt, List, [], ◌∷◌, ◌++◌, sym, ap, ◌∙◌, subst}
use Rattle.ck_run.specs.declared.account.Step.TheVariants.{Load}
use Rattle.ck_run.specs.Run.{handing}
use Rattle.ck_run.specs.Tokens.{adding}
use Rattle.ck_epoch.specs.State.{queue, state}
use Rattle.ck_epoch.specs.Calls.{MayFollow}
use Rattle.ck_htlaw.specs.Host.{host, lies}
use Rattle.ck_htlaw.specs.Known.{knows}
use Rattle.ck_htlaw.specs.Client.{Answers}
use Rattle.ck_htlaw.specs.Table.{released, released_log}
use Rattle.ck_htlaw.proofs.Tokens.{knows_next}
use Rattle.ck_htwrite.specs.Writes.{WriterAt}
use Rattle.ck_htwrite.proofs.Retires.{retires_by, is_item, may_item, retired_at, item_is}
use Rattle.ck_htwrite.proofs.rebuild.retire.Goals as goal

pub call-requires-clause-retires : goal.call-requires-clause-retires
call-requires-clause-retires g c =
    let place = g.D.Within.place in let o = c.args.domain.now.origin in
    let base : c.base.result ≡ place o.config.client = c.base.ensures ∙ ap place c.client.ensures.same in
    subst (λ (k : ℕ). g.D.Client.meaning.retires o.config.client (record { at = k + c.args.old / 32; log = c.args.old % 32 + 2 }) ≡ true) (sym base)
    (g.met.D.Within.within.retires o.config.client (record { at = c.args.old / 32; log = c.args.old % 32 + 2 }) (is_item (g.D.Within.part o.config.client) c.args.old c.requires.root))

pub call-requires-clause-client : goal.call-requires-clause-client
call-requires-clause-client g c writing n small =
    let h = host g.D.Client.meaning g.D.Within.place g.D.Within.part in let place = g.D.Within.place in let o = c.args.domain.now.origin in let t = c.args.writer.now.token in
    let base : c.base.result ≡ place o.config.client = c.base.ensures ∙ ap place c.client.ensures.same in
    let due = c.requires.due in
    let item : ((c.base.result + c.args.old / 32) ∷ (c.args.old % 32 + 2) ∷ []) ≡ (lies h o).item c.args.old = ap (λ (k : ℕ). (k + c.args.old / 32) ∷ (c.args.old % 32 + 2) ∷ []) base ∙ item_is h o c.args.old c.requires.root in
    subst (λ (i : List ℕ). MayFollow g.D.Client.meaning t (handing [] i (Load 0 n))) (sym item)
    (may_item h o c.args.old c.requires.root g.met.D.Within.within t (ap (λ w. w.origin) c.requires.table) writing.part due.0 due.1 due.2 n)

pub returns-clause-step : goal.returns-clause-step
returns-clause-step g c =
    let h = host g.D.Client.meaning g.D.Within.place g.D.Within.part in let place = g.D.Within.place in let o = c.args.domain.now.origin in let t = c.args.writer.now.token in
    let base : c.base.result ≡ place o.config.client = c.base.ensures ∙ ap place c.client.ensures.same in
    let item : ((c.base.result + c.args.old / 32) ∷ (c.args.old % 32 + 2) ∷ []) ≡ (lies h o).item c.args.old = ap (λ (k : ℕ). (k + c.args.old / 32) ∷ (c.args.old % 32 + 2) ∷ []) base ∙ item_is h o c.args.old c.requires.root in
    c.call.ensures.step ∙ ap (λ (i : List ℕ). record c.args.writer.now { token = adding t (handing [] i (Load 0 (state t).epoch) ∷ []); calls = c.args.writer.now.calls + 1 }) item

pub returns-clause-at : goal.returns-clause-at
returns-clause-at g c p d told at replaced =
    let h = host g.D.Client.meaning g.D.Within.place g.D.Within.part in let place = g.D.Within.place in let o = c.args.domain.now.origin in let t = c.args.writer.now.token in
    let base : c.base.result ≡ place o.config.client = c.base.ensures ∙ ap place c.client.ensures.same in
    let item : ((c.base.result + c.args.old / 32) ∷ (c.args.old % 32 + 2) ∷ []) ≡ (lies h o).item c.args.old = ap (λ (k : ℕ). (k + c.args.old / 32) ∷ (c.args.old % 32 + 2) ∷ []) base ∙ item_is h o c.args.old c.requires.root in
    let made = ap (λ w. w.token) c.call.ensures.step ∙ ap (λ (i : List ℕ). adding t (handing [] i (Load 0 (state t).epoch) ∷ [])) item in
    subst (λ (z : Answers). WriterAt z (record p { stage = released p.stage; log = released_log p.stage p.log }) d (told ++ cond (nat_lt p.log (released_log p.stage p.log)) (d ∷ []) [])) (sym (knows_next h o t c.call.new.writer.token (retires_by h o c.args.old c.requires.root (state t).epoch) made))
    (retired_at h o c.args.old c.requires.root (knows h o t) p d told (state t).epoch at replaced)

pub returns-clause-pending : goal.returns-clause-pending
returns-clause-pending g c =
    let place = g.D.Within.place in let o = c.args.domain.now.origin in let t = c.args.writer.now.token in
    let base : c.base.result ≡ place o.config.client = c.base.ensures ∙ ap place c.client.ensures.same in
    c.call.ensures.pending ∙ ap (λ (k : ℕ). queue (state t).pending ++ record { item = record { at = k + c.args.old / 32; log = c.args.old % 32 + 2 }; epoch = (state t).epoch } ∷ []) base

pub returns-clause-same : goal.returns-clause-same
returns-clause-same g c = c.call.ensures.same.0
