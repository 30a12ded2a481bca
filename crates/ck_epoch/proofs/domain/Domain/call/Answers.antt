use Rattle.std.proofs.Common.{◌≡◌, ℕ, ◌+◌, ◌++◌, ◌<◌, ◌∷◌, [], length, sym, ap, ◌∙◌, subst, arith}
use Rattle.ck_run.specs.declared.account.Step.TheVariants.{Load}
use Rattle.ck_run.specs.Run.{handing}
use Rattle.ck_run.specs.Tokens.{adding}
use Rattle.ck_epoch.specs.State.{Token, queue, state}
use Rattle.ck_epoch.specs.Ends.{Writer, IsWriting}
use Rattle.ck_epoch.specs.Calls.{MayFollow}
use Rattle.ck_epoch.proofs.Stepping.{few_calls}
use Rattle.ck_epoch.proofs.Retirements.{loaded, closed, may_retire, finds_epoch, queued, is_pending}
use Rattle.ck_epoch.proofs.Emptying.{row_length}
use Rattle.ck_epoch.proofs.domain.Domain.call.Goals as goal

pub retire-epoch-requires-clause-may : goal.retire-epoch-requires-clause-may
retire-epoch-requires-clause-may g c n fits =
    let meaning = g.C.Client.meaning in
    let i = c.args.item in
    let few = few_calls (λ (v : Writer g.row.C.Denot g.row.F.Denot). v.calls) c.writer.view_is c.writer.invariant.1 c.requires.calls in
    let token_is = ap (λ (v : Writer g.row.C.Denot g.row.F.Denot). v.token) c.writer.view_is in
    may_retire meaning c.writer.inside.token c.writer.inside.backlog c.writer.invariant.0 few i g.O.Opens.opens n
    (subst (λ (t : Token g.row.C.Denot). IsWriting meaning t → MayFollow meaning t (handing g.O.Opens.opens (i.at ∷ i.log ∷ []) (Load 0 n))) (sym token_is) (λ writing. c.requires.client writing n fits))

pub retire-requires-clause-pending : goal.retire-requires-clause-pending
retire-requires-clause-pending g c =
    let few = few_calls (λ (v : Writer g.row.C.Denot g.row.F.Denot). v.calls) c.writer.view_is c.writer.invariant.1 c.requires.calls in
    is_pending g.C.Client.meaning c.writer.inside.token c.writer.inside.backlog c.writer.invariant.0 few c.args.item g.O.Opens.opens c.retire-epoch.new.token c.retire-epoch.result c.retire-epoch.ensures.step

pub retire-requires-clause-room : goal.retire-requires-clause-room
retire-requires-clause-room g c =
    let b = c.writer.inside.backlog in
    let few = subst (λ (v : Writer g.row.C.Denot g.row.F.Denot). length (state v.token).pending + length v.waiting < v.room) (sym c.writer.view_is) c.requires.room in
    let same = row_length b.lists (state c.writer.inside.token).pending c.writer.invariant.0.pending in
    omega arith

pub returns-clause-step : goal.returns-clause-step
returns-clause-step g c =
    let meaning = g.C.Client.meaning in
    let i = c.args.item in
    let t = c.writer.inside.token in
    let few = few_calls (λ (v : Writer g.row.C.Denot g.row.F.Denot). v.calls) c.writer.view_is c.writer.invariant.1 c.requires.calls in
    let found = finds_epoch meaning t c.writer.inside.backlog c.writer.invariant.0 few i g.O.Opens.opens c.retire-epoch.new.token c.retire-epoch.result c.retire-epoch.ensures.step in
    let token_is : c.retire-epoch.new.token ≡ loaded g.O.Opens.opens i t = c.retire-epoch.ensures.step.0 ∙ ap (λ (n : ℕ). adding t (handing g.O.Opens.opens (i.at ∷ i.log ∷ []) (Load 0 n) ∷ [])) found in
    closed {F = g.row.F.Denot} c.retire-epoch.new.token (loaded g.O.Opens.opens i t) _ _ _ _ (c.writer.inside.calls + 1) c.writer.inside.handler c.writer.inside.tally token_is c.retire.ensures.rest.0 c.retire.ensures.rest.1
    ∙ ap (λ (v : Writer g.row.C.Denot g.row.F.Denot). record v { token = loaded g.O.Opens.opens i v.token; calls = v.calls + 1 }) c.writer.view_is

pub returns-clause-pending : goal.returns-clause-pending
returns-clause-pending g c =
    let meaning = g.C.Client.meaning in
    let i = c.args.item in
    let t = c.writer.inside.token in
    let few = few_calls (λ (v : Writer g.row.C.Denot g.row.F.Denot). v.calls) c.writer.view_is c.writer.invariant.1 c.requires.calls in
    let found = finds_epoch meaning t c.writer.inside.backlog c.writer.invariant.0 few i g.O.Opens.opens c.retire-epoch.new.token c.retire-epoch.result c.retire-epoch.ensures.step in
    queued meaning t c.writer.inside.backlog c.writer.invariant.0 few i g.O.Opens.opens c.retire-epoch.new.token c.retire-epoch.result c.retire-epoch.ensures.step
    ∙ (ap (λ (n : ℕ). queue (state t).pending ++ record { item = i; epoch = n } ∷ []) found
    ∙ ap (λ (v : Writer g.row.C.Denot g.row.F.Denot). queue (state v.token).pending ++ record { item = i; epoch = (state v.token).epoch } ∷ []) c.writer.view_is)
