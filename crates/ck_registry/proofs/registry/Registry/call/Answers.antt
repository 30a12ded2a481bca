use Rattle.std.proofs.Common.{◌+◌, ◌<◌, [], ◌∷◌, ◌++◌, length, sym, ap, ◌∙◌, subst, arith}
use Rattle.ck_run.specs.declared.account.Step.TheVariants.{Load}
use Rattle.ck_run.specs.Run.{handing}
use Rattle.ck_run.specs.Tokens.{adding, table, number}
use Rattle.ck_epoch.specs.State.{queue}
use Rattle.ck_epoch.proofs.Emptying.{row_length}
use Rattle.ck_epoch.proofs.Stepping.{few_calls}
use Rattle.ck_registry.specs.State.{retire, state}
use Rattle.ck_registry.specs.Ends.{Member, rec_of}
use Rattle.ck_registry.proofs.Dispatching.{member_is, may_retire, is_retired, queued, retired_dispatched, retired_section, retired_rec, retired_calls, put_behind}
use Rattle.ck_registry.proofs.registry.Registry.call.Goals as goal

pub retire-epoch-requires-clause-may : goal.retire-epoch-requires-clause-may
retire-epoch-requires-clause-may c n fits =
    let few = few_calls (λ (m : Member). m.calls) c.m.view_is c.m.invariant.2 c.requires.calls in
    may_retire c.m.inside.token c.m.inside.rec c.m.inside.depth c.m.invariant.0 few c.args.item n

pub retire-requires : goal.retire-requires
retire-requires c =
    let few = subst (λ (m : Member). length (state m.token).pending + length m.waiting < m.room) (sym c.m.view_is) c.requires.room in
    let same = row_length c.m.inside.deferred.lists (state c.m.inside.token).pending c.m.invariant.1.pending in
    record { room = omega arith }

pub invariant_of-m : goal.invariant_of-m
invariant_of-m c =
    let t = c.m.inside.token in let i = c.args.item in let d = c.m.inside.deferred in
    let few = few_calls (λ (m : Member). m.calls) c.m.view_is c.m.invariant.2 c.requires.calls in
    let counted = retired_calls t c.m.inside.rec c.m.inside.depth c.m.invariant.0 few i c.retire-epoch.new.token c.retire-epoch.result c.retire-epoch.ensures.step in
    let before = c.m.invariant.2 in (
      is_retired t c.m.inside.rec c.m.inside.depth c.m.invariant.0 few i c.retire-epoch.new.token c.retire-epoch.result c.retire-epoch.ensures.step,
      put_behind t c.m.inside.rec c.m.inside.depth c.m.invariant.0 few i c.retire-epoch.new.token c.retire-epoch.result c.retire-epoch.ensures.step d c.retire.new.self c.m.invariant.1 c.retire.ensures.lists c.retire.ensures.rest.0,
      omega arith,
    )

pub returns-clause-retires : goal.returns-clause-retires
returns-clause-retires c =
    let t = c.m.inside.token in let i = c.args.item in let d = c.m.inside.deferred in let n = c.retire-epoch.result in
    let few = few_calls (λ (m : Member). m.calls) c.m.view_is c.m.invariant.2 c.requires.calls in (
      n,
      record {
        step = member_is c.retire-epoch.new.token (adding t (handing (retire ∷ i.at ∷ i.log ∷ []) (i.at ∷ i.log ∷ []) (Load 0 n) ∷ [])) c.retire.new.self.waiting d.waiting c.retire.new.self.room d.room (c.m.inside.calls + 1)
            c.retire-epoch.ensures.step.0 c.retire.ensures.rest.0 c.retire.ensures.rest.1
            ∙ ap (λ (m : Member). record m { token = adding m.token (handing (retire ∷ i.at ∷ i.log ∷ []) (i.at ∷ i.log ∷ []) (Load 0 n) ∷ []); calls = m.calls + 1 }) c.m.view_is;
        pending = queued t c.m.inside.rec c.m.inside.depth c.m.invariant.0 few i c.retire-epoch.new.token n c.retire-epoch.ensures.step
            ∙ ap (λ (m : Member). queue (state m.token).pending ++ record { item = i; epoch = n } ∷ []) c.m.view_is;
        dispatched = retired_dispatched t c.m.inside.rec c.m.inside.depth c.m.invariant.0 few i c.retire-epoch.new.token n c.retire-epoch.ensures.step ∙ ap (λ (m : Member). (state m.token).dispatched) c.m.view_is;
      },
    )

pub returns-clause-same : goal.returns-clause-same
returns-clause-same c =
    let t = c.m.inside.token in
    let few = few_calls (λ (m : Member). m.calls) c.m.view_is c.m.invariant.2 c.requires.calls in (
      c.retire-epoch.ensures.table ∙ ap (λ (m : Member). table m.token) c.m.view_is,
      ap number c.retire-epoch.ensures.step.0 ∙ ap (λ (m : Member). number m.token) c.m.view_is,
      retired_rec t c.m.inside.rec c.m.inside.depth c.m.invariant.0 few c.args.item c.retire-epoch.new.token c.retire-epoch.result c.retire-epoch.ensures.step ∙ ap (λ (m : Member). rec_of m.token) c.m.view_is,
      c.retire.ensures.rest.1 ∙ ap (λ (m : Member). m.room) c.m.view_is,
    )

pub returns-clause-depth : goal.returns-clause-depth
returns-clause-depth c =
    let t = c.m.inside.token in
    let few = few_calls (λ (m : Member). m.calls) c.m.view_is c.m.invariant.2 c.requires.calls in
    retired_section t c.m.inside.rec c.m.inside.depth c.m.invariant.0 few c.args.item c.retire-epoch.new.token c.retire-epoch.result c.retire-epoch.ensures.step ∙ ap (λ (m : Member). (state m.token).section) c.m.view_is
