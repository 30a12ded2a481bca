use Rattle.std.proofs.Common.{◌+◌, ap, ◌∙◌, subst, arith}
use Rattle.ck_epoch.proofs.Stepping.{few_calls}
use Rattle.ck_registry.specs.State.{state}
use Rattle.ck_registry.specs.declared.answers.Advance.TheVariants.{Moved}
use Rattle.ck_registry.specs.Ends.{Member}
use Rattle.ck_registry.specs.Calls.{IsAdvance}
use Rattle.ck_registry.proofs.Advancing.{late, may_advance, moved_holder, moved_deferred, moved_advance, has_moved}
use Rattle.ck_registry.proofs.registry.Registry.advance.Goals as goal

pub overflow_add-epoch : goal.overflow_add-epoch
overflow_add-epoch c =
    let few = few_calls (λ (m : Member). m.calls) c.m.view_is c.m.invariant.2 c.requires.calls in
    let l = late c.m.inside.token c.m.inside.rec c.m.inside.depth c.m.invariant.0 c.args.epoch (ap (λ (m : Member). (state m.token).activity) c.m.view_is ∙ c.requires.ready) few in
    let high = l.1 in omega arith

pub exchange-found-requires-clause-may : goal.exchange-found-requires-clause-may
exchange-found-requires-clause-may c n fits =
    let few = few_calls (λ (m : Member). m.calls) c.m.view_is c.m.invariant.2 c.requires.calls in
    may_advance c.m.inside.token c.m.inside.rec c.m.inside.depth c.m.invariant.0 c.args.epoch (ap (λ (m : Member). (state m.token).activity) c.m.view_is ∙ c.requires.ready) few n

pub overflow_sub-epoch : goal.overflow_sub-epoch
overflow_sub-epoch c =
    let few = few_calls (λ (m : Member). m.calls) c.m.view_is c.m.invariant.2 c.requires.calls in
    let l = late c.m.inside.token c.m.inside.rec c.m.inside.depth c.m.invariant.0 c.args.epoch (ap (λ (m : Member). (state m.token).activity) c.m.view_is ∙ c.requires.ready) few in
    let low = l.0 in omega arith

pub invariant_of-m-2 : goal.invariant_of-m-2
invariant_of-m-2 c =
    let t = c.m.inside.token in let u = c.exchange-found.new.token in let h = c.m.invariant.0 in
    let few = few_calls (λ (m : Member). m.calls) c.m.view_is c.m.invariant.2 c.requires.calls in
    let can = ap (λ (m : Member). (state m.token).activity) c.m.view_is ∙ c.requires.ready in
    let is = c.if-found-epoch.false in
    let w = has_moved t c.m.inside.rec c.m.inside.depth h c.args.epoch can few u c.exchange-found.result c.exchange-found.ensures.step is in
    let counted = ap (λ s. s.calls) w.at.state in let before = c.m.invariant.2 in (
      moved_holder t c.m.inside.rec c.m.inside.depth h c.args.epoch can few u c.exchange-found.result c.exchange-found.ensures.step is,
      moved_deferred t c.m.inside.rec c.m.inside.depth h c.args.epoch can few u c.exchange-found.result c.exchange-found.ensures.step is c.m.inside.deferred c.dispatch_list.new.self c.m.invariant.1 c.dispatch_list.ensures.lists c.dispatch_list.ensures.waiting,
      omega arith,
    )

pub returns-clause-advance : goal.returns-clause-advance
returns-clause-advance c =
    let t = c.m.inside.token in let u = c.exchange-found.new.token in let h = c.m.invariant.0 in
    let few = few_calls (λ (m : Member). m.calls) c.m.view_is c.m.invariant.2 c.requires.calls in
    let can = ap (λ (m : Member). (state m.token).activity) c.m.view_is ∙ c.requires.ready in
    let new : Member = record { token = u; calls = c.m.inside.calls + 1; waiting = c.dispatch_list.new.self.waiting; room = c.dispatch_list.new.self.room } in
    subst (λ (m : Member). IsAdvance c.args.epoch m (Moved c.dispatch_list.result) new) c.m.view_is
    (moved_advance t c.m.inside.rec c.m.inside.depth h c.args.epoch can few u c.exchange-found.result c.exchange-found.ensures.step c.if-found-epoch.false c.m.inside.deferred c.dispatch_list.new.self c.m.invariant.1 c.dispatch_list.ensures.lists c.dispatch_list.ensures.waiting
    c.m.inside.calls (c.m.inside.calls + 1) c.m.inside.deferred.room c.dispatch_list.new.self.room c.dispatch_list.result c.dispatch_list.ensures.count)
