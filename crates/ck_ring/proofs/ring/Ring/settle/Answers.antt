use Rattle.std.proofs.Common.{◌≡◌, ◌<◌, sym, subst}
use Rattle.ck_ring.specs.declared.layout.TheConstants.{MOST_CALLS}
use Rattle.ck_ring.specs.State.{Token, state, aimed}
use Rattle.ck_ring.specs.declared.answers.Take.{Take}
use Rattle.ck_ring.specs.Calls.{Settles, IsAbove, OwnsItem}
use Rattle.ck_ring.proofs.Exchange.{settle_small, may_settle, idle_settled, settles, settle_above, settle_owns, in_order}
use Rattle.ck_ring.proofs.ring.Ring.settle.Goals as goal

pub exchange_head-take-requires-clause-bound : goal.exchange_head-take-requires-clause-bound
exchange_head-take-requires-clause-bound c =
    settle_small c.c.inside.token c.c.inside.calls c.args.mine c.args.item c.c.invariant (subst (λ (t : Token). (state t).stage ≡ aimed c.args.mine c.args.item) (sym c.c.view_is) c.requires.aimed)

pub exchange_head-take-requires-clause-may : goal.exchange_head-take-requires-clause-may
exchange_head-take-requires-clause-may c n _ =
    may_settle c.c.inside.token c.c.inside.calls c.args.mine c.args.item c.c.invariant (subst (λ (t : Token). (state t).stage ≡ aimed c.args.mine c.args.item) (sym c.c.view_is) c.requires.aimed)
    (subst (λ (t : Token). (state t).calls < MOST_CALLS) (sym c.c.view_is) c.requires.calls) n

pub invariant_of-c : goal.invariant_of-c
invariant_of-c c =
    let e = c.exchange_head-take.ensures.taken in
    idle_settled c.c.inside.token c.c.inside.calls c.args.mine c.args.item c.c.invariant (subst (λ (t : Token). (state t).stage ≡ aimed c.args.mine c.args.item) (sym c.c.view_is) c.requires.aimed) c.exchange_head-take.new.token e.0 e.2

pub returns-clause-steps : goal.returns-clause-steps
returns-clause-steps c =
    let e = c.exchange_head-take.ensures.taken in
    let u = c.exchange_head-take.new.token in
    subst (λ (t : Token). Settles t c.args.mine c.args.item c.exchange_head-take.result u) c.c.view_is
    (subst (λ (k : Take). Settles c.c.inside.token c.args.mine c.args.item k u) (sym e.1)
    (settles c.c.inside.token c.c.inside.calls c.args.mine c.args.item c.c.invariant (subst (λ (t : Token). (state t).stage ≡ aimed c.args.mine c.args.item) (sym c.c.view_is) c.requires.aimed) u e.0 e.2))

pub returns-clause-above : goal.returns-clause-above
returns-clause-above c =
    let e = c.exchange_head-take.ensures.taken in
    subst (IsAbove c.args.mine) (sym e.1)
    (settle_above c.c.inside.token c.c.inside.calls c.args.mine c.args.item c.c.invariant (subst (λ (t : Token). (state t).stage ≡ aimed c.args.mine c.args.item) (sym c.c.view_is) c.requires.aimed)
    c.exchange_head-take.new.token e.0 e.2)

pub returns-clause-own : goal.returns-clause-own
returns-clause-own c =
    let e = c.exchange_head-take.ensures.taken in
    subst (OwnsItem c.exchange_head-take.new.token c.args.mine) (sym e.1)
    (settle_owns c.c.inside.token c.c.inside.calls c.args.mine c.args.item c.c.invariant (subst (λ (t : Token). (state t).stage ≡ aimed c.args.mine c.args.item) (sym c.c.view_is) c.requires.aimed)
    c.exchange_head-take.new.token e.0 e.2)

pub returns-clause-order : goal.returns-clause-order
returns-clause-order c =
    let e = c.exchange_head-take.ensures.taken in
    in_order c.exchange_head-take.new.token _
    (idle_settled c.c.inside.token c.c.inside.calls c.args.mine c.args.item c.c.invariant (subst (λ (t : Token). (state t).stage ≡ aimed c.args.mine c.args.item) (sym c.c.view_is) c.requires.aimed) c.exchange_head-take.new.token e.0 e.2)
