use Rattle.std.proofs.Common.{◌+◌, ap, ◌∙◌, sym, subst}
use Rattle.ck_ring.specs.State.{Token, TokenState, state, size_of}
use Rattle.ck_ring.specs.declared.answers.Take.{Take}
use Rattle.ck_ring.specs.Calls.{FindsRingEmpty, Tries}
use Rattle.ck_ring.proofs.Exchange.{may_try, tried, idle_tried, try_steps, idle_none, finds_none, in_order}
use Rattle.ck_ring.proofs.ring.Ring.try_dequeue.Goals as goal

pub exchange_head-requires-clause-may : goal.exchange_head-requires-clause-may
exchange_head-requires-clause-may c n _ =
    may_try c.c.inside.token c.look-aim.new.token c.c.inside.calls _ c.in-At.mine c.in-At.item c.c.invariant c.in-At.ensures.looked n

pub invariant_of-c-in-At : goal.invariant_of-c-in-At
invariant_of-c-in-At c =
    let e = c.exchange_head.ensures.taken in
    idle_tried c.c.inside.token c.look-aim.new.token c.c.inside.calls _ c.in-At.mine c.in-At.item c.c.invariant c.in-At.ensures.looked c.exchange_head.new.token e.0 e.2

pub returns-in-Empty-clause-steps : goal.returns-in-Empty-clause-steps
returns-in-Empty-clause-steps c =
    subst (λ (t : Token). FindsRingEmpty t c.in-Empty.at c.look-aim.new.token) c.c.view_is
    (finds_none c.c.inside.token c.look-aim.new.token c.c.inside.calls _ c.in-Empty.at c.c.invariant c.in-Empty.ensures.looked)

pub returns-in-Empty-clause-order : goal.returns-in-Empty-clause-order
returns-in-Empty-clause-order c = in_order c.look-aim.new.token _ (idle_none c.c.inside.token c.look-aim.new.token c.c.inside.calls _ c.in-Empty.at c.c.invariant c.in-Empty.ensures.looked)

pub returns-in-At-clause-steps : goal.returns-in-At-clause-steps
returns-in-At-clause-steps c =
    let e = c.exchange_head.ensures.taken in
    let w = c.exchange_head.new.token in
    let size = size_of c.args.self.now.origin in
    subst (λ (t : Token). Tries size t c.exchange_head.result w) c.c.view_is
    (subst (λ (k : Take). Tries size c.c.inside.token k w) (sym e.1)
    (try_steps c.c.inside.token c.look-aim.new.token c.c.inside.calls size c.in-At.mine c.in-At.item c.c.invariant c.in-At.ensures.looked w e.0 e.2))

pub returns-in-At-clause-calls : goal.returns-in-At-clause-calls
returns-in-At-clause-calls c =
    let e = c.exchange_head.ensures.taken in
    let i = tried c.c.inside.token c.look-aim.new.token c.c.inside.calls _ c.in-At.mine c.in-At.item c.c.invariant c.in-At.ensures.looked c.exchange_head.new.token e.0 e.2 in
    ap (λ (h : TokenState). h.calls) i.state ∙ ap (λ (t : Token). (state t).calls + 1) c.c.view_is

pub returns-in-At-clause-order : goal.returns-in-At-clause-order
returns-in-At-clause-order c =
    let e = c.exchange_head.ensures.taken in
    in_order c.exchange_head.new.token _ (idle_tried c.c.inside.token c.look-aim.new.token c.c.inside.calls _ c.in-At.mine c.in-At.item c.c.invariant c.in-At.ensures.looked c.exchange_head.new.token e.0 e.2)
