use Rattle.std.proofs.Common.{ℕ, ◌+◌, ◌-◌, ◌%◌, ◌<◌, refl, sym, ap, ◌∙◌, subst, arith}
use Rattle.ck_run.specs.Tokens.{Table, table}
use Rattle.ck_ring.specs.declared.layout.TheConstants.{MOST_SENT}
use Rattle.ck_ring.specs.State.{Token, state, size_of}
use Rattle.ck_ring.specs.Calls.{RingHasRoom, Sends}
use Rattle.ck_ring.proofs.Sizes.{size_seen}
use Rattle.ck_ring.proofs.Enqueue.{may_check, within, bounded, may_write, may_send, has_room, sends}
use Rattle.ck_ring.proofs.ring.Ring.enqueue.Goals as goal

pub first_load-head-requires-clause-may : goal.first_load-head-requires-clause-may
first_load-head-requires-clause-may c n _ =
    may_check c.p.inside.token c.p.inside.tail c.p.inside.calls c.args.v c.p.invariant (subst (λ (t : Token). (state t).calls < MOST_SENT) (sym c.p.view_is) c.requires.calls) n

pub overflow_sub-tail : goal.overflow_sub-tail
overflow_sub-tail c = (within c.p.inside.token c.p.inside.tail c.p.inside.calls c.args.v c.p.invariant c.first_load-head.new.token c.first_load-head.result c.first_load-head.ensures.step).0

pub store-requires-clause-may : goal.store-requires-clause-may
store-requires-clause-may c =
    let e = size_seen c.self.inside.size c.p.inside.token c.self.inside.words (ap table c.p.view_is ∙ (c.requires.table ∙ sym c.self.view_is)) c.self.invariant in
    may_write c.p.inside.token c.p.inside.tail c.p.inside.calls c.args.v c.p.invariant c.first_load-head.new.token c.first_load-head.result c.first_load-head.ensures.step
    (λ z. c.if-tail-head.false (z ∙ ap (λ (n : ℕ). n - 1) e)) (2 + c.p.inside.tail % c.self.inside.size) (ap (λ (n : ℕ). 2 + c.p.inside.tail % n) (sym e))

pub overflow_add-tail-2 : goal.overflow_add-tail-2
overflow_add-tail-2 c = let b = bounded c.p.inside.token c.p.inside.tail c.p.inside.calls c.args.v c.p.invariant c.first_load-head.new.token c.first_load-head.result c.first_load-head.ensures.step in omega arith

pub store-requires-2-clause-may : goal.store-requires-2-clause-may
store-requires-2-clause-may c =
    let e = size_seen c.self.inside.size c.p.inside.token c.self.inside.words (ap table c.p.view_is ∙ (c.requires.table ∙ sym c.self.view_is)) c.self.invariant in
    may_send c.p.inside.token c.p.inside.tail c.p.inside.calls c.args.v c.p.invariant c.first_load-head.new.token c.first_load-head.result c.first_load-head.ensures.step
    (λ z. c.if-tail-head.false (z ∙ ap (λ (n : ℕ). n - 1) e)) (2 + c.p.inside.tail % c.self.inside.size) c.store.new.token c.store.ensures.step (c.p.inside.tail + 1) refl

pub overflow_add-p-2 : goal.overflow_add-p-2
overflow_add-p-2 c = let b = bounded c.p.inside.token c.p.inside.tail c.p.inside.calls c.args.v c.p.invariant c.first_load-head.new.token c.first_load-head.result c.first_load-head.ensures.step in omega arith

pub returns-clause-steps : goal.returns-clause-steps
returns-clause-steps c =
    let t = c.p.inside.token in
    let u = c.store-2.new.token in
    let head = c.first_load-head.result in
    let e = size_seen c.self.inside.size c.p.inside.token c.self.inside.words (ap table c.p.view_is ∙ (c.requires.table ∙ sym c.self.view_is)) c.self.invariant in
    let q = ap (λ (x : Table (Unit {0})). size_of x.origin) (ap table c.p.view_is ∙ c.requires.table) in
    let P : ℕ → Token → Type 0 = λ n x. (h : ℕ) × RingHasRoom n x h × Sends n x c.args.v h u in
    subst (λ (x : Token). P (size_of c.args.self.now.origin) x) c.p.view_is
    (subst (λ (n : ℕ). P n t) q (
      head,
      has_room c.p.inside.token c.p.inside.tail c.p.inside.calls c.args.v c.p.invariant c.first_load-head.new.token c.first_load-head.result c.first_load-head.ensures.step
          (λ z. c.if-tail-head.false (z ∙ ap (λ (n : ℕ). n - 1) e)),
      sends c.p.inside.token c.p.inside.tail c.p.inside.calls c.args.v c.p.invariant c.first_load-head.new.token c.first_load-head.result c.first_load-head.ensures.step
          (λ z. c.if-tail-head.false (z ∙ ap (λ (n : ℕ). n - 1) e)) (2 + c.p.inside.tail % c.self.inside.size) c.store.new.token c.store.ensures.step (c.p.inside.tail + 1) u c.store-2.ensures.step (ap (λ (n : ℕ). 2 + c.p.inside.tail % n) (sym e)) refl,
    ))
