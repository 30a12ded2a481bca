use Rattle.std.proofs.Common.{◌≡◌, ◌^◌, refl, subst, arith}
use Rattle.std.proofs.lemmas.Nat.{one_shl}
use Rattle.ck_htplan.specs.Region.{order_of, view_of}
use Rattle.ck_htplan.proofs.Orders.{four, order_is, probed_at, below}
use Rattle.ck_htwrite.proofs.Empties.{NoneEmpty, none_passed, pass_full, found_empty, all_passed}
use Rattle.ck_htwrite.proofs.rebuild.first_empty.Goals as goal

pub loop-i-init : goal.loop-i-init
loop-i-init c hash k e = none_passed (order_of c.args.c hash) (view_of c.args.words.now) k

pub bounds-words-at : goal.bounds-words-at
bounds-words-at c = omega (arith, four c.args.c, c.slot-at.ensures.within, c.requires.length)

pub loop-i-preserved : goal.loop-i-preserved
loop-i-preserved c hash k e =
    pass_full (order_of c.args.c hash) (order_is c.args.c hash c.requires.c_low) (view_of c.args.words.now) k c.loop-i.i c.slot-at.result (below c.args.c c.loop-i.i c.requires.c_high c.loop-i-test.true)
    (probed_at c.args.h c.args.c c.loop-i.i c.slot-at.result hash k c.slot-at.ensures.value e) (c.loop-i.invariant hash k e) c.if-words-at-eq-EMPTY.false

pub returns-then-words-at-eq-EMPTY : goal.returns-then-words-at-eq-EMPTY
returns-then-words-at-eq-EMPTY c hash k e =
    found_empty (order_of c.args.c hash) (order_is c.args.c hash c.requires.c_low) (view_of c.args.words.now) k c.loop-i.i c.slot-at.result (below c.args.c c.loop-i.i c.requires.c_high c.loop-i-test.true)
    (probed_at c.args.h c.args.c c.loop-i.i c.slot-at.result hash k c.slot-at.ensures.value e) (c.loop-i.invariant hash k e) c.if-words-at-eq-EMPTY.true

pub unreachable-requires : goal.unreachable-requires
unreachable-requires c =
    let o = order_of c.args.c (λ k. c.args.h) in
    let all : c.loop-i.i ≡ 2 ^ c.args.c = omega (arith, one_shl c.args.c 64) in
    all_passed o (order_is c.args.c (λ k. c.args.h) c.requires.c_low) (view_of c.args.words.now) 0 c.requires.empty (subst (NoneEmpty o (view_of c.args.words.now) 0) all (c.loop-i.invariant (λ k. c.args.h) 0 refl))
