use Rattle.std.proofs.Common.{◌≡◌, ◌+◌, arith, subst, length, map}
use Rattle.ck_judge.specs.Bounds.{query_of}
use Rattle.ck_judge.specs.Verdict.{IsFirstWrong}
use Rattle.ck_judge.proofs.Placed.{placed_missing, placed_surplus, placed_all, placed_wrong, placed_next}
use Rattle.ck_judge.proofs.places.place_file.Goals as goal

pub returns-then-i-answers-clause-legal : goal.returns-then-i-answers-clause-legal
returns-then-i-answers-clause-legal g c =
    placed_missing g.K.Ord.cmp c.args.history.now.most c.args.history.now.updates.items c.args.queries.now c.args.answers.now c.loop-i.i c.loop-i.places.items c.loop-i.last c.loop-i.invariant c.loop-i-test.true c.if-i-answers.true

pub returns-in-None-clause-legal : goal.returns-in-None-clause-legal
returns-in-None-clause-legal g c =
    placed_wrong g.K.Ord.cmp c.args.history.now.most c.args.history.now.updates.items c.args.queries.now c.args.answers.now c.loop-i.i c.loop-i.places.items c.loop-i.last c.loop-i.invariant
    c.index-queries-i.result c.index-answers-i.result c.loop-i-test.true c.index-queries-i.is c.if-i-answers.false c.index-answers-i.is c.in-None.ensures

pub loop-i-preserved : goal.loop-i-preserved
loop-i-preserved g c =
    placed_next g.K.Ord.cmp c.args.history.now.most c.args.history.now.updates.items c.args.queries.now c.args.answers.now c.loop-i.i c.loop-i.places.items c.loop-i.last c.loop-i.invariant
    c.index-queries-i.result c.index-answers-i.result c.loop-i-test.true c.index-queries-i.is c.if-i-answers.false c.index-answers-i.is c.in-Some.place _ c.in-Some.ensures c.in_ok-push-in-Some.ensures.items

pub returns-then-answers-queries-clause-legal : goal.returns-then-answers-queries-clause-legal
returns-then-answers-queries-clause-legal g c =
    let all : c.loop-i.i ≡ length c.args.queries.now = omega (arith, c.loop-i-test.false, c.loop-i.auto.i-end) in
    subst (λ n. IsFirstWrong g.K.Ord.cmp c.args.history.now.most c.args.history.now.updates.items (map query_of c.args.queries.now) c.args.answers.now (n + 1)) all
    (placed_surplus g.K.Ord.cmp c.args.history.now.most c.args.history.now.updates.items c.args.queries.now c.args.answers.now c.loop-i.i c.loop-i.places.items c.loop-i.last c.loop-i.invariant (omega arith) (omega (arith, c.if-answers-queries.true)))

pub returns-clause-legal : goal.returns-clause-legal
returns-clause-legal g c =
    (placed_all g.K.Ord.cmp c.args.history.now.most c.args.history.now.updates.items c.args.queries.now c.args.answers.now c.loop-i.i c.loop-i.places.items c.loop-i.last c.loop-i.invariant c.loop-i-test.false (omega (arith, c.loop-i-test.false, c.if-answers-queries.false))).0

pub returns-clause-least : goal.returns-clause-least
returns-clause-least g c =
    (placed_all g.K.Ord.cmp c.args.history.now.most c.args.history.now.updates.items c.args.queries.now c.args.answers.now c.loop-i.i c.loop-i.places.items c.loop-i.last c.loop-i.invariant c.loop-i-test.false (omega (arith, c.loop-i-test.false, c.if-answers-queries.false))).1
