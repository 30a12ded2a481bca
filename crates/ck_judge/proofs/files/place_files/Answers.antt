use Rattle.std.proofs.Common.{◌≡◌, ◌+◌, ◌++◌, ◌∷◌, [], sym, subst, arith, length, map, drop}
use Rattle.ck_judge.specs.Bounds.{query_of}
use Rattle.ck_judge.specs.Files.{as_lists, as_queries}
use Rattle.ck_judge.specs.Verdict.{IsLegalFile, IsFirstWrong, AreLeast}
use Rattle.ck_judge.proofs.Named.{AreRightTo, all_right, first_beyond, wrong_next, right_next}
use Rattle.ck_judge.proofs.Filing.{at_err, at_ok, queries_count, queries_here, queries_taken, end_left, left}
use Rattle.ck_judge.proofs.files.place_files.Goals as goal

pub returns-in-Err-clause-right : goal.returns-in-Err-clause-right
returns-in-Err-clause-right g c =
    let us = c.args.history.now.updates.items in
    let wrong = at_err c.in_ok-places.field-0 c.in-Err.query _ _ c.in_ok-places.ensures.legal c.in-Err.is in
    wrong_next g.K.Ord.cmp c.args.history.now.most us (as_queries c.args.files.now) (as_lists c.args.named.now) c.loop-i.i c.in-Err.query _ _ (map query_of c.index-files-i.result.items) c.loop-i.invariant.to
    (queries_here c.args.files.now c.loop-i.i c.index-files-i.result c.loop-i-test.true c.index-files-i.is)
    (subst (λ answers. IsFirstWrong g.K.Ord.cmp c.args.history.now.most us (map query_of c.index-files-i.result.items) answers c.in-Err.query) c.answers_at-answers.ensures
    (subst (λ qs. IsFirstWrong g.K.Ord.cmp c.args.history.now.most us (map query_of qs) c.answers_at-answers.result.now c.in-Err.query) c.as_slice.ensures.value wrong))

pub loop-i-preserved : goal.loop-i-preserved
loop-i-preserved g c =
    let us = c.args.history.now.updates.items in
    let legal = at_ok c.in_ok-places.field-0 c.in-Ok.places _ _ c.in_ok-places.ensures.legal c.in-Ok.is in
    let least = at_ok c.in_ok-places.field-0 c.in-Ok.places _ _ c.in_ok-places.ensures.least c.in-Ok.is in
    let count = queries_count c.args.files.now in
    let next = right_next g.K.Ord.cmp c.args.history.now.most us (as_queries c.args.files.now) (as_lists c.args.named.now) c.loop-i.i (drop c.loop-i.at (as_lists c.args.named.now)) c.loop-i.least.items (map query_of c.index-files-i.result.items) c.in-Ok.places c.loop-i.invariant.to
    (omega (arith, count, c.loop-i-test.true))
    (queries_here c.args.files.now c.loop-i.i c.index-files-i.result c.loop-i-test.true c.index-files-i.is)
    (queries_taken c.args.files.now c.loop-i.i c.index-files-i.result c.loop-i-test.true c.index-files-i.is)
    (subst (λ answers. IsLegalFile g.K.Ord.cmp c.args.history.now.most us (map query_of c.index-files-i.result.items) answers) c.answers_at-answers.ensures
    (subst (λ qs. IsLegalFile g.K.Ord.cmp c.args.history.now.most us (map query_of qs) c.answers_at-answers.result.now) c.as_slice.ensures.value legal))
    (subst (λ answers. AreLeast g.K.Ord.cmp c.args.history.now.most us (map query_of c.index-files-i.result.items) answers c.in-Ok.places) c.answers_at-answers.ensures
    (subst (λ qs. AreLeast g.K.Ord.cmp c.args.history.now.most us (map query_of qs) c.answers_at-answers.result.now c.in-Ok.places) c.as_slice.ensures.value least)) in
    record {
      within = c.pass-at.ensures.within;
      to = subst (λ ls. AreRightTo g.K.Ord.cmp c.args.history.now.most us (as_queries c.args.files.now) (as_lists c.args.named.now) (c.loop-i.i + 1) (drop c.pass-at.result (as_lists c.args.named.now)) ls) (sym c.in_ok-push-in-Ok.ensures.items)
          (subst (λ l. AreRightTo g.K.Ord.cmp c.args.history.now.most us (as_queries c.args.files.now) (as_lists c.args.named.now) (c.loop-i.i + 1) l (c.loop-i.least.items ++ c.in-Ok.places ∷ [])) (sym c.pass-at.ensures.past) next);
    }

pub returns-then-at-named-clause-right : goal.returns-then-at-named-clause-right
returns-then-at-named-clause-right g c =
    let us = c.args.history.now.updates.items in
    let count = queries_count c.args.files.now in
    let all : c.loop-i.i ≡ length (as_queries c.args.files.now) = omega (arith, count, c.loop-i-test.false, c.loop-i.auto.i-end) in
    let here = left c.args.named.now c.loop-i.at 0 c.index-named-at.result c.if-at-named.true c.index-named-at.is in
    first_beyond g.K.Ord.cmp c.args.history.now.most us (as_queries c.args.files.now) (as_lists c.args.named.now) (c.index-named-at.result.0, c.index-named-at.result.1.items) (drop (c.loop-i.at + 1) (as_lists c.args.named.now)) c.loop-i.least.items
    (subst (λ l. AreRightTo g.K.Ord.cmp c.args.history.now.most us (as_queries c.args.files.now) (as_lists c.args.named.now) (length (as_queries c.args.files.now)) l c.loop-i.least.items) here
    (subst (λ n. AreRightTo g.K.Ord.cmp c.args.history.now.most us (as_queries c.args.files.now) (as_lists c.args.named.now) n (drop c.loop-i.at (as_lists c.args.named.now)) c.loop-i.least.items) all c.loop-i.invariant.to))

pub returns-clause-right : goal.returns-clause-right
returns-clause-right g c =
    let us = c.args.history.now.updates.items in
    let count = queries_count c.args.files.now in
    let all : c.loop-i.i ≡ length (as_queries c.args.files.now) = omega (arith, count, c.loop-i-test.false, c.loop-i.auto.i-end) in
    let none = end_left c.args.named.now c.loop-i.at 0 c.if-at-named.false in
    all_right g.K.Ord.cmp c.args.history.now.most us (as_queries c.args.files.now) (as_lists c.args.named.now) c.loop-i.least.items
    (subst (λ l. AreRightTo g.K.Ord.cmp c.args.history.now.most us (as_queries c.args.files.now) (as_lists c.args.named.now) (length (as_queries c.args.files.now)) l c.loop-i.least.items) none
    (subst (λ n. AreRightTo g.K.Ord.cmp c.args.history.now.most us (as_queries c.args.files.now) (as_lists c.args.named.now) n (drop c.loop-i.at (as_lists c.args.named.now)) c.loop-i.least.items) all c.loop-i.invariant.to))
