use Rattle.std.proofs.Common.{arith, refl, ◌+◌, ◌∷◌, [], ap, ◌∙◌, map}
use Rattle.std.proofs.lemmas.Result.{err_from_is_err_and}
use Rattle.ck_lookup.proofs.Within.{none_counted}
use Rattle.ck_lookup.proofs.Told.{refused_next, refused_query, query_read}
use Rattle.ck_lookup.proofs.fetch.fetch_all.Goals as goal

-- the update file was refused
pub returns-in_err-fetch_next-clause-refused : goal.returns-in_err-fetch_next-clause-refused
returns-in_err-fetch_next-clause-refused g c =
    let p = err_from_is_err_and c.from_residual.result c.from_residual.ensures.1 in
    rw (p.1, p.2) (refused_next (g.S.Shelf.held c.args.shelf.now) (c.args.updates.now ∷ map (λ name. name.now) c.args.queries.now) (g.S.Shelf.faults c.args.shelf.now) (g.S.Shelf.faults c.args.shelf.now) (g.S.Shelf.faults c.fetch_next.new.shelf) 0 c.args.updates.now [] _ refl tt none_counted.within refl (rw c.new-files.ensures at c.in_err-fetch_next.ensures.refused))

-- a query file was refused
pub returns-in_err-fetch_next-2-clause-refused : goal.returns-in_err-fetch_next-2-clause-refused
returns-in_err-fetch_next-2-clause-refused g c =
    let p = err_from_is_err_and c.from_residual-in_err-fetch_next-2.result c.from_residual-in_err-fetch_next-2.ensures.1 in
    let kept = c.loop-query.invariant in
    rw (p.1, p.2) (refused_query (λ name. name.now) (g.S.Shelf.held c.args.shelf.now) c.args.updates.now c.args.queries.now (g.S.Shelf.faults c.args.shelf.now) (g.S.Shelf.faults c.loop-query.shelf) (g.S.Shelf.faults c.fetch_next-in-loop-query.new.shelf) c.loop-query.query-index (c.loop-query.number + 1) (record { ref_ptr = (0, 0); now = [] }) c.loop-query.files _ (omega arith) (ap (λ n. n + 1) kept.count) kept.read kept.within kept.fetched (rw kept.held at c.in_err-fetch_next-2.ensures.refused))

-- a query file was read
pub loop-query-preserved : goal.loop-query-preserved
loop-query-preserved g c =
    let next = c.in_ok-fetch_next-2.ensures.ok in
    let kept = c.loop-query.invariant in
    record {
      count = omega arith;
      read = query_read (λ name. name.now) (g.S.Shelf.held c.args.shelf.now) c.args.updates.now c.args.queries.now c.loop-query.query-index (record { ref_ptr = (0, 0); now = [] }) c.loop-query.files _ next.file (omega arith) kept.read next.added (rw kept.held at next.read);
      within = next.within;
      held = c.fetch_next-in-loop-query.ensures.held ∙ kept.held;
      fetched = c.in_ok-fetch_next-2.ensures.fetched ∙ kept.fetched;
    }
