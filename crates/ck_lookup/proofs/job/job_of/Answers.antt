use Rattle.std.proofs.Common.{◌∷◌, map, ◌∙◌}
use Rattle.std.proofs.lemmas.Result.{err_from_is_err_and}
use Rattle.ck_lookup.proofs.Ending.{runnable, refused_fetch, refused_script, some_read, ok_more, err_more, ok_each}
use Rattle.ck_lookup.proofs.job.job_of.Goals as goal

pub returns-clause-runnable : goal.returns-clause-runnable
returns-clause-runnable g c =
    let names = c.args.updates.now ∷ map (λ name. name.now) c.args.queries.now in
    let some = some_read (g.S.Shelf.held c.args.shelf.now) c.args.updates.now (map (λ name. name.now) c.args.queries.now) _ c.in_ok-files.ensures.read in
    ok_more _ (λ job said. runnable g.T.RunKind.kind (g.S.Shelf.held c.args.shelf.now) names _ some.0 some.1 _ _ some.2 c.in_ok-files.ensures.read c.in_ok-files.ensures.within said)
    (c.job_of_files.ensures.said some.0 some.1 (c.all.ensures.all ∙ some.2))

pub returns-clause-fetched : goal.returns-clause-fetched
returns-clause-fetched g c = ok_each _ _ c.in_ok-files.ensures.fetched

pub returns-clause-refused : goal.returns-clause-refused
returns-clause-refused g c =
    let names = c.args.updates.now ∷ map (λ name. name.now) c.args.queries.now in
    let some = some_read (g.S.Shelf.held c.args.shelf.now) c.args.updates.now (map (λ name. name.now) c.args.queries.now) _ c.in_ok-files.ensures.read in
    err_more _ (λ outcome refused. refused_script g.T.RunKind.kind (g.S.Shelf.held c.args.shelf.now) names _ (g.S.Shelf.faults c.args.shelf.now) (g.S.Shelf.faults c.fetch_all.new.shelf) outcome some.0 some.1 some.2 c.in_ok-files.ensures.read c.in_ok-files.ensures.within c.in_ok-files.ensures.fetched refused)
    (c.job_of_files.ensures.refused some.0 some.1 (c.all.ensures.all ∙ some.2))

pub returns-in_err-files-clause-refused : goal.returns-in_err-files-clause-refused
returns-in_err-files-clause-refused g c =
    let p = err_from_is_err_and c.from_residual.result c.from_residual.ensures.1 in
    rw (p.1, p.2) (refused_fetch g.T.RunKind.kind _ _ _ _ _ c.in_err-files.ensures.refused)
