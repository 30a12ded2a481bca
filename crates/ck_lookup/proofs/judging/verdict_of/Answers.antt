use Rattle.std.proofs.Common.{◌∷◌, map, ◌∙◌, length, ap, arith}
use Rattle.std.proofs.lemmas.Result.{err_from_is_err_and}
use Rattle.ck_lookup.proofs.Ending.{ok_more, err_more, ok_each, read_long}
use Rattle.ck_lookup.proofs.Reporting.{map_long}
use Rattle.ck_lookup.proofs.Verdicts.{some_judged, fetch_without, has_files, not_judged}
use Rattle.ck_lookup.proofs.judging.verdict_of.Goals as goal

pub returns-in_err-files-clause-refused : goal.returns-in_err-files-clause-refused
returns-in_err-files-clause-refused g c =
    let p = err_from_is_err_and c.from_residual.result c.from_residual.ensures.1 in
    rw (p.1, p.2) (fetch_without _ _ _ _ _ c.in_err-files.ensures.refused)

pub judge_files-requires : goal.judge_files-requires
judge_files-requires g c =
    let read = read_long (g.S.Shelf.held c.args.shelf.now) (c.args.updates.now ∷ map (λ name. name.now) c.args.others.now) _ c.in_ok-files.ensures.read in
    let named = map_long (λ name. name.now) c.args.others.now in
    let files = map_long (λ file. file.items) c.all.result.now in
    let same = ap length c.all.ensures.all in
    omega (arith, read, named, files, same, c.requires)

pub returns-clause-verdict : goal.returns-clause-verdict
returns-clause-verdict g c =
    let names = c.args.updates.now ∷ map (λ name. name.now) c.args.others.now in
    let named = map_long (λ name. name.now) c.args.others.now in
    let some = some_judged (g.S.Shelf.held c.args.shelf.now) c.args.updates.now (map (λ name. name.now) c.args.others.now) _ c.in_ok-files.ensures.read (omega (arith, named, c.requires)) in
    ok_more _ (λ verdict judged. has_files (g.S.Shelf.held c.args.shelf.now) names _ some.0 some.1 some.2 some.3 c.in_ok-files.ensures.read c.in_ok-files.ensures.within _ judged)
    (c.judge_files.ensures.judged some.0 some.1 some.2 (c.all.ensures.all ∙ some.3))

pub returns-clause-fetched : goal.returns-clause-fetched
returns-clause-fetched g c = ok_each _ _ c.in_ok-files.ensures.fetched

pub returns-clause-refused : goal.returns-clause-refused
returns-clause-refused g c =
    let names = c.args.updates.now ∷ map (λ name. name.now) c.args.others.now in
    let named = map_long (λ name. name.now) c.args.others.now in
    let some = some_judged (g.S.Shelf.held c.args.shelf.now) c.args.updates.now (map (λ name. name.now) c.args.others.now) _ c.in_ok-files.ensures.read (omega (arith, named, c.requires)) in
    err_more _ (λ outcome refused. not_judged (g.S.Shelf.held c.args.shelf.now) names _ some.0 some.1 some.2 some.3 c.in_ok-files.ensures.read c.in_ok-files.ensures.within (g.S.Shelf.faults c.args.shelf.now) (g.S.Shelf.faults c.fetch_all.new.shelf) outcome c.in_ok-files.ensures.fetched refused)
    (c.judge_files.ensures.refused some.0 some.1 some.2 (c.all.ensures.all ∙ some.3))
