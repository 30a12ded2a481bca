use Rattle.std.proofs.Common.{◌+◌, map, subst, arith}
use Rattle.std.proofs.lemmas.List.{length-map}
use Rattle.std.proofs.lemmas.Option.{slice_get_within, get_or_from_slice_get}
use Rattle.ck_lookup.specs.FilesRead.{IsQueryFileRead}
use Rattle.ck_lookup.proofs.scripts.queries_side_by_side.Goals as goal

pub gather-requires-clause-each : goal.gather-requires-clause-each
gather-requires-clause-each g c κs within i bytes one here there =
    let lt = slice_get_within (map (λ file. file.items) c.args.files.now) i bytes here in
    let long = length-map c.args.files.now (λ file. file.items) in
    let given = c.in_ok-said.ensures.each i one (omega (arith, lt, long)) in
    subst (IsQueryFileRead g.T.RunKind.kind g.T.AskFile.LineList.items (i + 1) bytes) (get_or_from_slice_get c.in_ok-said.said.items i one one there) (given.1.met bytes here)
