use Rattle.std.proofs.Common.{◌<◌, length, ap, ◌∙◌, arith}
use Rattle.std.proofs.Math.ListN.{set, get_or}
use Rattle.std.proofs.lemmas.List.{get_or_default}
use Rattle.std.proofs.lemmas.List.Edits.{map_over_more}
use Rattle.std.specs.Char.{to_ascii_lowercase}
use Rattle.ck_probe.proofs.names.fold_case.Goals as goal

pub loop-b-preserved : goal.loop-b-preserved
loop-b-preserved c =
    let within : c.loop-b.b-index < length c.loop-b.bytes = omega arith in
    let here : c.loop-b.b-index < length c.args.bytes.now = c.loop-b-test.true in
    ap (set c.loop-b.bytes c.loop-b.b-index) c.make_ascii_lowercase.ensures.after
    ∙ map_over_more to_ascii_lowercase c.args.bytes.now c.loop-b.bytes c.loop-b.b-index (get_or c.loop-b.bytes c.loop-b.b-index 0) here c.loop-b.invariant (get_or_default c.loop-b.bytes c.loop-b.b-index 0 _ within)
