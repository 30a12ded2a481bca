use Rattle.std.proofs.Common.{◌+◌, ap, ◌∙◌}
use Rattle.std.specs.List.{slice_get}
use Rattle.std.specs.Option.{unwrap_or}
use Rattle.ck_script.specs.Script.{greatest}
use Rattle.ck_judge.specs.Bounds.{hold_line}
use Rattle.ck_judge.proofs.Holding.{limits_more}
use Rattle.ck_judge.proofs.bounds.limit_by.Goals as goal

pub returns : goal.returns
returns c = λ all m i hs rise.
    ap (λ xs. unwrap_or (slice_get xs i) (greatest all c.args.f (i + 1) hs)) c.in_ok-extend.ensures
    ∙ limits_more all m c.args.f (hold_line c.args.line.now) hs c.args.limits.now.items i rise c.if-line-f.false
