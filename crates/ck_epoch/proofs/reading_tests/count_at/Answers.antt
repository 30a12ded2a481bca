use Rattle.std.proofs.Common.{◌≡◌, ◌+◌, ap, arith}
use Rattle.ck_run.specs.Tokens.{Table, origin, did}
use Rattle.ck_run.proofs.Moments.{part_follows}
use Rattle.ck_epoch.specs.State.{base_of}
use Rattle.ck_epoch.proofs.Counting.{loads_on}
use Rattle.ck_epoch.proofs.reading_tests.count_at.Goals as goal

pub read-requires-clause-client : goal.read-requires-clause-client
read-requires-clause-client c reading n fits other =
    let t = c.args.pass.now.token in
    let at : base_of c.args.domain.now.origin + 0 ≡ base_of (origin t) = let e = ap (λ (x : Table _). base_of x.origin) c.requires.table in omega arith in
    loads_on (base_of (origin t)) (base_of c.args.domain.now.origin + 0) n (did t) at ((part_follows _ (origin t) t.view.own reading.part).3 other)
