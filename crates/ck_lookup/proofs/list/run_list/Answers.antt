use Rattle.std.proofs.Common.{arith}
use Rattle.ck_lookup.specs.Lists.{list_kind}
use Rattle.ck_lookup.proofs.Ending.{runnable_report, runnable_begins, memory_ends}
use Rattle.ck_lookup.proofs.Reporting.{map_long}
use Rattle.ck_lookup.proofs.list.run_list.Goals as goal

pub put_list-requires-clause-may : goal.put_list-requires-clause-may
put_list-requires-clause-may g c κs within =
    let named = map_long (λ name. name.now) c.args.queries.now in
    let counts = c.requires.queries in
    runnable_begins list_kind _ _ _ _ c.in-Ok.ensures.runnable (omega (arith, named, counts.0)) (omega (arith, named, counts.1))

pub returns-in-Ok-put_list-clause-ends : goal.returns-in-Ok-put_list-clause-ends
returns-in-Ok-put_list-clause-ends g c =
    let put = c.in-Ok-put_list.ensures.all in
    (c.in-Ok.ensures.fetched, (put.0, runnable_report list_kind _ _ _ _ put.0 c.in-Ok.ensures.runnable put.1, put.2))

pub returns-in-Err-Failed-clause-ends : goal.returns-in-Err-Failed-clause-ends
returns-in-Err-Failed-clause-ends g c =
    let rose = rw c.in-Err-Failed.field-0-is at c.in-Err-Failed.ensures.cause in
    let put = rw c.in-Err-Failed.field-0-is at c.in-Err-Failed.ensures.prefix in
    (c.in-Ok.ensures.fetched, rose, (put.0, runnable_report list_kind _ _ _ _ put.0 c.in-Ok.ensures.runnable put.1, put.2))

pub returns-clause-ends : goal.returns-clause-ends
returns-clause-ends g c =
    memory_ends list_kind _ _ _ _ _ _ _ c.in-Ok.ensures.runnable c.in-Ok.ensures.fetched (rw c.in-Err-Memory.field-0-is at c.in-Err-Memory.ensures.prefix)
