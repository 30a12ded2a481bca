use Rattle.std.proofs.Common.{map}
use Rattle.ck_pool.proofs.Running.{get_at, map_get}
use Rattle.ck_pool.proofs.Files.{run_is}
use Rattle.ck_pool.proofs.query_run.start.Goals as goal

pub run_file-requires-clause-calls : goal.run_file-requires-clause-calls
run_file-requires-clause-calls g c κs within = (c.requires.files.ready c.args.file c.in-Some.eye c.in-Some.ensures.took.0).1

pub run_file-requires-clause-lines : goal.run_file-requires-clause-lines
run_file-requires-clause-lines g c κs within =
    let items = g.D.AskFile.LineList.items in
    let of = map_get items c.args.asks.now c.args.file c.index-asks-file.result (get_at c.args.asks.now c.args.file c.index-asks-file.result c.requires.file c.index-asks-file.is) in
    c.requires.files.short c.args.file (items c.index-asks-file.result) of

pub returns-clause-ran : goal.returns-clause-ran
returns-clause-ran g c =
    let items = g.D.AskFile.LineList.items in
    let of = map_get items c.args.asks.now c.args.file c.index-asks-file.result (get_at c.args.asks.now c.args.file c.index-asks-file.result c.requires.file c.index-asks-file.is) in
    let said = c.in_ok-run.ensures in
    (said.file, run_is (g.D.Dict.eyes c.args.context.now.dict.now) c.args.desk.now.eyes (map items c.args.asks.now) c.args.file c.in_ok-run.run' c.in-Some.eye (items c.index-asks-file.result) said.file c.in-Some.ensures.took.0 of said.run, c.in-Some.ensures.took.1)
