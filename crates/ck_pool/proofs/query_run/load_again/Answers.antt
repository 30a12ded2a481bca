use Rattle.std.proofs.Common.{List, map, refl, sym, subst}
use Rattle.ck_script.specs.declared.line.Numbered.{Numbered}
use Rattle.ck_script.specs.declared.line.AskLine.{AskLine}
use Rattle.ck_pool.specs.Working.{IsWaitLine}
use Rattle.ck_pool.proofs.Running.{map_there}
use Rattle.ck_pool.proofs.Files.{stands_at, waits_at, runs_again}
use Rattle.ck_pool.proofs.query_run.load_again.Goals as goal

pub retry_wait-requires-clause-waits : goal.retry_wait-requires-clause-waits
retry_wait-requires-clause-waits g c κs within =
    let h = c.requires.run in
    let same = map_there g.D.AskFile.LineList.items c.args.asks.now c.args.run.file h.lines c.index-asks-run.result h.file c.index-asks-run.is in
    subst (λ (l : List (Numbered (AskLine g.row.D-Ask.Denot))). IsWaitLine l c.in-Some.at) same (waits_at h.lines c.in-Some.at h.run.events c.args.run.answers.items (stands_at h.lines c.args.run.waits_at c.in-Some.at h.run.events c.args.run.answers.items c.in-Some.is h.run.ran))

pub returns-clause-run : goal.returns-clause-run
returns-clause-run g c =
    let h = c.requires.run in
    let same = map_there g.D.AskFile.LineList.items c.args.asks.now c.args.run.file h.lines c.index-asks-run.result h.file c.index-asks-run.is in
    let u = c.in_ok-run.ensures in
    runs_again (g.D.Dict.eyes c.args.context.now.dict.now) c.args.desk.now.eyes (map g.D.AskFile.LineList.items c.args.asks.now) c.args.run _ c.in-Some.at _ h (sym same) c.in-Some.is refl u.ready u.number u.calls u.ran.0 u.ran.1 u.ran.2
