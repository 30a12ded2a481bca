use Rattle.std.proofs.Common.{◌≡◌, map}
use Rattle.ck_pool.specs.Working.{IsQueryRun}
use Rattle.ck_pool.proofs.query_run.finish.Given as goal

abbrev pub invariant-loop : goal.invariant-loop
invariant-loop g l = record {
  file : l.run.file ≡ l.fn.run.file;
  run : IsQueryRun (g.D.Dict.eyes l.context.dict.now) l.desk.eyes (map g.D.AskFile.LineList.items l.asks) l.run;
}
