use Rattle.std.proofs.Common.{◌≡◌, ℕ, [], map}
use Rattle.ck_pool.specs.Working.{AreQueryRuns, runs_of}
use Rattle.ck_pool.proofs.worker.finish_all.Given as goal

abbrev pub invariant-loop : goal.invariant-loop
invariant-loop g l = record {
  each : AreQueryRuns (g.D.Dict.eyes l.context.dict.now) l.desk.eyes (map g.D.AskFile.LineList.items l.asks) l.runs.items;
  all : (f : ℕ) → runs_of f l.runs.items ≡ runs_of f l.fn.runs.items;
  none : l.others.items ≡ [];
}
