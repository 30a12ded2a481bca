use Rattle.std.proofs.Common.{◌≡◌, ◌+◌, ℕ, vec_len, map}
use Rattle.ck_pool.specs.Working.{AreQueryRuns, runs_of}
use Rattle.ck_pool.proofs.worker.load_all.Given as goal

abbrev pub invariant-loop-run : goal.invariant-loop-run
invariant-loop-run g l = record {
  left : AreQueryRuns (g.D.Dict.eyes l.context.dict.now) l.desk.eyes (map g.D.AskFile.LineList.items l.asks) l.runs.items;
  moved : AreQueryRuns (g.D.Dict.eyes l.context.dict.now) l.desk.eyes (map g.D.AskFile.LineList.items l.asks) l.others.items;
  all : (f : ℕ) → runs_of f l.runs.items + runs_of f l.others.items ≡ runs_of f l.fn.runs.items;
}

abbrev pub decreases-loop-run : goal.decreases-loop-run
decreases-loop-run g l = vec_len l.runs
