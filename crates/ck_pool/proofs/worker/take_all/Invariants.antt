use Rattle.std.proofs.Common.{◌≡◌, map}
use Rattle.ck_run.specs.Tokens.{table}
use Rattle.ck_pool.specs.Desk.{IsClerkOf}
use Rattle.ck_pool.specs.Working.{AreQueryRuns, HasRuns, MayDequeue}
use Rattle.ck_pool.proofs.worker.take_all.Given as goal

abbrev pub invariant-loop : goal.invariant-loop
invariant-loop g l = record {
  clerk : IsClerkOf l.desk l.clerk;
  parts : l.clerk.known.parts ≡ l.fn.clerk.known.parts;
  ring : table l.consumer ≡ l.ring;
  may : MayDequeue l.consumer;
  each : AreQueryRuns (g.D.Dict.eyes l.context.dict.now) l.desk.eyes (map g.D.AskFile.LineList.items l.asks) l.runs.items;
  all : HasRuns l.clerk l.runs.items;
}
