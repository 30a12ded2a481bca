use Rattle.std.proofs.Common.{◌≡◌, ◌+◌, All, vec_len, IfOk, map}
use Rattle.ck_pool.specs.Desk.{all_parts, IsClerkOf}
use Rattle.ck_pool.specs.Working.{IsWorked, AreEnded, HasRuns}
use Rattle.ck_pool.proofs.gather.gather.Given as goal

abbrev pub invariant-loop-one : goal.invariant-loop-one
invariant-loop-one g l = record {
  clerk : IsClerkOf l.desk l.clerk;
  parts : l.clerk.known.parts + vec_len l.left ≡ all_parts;
  left : All (λ one. IfOk one (IsWorked (g.D.Dict.eyes l.context.dict.now) l.desk.eyes (map g.D.AskFile.LineList.items l.asks) l.desk)) l.left.items;
  each : AreEnded (g.D.Dict.eyes l.context.dict.now) l.desk.eyes (map g.D.AskFile.LineList.items l.asks) l.runs.items;
  all : HasRuns l.clerk l.runs.items;
}

abbrev pub decreases-loop-one : goal.decreases-loop-one
decreases-loop-one g l = vec_len l.left
