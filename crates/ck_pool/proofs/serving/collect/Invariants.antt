use Rattle.std.proofs.Common.{◌≡◌, ◌≤◌, ℕ, map, take}
use Rattle.ck_pool.specs.Desk.{occurrences, all_parts, IsClerkOf}
use Rattle.ck_pool.specs.Served.{AreServed}
use Rattle.ck_pool.specs.Working.{AreEnded, runs_of}
use Rattle.ck_pool.proofs.serving.collect.Given as goal

abbrev pub invariant-loop-file : goal.invariant-loop-file
invariant-loop-file g l = record {
  clerk : IsClerkOf l.desk l.clerk;
  parts : l.clerk.known.parts ≡ all_parts;
  each : AreEnded (g.D.Dict.eyes l.context.dict.now) l.desk.eyes (map g.D.AskFile.LineList.items l.asks) l.runs.items;
  all : (f : ℕ) → l.file ≤ f → occurrences f l.clerk.known.took ≡ runs_of f l.runs.items;
  served : AreServed (g.D.Dict.eyes l.context.dict.now) (take l.file l.desk.eyes) (take l.file (map g.D.AskFile.LineList.items l.asks)) l.eyes.items (map (λ file. file.items) l.answers.items);
}
