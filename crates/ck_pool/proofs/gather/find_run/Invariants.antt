use Rattle.std.proofs.Common.{◌≡◌, take}
use Rattle.ck_pool.specs.Working.{runs_of}
use Rattle.ck_pool.proofs.gather.find_run.Given as goal

abbrev pub invariant-loop-k : goal.invariant-loop-k
invariant-loop-k g l = runs_of l.file (take l.k l.runs) ≡ 0
