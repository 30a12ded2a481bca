use Rattle.std.proofs.Common.{◌≡◌, drop}
use Rattle.ck_gen.specs.Summaries.{sum_from}
use Rattle.ck_gen.proofs.summary.sum_of.Given as goal

-- with the other pairs the sum would be whole
abbrev pub invariant-loop-key : goal.invariant-loop-key
invariant-loop-key l = sum_from l.sum (drop l.key-index l.pairs) ≡ sum_from 0 l.pairs
