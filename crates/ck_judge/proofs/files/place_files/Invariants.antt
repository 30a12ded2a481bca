use Rattle.std.proofs.Common.{◌≤◌, length, drop}
use Rattle.ck_judge.specs.Files.{as_lists, as_queries}
use Rattle.ck_judge.proofs.Named.{AreRightTo}
use Rattle.ck_judge.proofs.files.place_files.Given as goal

-- the files so far are right
abbrev pub invariant-loop-i : goal.invariant-loop-i
invariant-loop-i g l = record {
  within : l.at ≤ length l.named;
  to : AreRightTo g.K.Ord.cmp l.history.most l.history.updates.items (as_queries l.files) (as_lists l.named) l.i (drop l.at (as_lists l.named)) l.least.items;
}
