use Rattle.std.proofs.Common.{◌≤◌, ◌-◌, length}
use Rattle.ck_judge.specs.Searches.{EndsFrom, EndsUpTo}
use Rattle.ck_judge.proofs.search.search.Given as goal

-- the search ends between the two
abbrev pub invariant-loop-low : goal.invariant-loop-low
invariant-loop-low g l = record {
  order : l.low ≤ l.high;
  within : l.high ≤ length l.elements;
  below : EndsFrom g.T.Ord.cmp l.elements l.x l.low;
  above : EndsUpTo g.T.Ord.cmp l.elements l.x l.high;
}

abbrev pub decreases-loop-low : goal.decreases-loop-low
decreases-loop-low g l = l.high - l.low
