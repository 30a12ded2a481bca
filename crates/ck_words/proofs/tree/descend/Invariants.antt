use Rattle.ck_words.proofs.Descending.{IsDescending}
use Rattle.ck_words.proofs.tree.descend.Given as goal

abbrev pub invariant-loop-spare : goal.invariant-loop-spare
invariant-loop-spare l = IsDescending l.halvings l.depth l.node l.spare

abbrev pub decreases-loop-spare : goal.decreases-loop-spare
decreases-loop-spare l = l.spare
