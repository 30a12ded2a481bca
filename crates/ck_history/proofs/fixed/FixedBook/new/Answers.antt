use Rattle.std.proofs.Common.{arith}
use Rattle.std.specs.List.Sorted.{IsStrictlySortedBy}
use Rattle.ck_history.proofs.fixed.FixedBook.new.Goals as goal

-- no pair, so nothing is out of order
pub invariant_of-result : goal.invariant_of-result
unfolding IsStrictlySortedBy
invariant_of-result g c = let made = c.in_ok-with_capacity.ensures in (rw made.items tt, (omega arith, omega arith))
