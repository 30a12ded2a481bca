use Rattle.std.specs.List.Sorted.{IsStrictlySortedBy}
use Rattle.ck_history.proofs.book.Book.new.Goals as goal

-- no pair, so nothing is out of order
pub invariant_of-result : goal.invariant_of-result
unfolding IsStrictlySortedBy
invariant_of-result g c = rw c.new.ensures.items tt
