use Rattle.std.proofs.Common.{arith}
use Rattle.std.specs.VecDeque.{deque_len, deque_capacity}
use Rattle.ck_epoch.proofs.Emptying.{none_pending, new_fits}
use Rattle.ck_epoch.proofs.backlog.Backlog.new.Goals as goal

pub invariant_of-result : goal.invariant_of-result
invariant_of-result c =
    let waiting = c.in_ok-waiting.waiting in let none = c.in_ok-waiting.ensures.len in
    new_fits c.in_ok-lists.lists c.args.room c.in_ok-lists.ensures.count c.in_ok-lists.ensures.each (deque_len waiting) (deque_capacity waiting) (omega arith) c.in_ok-waiting.ensures.exact

pub returns-clause-lists : goal.returns-clause-lists
returns-clause-lists c list low = none_pending c.in_ok-lists.lists c.args.room c.in_ok-lists.ensures.count c.in_ok-lists.ensures.each list low
