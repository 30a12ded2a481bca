use Rattle.std.proofs.Common.{length, slice_set, ap, subst, arith}
use Rattle.std.specs.VecDeque.{deque_len, deque_capacity}
use Rattle.ck_epoch.specs.Lists.{Backlog, RetiredList, in_a_row, lists_view}
use Rattle.ck_epoch.proofs.Emptying.{IsEmptied, is_emptied, emptied_total, emptied_fits}
use Rattle.ck_epoch.proofs.backlog.Backlog.dispatch_list.Goals as goal

pub invariant_of-self : goal.invariant_of-self
invariant_of-self g c =
    let b = c.self.inside in
    emptied_fits b.lists (deque_len b.waiting) (deque_capacity b.waiting) c.self.invariant c.args.list c.index_mut-items.result.now c.dispatch.new.list c.requires.list c.index_mut-items.ensures.value c.dispatch.ensures.list
    (deque_len c.dispatch.new.waiting) (deque_capacity c.dispatch.new.waiting) c.dispatch.ensures.len c.dispatch.ensures.capacity

pub returns-clause-lists : goal.returns-clause-lists
returns-clause-lists g c =
    let b = c.self.inside in
    subst (λ (v : Backlog). IsEmptied c.args.list v.lists (lists_view (slice_set b.lists.items c.args.list c.dispatch.new.list))) c.self.view_is
    (is_emptied b.lists (deque_len b.waiting) (deque_capacity b.waiting) c.self.invariant c.args.list c.dispatch.new.list c.requires.list (ap (λ (l : RetiredList). l.items) c.dispatch.ensures.list))

pub returns-clause-total : goal.returns-clause-total
returns-clause-total g c =
    let b = c.self.inside in
    let total = emptied_total b.lists (deque_len b.waiting) (deque_capacity b.waiting) c.self.invariant c.args.list c.index_mut-items.result.now c.dispatch.new.list c.requires.list c.index_mut-items.ensures.value c.dispatch.ensures.list in
    let count = c.len-count.ensures in
    let fits = c.self.invariant.fits in
    let view = ap (λ (v : Backlog). length (in_a_row v.lists)) c.self.view_is in
    (omega arith, omega arith)
