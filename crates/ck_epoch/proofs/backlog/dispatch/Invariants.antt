use Rattle.std.proofs.Common.{◌≡◌, ◌+◌, ◌++◌, take, drop}
use Rattle.std.specs.VecDeque.{deque_len, deque_capacity}
use Rattle.ck_epoch.specs.Lists.{homes}
use Rattle.ck_epoch.proofs.backlog.dispatch.Given as goal

abbrev pub invariant-loop-i : goal.invariant-loop-i
invariant-loop-i g l = record {
  items : l.list.items ≡ drop l._i l.initial.list.items;
  room : l.list.room ≡ l.initial.list.room;
  waiting : l.waiting.items ≡ l.initial.waiting.items ++ homes (g.C.Client.meaning.home l.client) (take l._i l.initial.list.items);
  len : deque_len l.waiting ≡ deque_len l.initial.waiting + l._i;
  capacity : deque_capacity l.waiting ≡ deque_capacity l.initial.waiting;
}
