use Rattle.std.proofs.Common.{◌≡◌, ◌+◌, ◌++◌, take, drop}
use Rattle.std.specs.VecDeque.{deque_len, deque_capacity}
use Rattle.ck_registry.specs.Deferred.{items_of}
use Rattle.ck_registry.proofs.deferred.dispatch.Given as goal

abbrev pub invariant-loop-i : goal.invariant-loop-i
invariant-loop-i l = record {
  items : l.list.items ≡ drop l._i l.initial.list.items;
  room : l.list.room ≡ l.initial.list.room;
  waiting : l.waiting.items ≡ l.initial.waiting.items ++ items_of (take l._i l.initial.list.items);
  len : deque_len l.waiting ≡ deque_len l.initial.waiting + l._i;
  capacity : deque_capacity l.waiting ≡ deque_capacity l.initial.waiting;
}
