use Rattle.std.proofs.Common.{◌≡◌, [], vec_len, vec_capacity, All}
use Rattle.ck_epoch.specs.Lists.{PendingList}
use Rattle.ck_epoch.proofs.lists.PendingList.empty_lists.Given as goal

abbrev pub invariant-loop-i : goal.invariant-loop-i
invariant-loop-i g l = record {
  count : vec_len l.lists ≡ l._i;
  room : vec_capacity l.lists ≡ 4;
  each : All (λ (k : PendingList g.row.P.Denot). (k.room ≡ l.room) × (k.items ≡ [])) l.lists.items;
}
