use Rattle.std.proofs.Common.{◌≡◌, ◌-◌, ◌*◌, ◌^◌, ◌<◌, ◌≤◌, ◌⊎◌}
use Rattle.ck_ht.proofs.table.room_log.Given as goal

abbrev pub invariant-loop-c : goal.invariant-loop-c
invariant-loop-c l = record {
  low : 3 ≤ l.c;
  least : (l.c ≡ 3) ⊎ (2 ^ (l.c - 1) < 2 * l.keys);
}
