use Rattle.std.proofs.Common.{◌≡◌, ℕ, ◌+◌, ◌≤◌, ◌++◌, length, vec_len, vec_capacity}
use Rattle.ck_run.specs.Tokens.{Table}
use Rattle.ck_run.specs.Ends.{fresh, AreFresh}
use Rattle.ck_registry.specs.Closing.{AreFreshVisitors}
use Rattle.ck_registry.proofs.opening.visitors_of.Given as goal

abbrev pub invariant-loop-token : goal.invariant-loop-token
invariant-loop-token l = record {
  can : (goal.iterator-loop-token).can_next l.token-iterator;
  finite : (goal.iterator-loop-token).is_finite l.token-iterator;
  left : l.yielded ++ l.token-iterator.rest.items ≡ l.fn.others.items;
  counted : vec_len l.visitors ≡ length l.yielded + 1;
  room : vec_len l.fn.others + 1 ≤ vec_capacity l.visitors;
  made : (table : Table ℕ) → l.fn.first ≡ fresh table 0 → AreFresh table 1 l.fn.others.items → AreFreshVisitors table l.fn.room 0 l.visitors.items;
}
