use Rattle.std.proofs.Common.{◌≡◌, ◌+◌, ◌-◌, ◌≤◌, vec_len, vec_capacity}
use Rattle.ck_run.specs.Ends.{EachFrom, keeper, fresh}
use Rattle.ck_run.proofs.words.Words.part_all.Given as goal

abbrev pub invariant-loop-i : goal.invariant-loop-i
invariant-loop-i g l = record {
  keeps : l.token ≡ keeper l.self (l.i + 1) (l.count - l.i);
  counted : vec_len l.ends ≡ l.i;
  room : l.count ≤ vec_capacity l.ends;
  made : EachFrom (λ n end. goal.F-post g l.make n (fresh l.self n) end) 1 l.ends.items;
}
