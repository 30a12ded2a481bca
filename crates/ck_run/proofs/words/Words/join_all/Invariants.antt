use Rattle.std.proofs.Common.{◌≡◌, List}
use Rattle.ck_run.specs.Tokens.{Seat, table}
use Rattle.ck_run.specs.Ends.{AreTied, joined_all}
use Rattle.ck_run.proofs.words.Words.join_all.Given as goal

abbrev pub invariant-loop-end : goal.invariant-loop-end
invariant-loop-end g l = record {
  can : (goal.iterator-loop-end g).can_next l.end-iterator;
  finite : (goal.iterator-loop-end g).is_finite l.end-iterator;
  callable : goal.F-IsAlwaysCallable g l.release;
  same_table : table l.token ≡ table l.initial.token;
  joins : (tokens : List (Seat _)) × AreTied (goal.F-post g l.release) l.yielded tokens × (l.token.view ≡ joined_all l.initial.token.view tokens);
}
