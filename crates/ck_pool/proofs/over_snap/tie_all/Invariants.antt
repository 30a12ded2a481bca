use Rattle.std.proofs.Common.{◌≡◌, ◌+◌, ◌<◌, ◌≤◌, All, vec_len}
use Rattle.ck_snap.specs.Tokens.{IsWriterOf, IsPassOf, log}
use Rattle.ck_pool.specs.Limits.{most_query_files, call_bound}
use Rattle.ck_pool.specs.Snapshots.{AllPlacedIn}
use Rattle.ck_pool.proofs.over_snap.tie_all.Given as goal

abbrev pub invariant-loop-pass : goal.invariant-loop-pass
invariant-loop-pass g l = record {
  hand : IsWriterOf l.snap l.hand;
  done : l.hand.done ≡ l.fn.hand.done;
  calls : l.hand.calls + vec_len l.left ≤ call_bound + most_query_files;
  left : All (λ p. IsPassOf l.snap p × (p.calls < call_bound)) l.left.items;
  tied : AllPlacedIn (log l.fn.hand) l.left.items → AllPlacedIn (log l.fn.hand) l.fn.passes.items;
}

abbrev pub decreases-loop-pass : goal.decreases-loop-pass
decreases-loop-pass g l = vec_len l.left
