use Rattle.std.proofs.Common.{◌≡◌, ℕ}
use Rattle.ck_htplan.specs.Region.{order_of, view_of}
use Rattle.ck_htwrite.proofs.Empties.{NoneEmpty}
use Rattle.ck_htwrite.proofs.rebuild.first_empty.Given as goal

abbrev pub invariant-loop-i : goal.invariant-loop-i
invariant-loop-i l = (hash : ℕ → ℕ) (k : ℕ) → hash k ≡ l.h → NoneEmpty (order_of l.c hash) (view_of l.words) k l.i
