use Rattle.std.proofs.Common.{◌≡◌, ◌*◌, None}
use Rattle.ck_registry.proofs.Seats.{IsSeat}
use Rattle.ck_registry.proofs.tests.work.Given as goal

abbrev pub invariant-loop-i : goal.invariant-loop-i
invariant-loop-i l = record { none : l.w.seat ≡ None; seat : IsSeat l.registry (8 * l.i) l.seat }
