use Rattle.std.proofs.Common.{◌*◌}
use Rattle.ck_registry.proofs.Seats.{seat_calls, seat_next}
use Rattle.ck_registry.proofs.tests.work.Goals as goal

pub loop-i-preserved : goal.loop-i-preserved
loop-i-preserved c = let d = c.args.registry.now in let i = c.loop-i.i in record {
  none = c.loop-i.invariant.none;
  seat = seat_next d i c.in_ok-seat.seat (c.in_ok-seat.ensures.seat (8 * i) (seat_calls d (8 * i) c.loop-i.seat c.loop-i.invariant.seat));
}
