use Rattle.std.proofs.Common.{◌≡◌, ◌∙◌, length, ap, arith}
use Rattle.ck_ring.specs.State.{state}
use Rattle.ck_pool.proofs.Opening.{numbers_long}
use Rattle.ck_pool.proofs.serving.send_all.Goals as goal

pub unreachable-requires : goal.unreachable-requires
unreachable-requires c =
    let full = rw c.in-Err.is at c.enqueue.ensures.steps in
    let p = c.loop-file.producer in
    let long : length (state p).sent ≡ c.loop-file.file = ap length c.loop-file.invariant.sent ∙ numbers_long c.loop-file.file in
    let room = full.0.1 in
    omega (arith, long, room, c.requires.room.0, c.requires.room.1, c.loop-file-test.true)
