use Rattle.std.proofs.Common.{ℕ, ◌≤◌, length, take, drop, ◌+◌, ◌-◌, arith, length-drop}
use Rattle.std.proofs.Math.ListN.{length-take}
use Rattle.ck_io.proofs.Puts.{appended-take-more}
use Rattle.ck_report.proofs.put.put_pieces.Goals as goal

pub loop-done-preserved : goal.loop-done-preserved
loop-done-preserved g c =
    let piece : c.in_ok-done.field-0 ≤ length (take (c.loop-done.done + 65536 - c.loop-done.done) (drop c.loop-done.done c.args.text.now))
    = c.in_ok-done.ensures.within in
    let size : c.in_ok-done.field-0 ≤ c.loop-done.done + 65536 - c.loop-done.done = omega (arith, simp length-take at piece) in
    record {
      within = omega (arith, length-drop {A = ℕ}, simp (length-take, length-drop) at piece);
      taken = appended-take-more _ _ _ _ _ _ _ size c.loop-done.invariant.taken c.in_ok-done.ensures.appends;
      lasting = omega (arith, c.in_ok-done.ensures.lasting);
    }
