use Rattle.std.proofs.Common.{◌+◌, ◌-◌, ◌/◌, ℕ, ◌<◌, arith, sym, get_or}
use Rattle.std.proofs.lemmas.Option.{slice_get-get_or}
use Rattle.ck_script.proofs.Columns.{ahead_none, ahead_last}
use Rattle.ck_script.proofs.rows.ahead_of.Goals as goal

-- the jump in the middle is reached, and so are those before it
pub loop-low-preserved-then-jumps-middle : goal.loop-low-preserved-then-jumps-middle
loop-low-preserved-then-jumps-middle c =
    let m : ℕ = c.loop-low.low + (c.loop-low.high - c.loop-low.low) / 2 in
    let inside : m < c.loop-low.high = omega (arith, c.loop-low-test.true) in
    let here = slice_get-get_or c.args.jumps.now m (0, 0) (omega (arith, c.loop-low.invariant.within)) in
    record {
      order = omega arith;
      within = c.loop-low.invariant.within;
      below = λ j x lt at. omega (arith, c.requires j m x (get_or c.args.jumps.now m (0, 0)) (omega arith) at here, c.if-jumps-middle.true);
      above = c.loop-low.invariant.above;
    }

-- it isn't, nor are those after it
pub loop-low-preserved : goal.loop-low-preserved
loop-low-preserved c =
    let m : ℕ = c.loop-low.low + (c.loop-low.high - c.loop-low.low) / 2 in
    let inside : m < c.loop-low.high = omega (arith, c.loop-low-test.true) in
    let here = slice_get-get_or c.args.jumps.now m (0, 0) (omega (arith, c.loop-low.invariant.within)) in
    record {
      order = omega arith;
      within = omega (arith, c.loop-low.invariant.within);
      below = c.loop-low.invariant.below;
      above = λ j x le at. omega (arith, c.requires m j (get_or c.args.jumps.now m (0, 0)) x le here at, c.if-jumps-middle.false);
    }

pub returns-then-low-eq0 : goal.returns-then-low-eq0
returns-then-low-eq0 c = sym (ahead_none 1 c.args.jumps.now c.args.i (λ j x at. c.loop-low.invariant.above j x (omega (arith, c.loop-low-test.false, c.if-low-eq0.true)) at))

pub returns-else-low-eq0 : goal.returns-else-low-eq0
returns-else-low-eq0 c =
    let k : ℕ = c.loop-low.low - 1 in
    let some : k < c.loop-low.low = omega (arith, c.if-low-eq0.false) in
    let here = slice_get-get_or c.args.jumps.now k (0, 0) (omega (arith, c.loop-low.invariant.order, c.loop-low.invariant.within)) in
    sym (ahead_last 1 c.args.jumps.now c.args.i k (get_or c.args.jumps.now k (0, 0)) here
    (λ j x le at. c.loop-low.invariant.below j x (omega arith) at)
    (λ j x lt at. c.loop-low.invariant.above j x (omega (arith, c.loop-low-test.false)) at))
