use Rattle.std.specs.Prelude.{slice_get, Some}
use Rattle.std.proofs.Common.{◌≡◌, ℕ, ◌-◌, ◌<◌, ◌≤◌, length}
use Rattle.ck_script.proofs.rows.ahead_of.Given as goal

-- the jumps before the one place are reached, and those from the other on aren't
abbrev pub invariant-loop-low : goal.invariant-loop-low
invariant-loop-low l = record {
  order : l.low ≤ l.high;
  within : l.high ≤ length l.jumps;
  below : (j : ℕ) (x : ℕ × ℕ) → j < l.low → slice_get l.jumps j ≡ Some x → x.0 ≤ l.i;
  above : (j : ℕ) (x : ℕ × ℕ) → l.high ≤ j → slice_get l.jumps j ≡ Some x → l.i < x.0;
}

abbrev pub decreases-loop-low : goal.decreases-loop-low
decreases-loop-low l = l.high - l.low
