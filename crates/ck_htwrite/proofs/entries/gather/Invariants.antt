use Rattle.std.proofs.Common.{ℕ, ◌^◌}
use Rattle.ck_history.specs.Map.{Map}
use Rattle.ck_htplan.specs.Region.{view_of}
use Rattle.ck_htlaw.specs.Layout.{log_of}
use Rattle.ck_htwrite.specs.Entries.{AreGathered, HoldsMap}
use Rattle.ck_htwrite.proofs.entries.gather.Given as goal

abbrev pub invariant-loop-slot : goal.invariant-loop-slot
invariant-loop-slot l = (m : Map ℕ) → HoldsMap (view_of l.state.words.items) (2 ^ log_of l.state.root) m → AreGathered (view_of l.state.words.items) m l.slot l.pairs.entries
