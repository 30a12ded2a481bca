use Rattle.std.proofs.Common.{◌≡◌, ◌≤◌, length, map}
use Rattle.std.specs.List.{position_or_len}
use Rattle.ck_script.specs.Script.{said_of}
use Rattle.ck_script.proofs.Shorts.{is_beyond_within}
use Rattle.ck_script.proofs.check.find_hold.Given as goal

-- the first line that is beyond for one of the files so far
abbrev pub invariant-loop-i : goal.invariant-loop-i
invariant-loop-i g l = record {
  first : l.end ≡ position_or_len (λ x. is_beyond_within l.i (map said_of (map g.F.LineList.items l.asks)) x.what) (g.U.LineList.items l.ups);
  within : l.end ≤ length (g.U.LineList.items l.ups);
}
