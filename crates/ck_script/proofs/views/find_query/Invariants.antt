use Rattle.std.proofs.Common.{◌≡◌, length, drop, ◌+◌}
use Rattle.std.specs.List.{slice_get}
use Rattle.ck_script.specs.Views.{query_lines}
use Rattle.ck_script.proofs.views.find_query.Given as goal

-- the query is among those of the lines that are left, with so many before it
abbrev pub invariant-loop-i : goal.invariant-loop-i
invariant-loop-i g l = record {
  there : slice_get (query_lines (drop l.i (g.F.LineList.items l.lines))) l.left ≡ slice_get (query_lines (g.F.LineList.items l.lines)) l.n;
  count : l.left + length (query_lines (g.F.LineList.items l.lines)) ≡ l.n + length (query_lines (drop l.i (g.F.LineList.items l.lines)));
}
