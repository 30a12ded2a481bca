use Rattle.std.proofs.Common.{◌≡◌, map, drop, ◌+◌}
use Rattle.std.specs.List.{slice_get}
use Rattle.ck_script.specs.Views.{query_places, many_fault}
use Rattle.ck_script.proofs.views.check_views.Given as goal

-- the query is in the files that are left, with so many before it
abbrev pub invariant-loop-i : goal.invariant-loop-i
invariant-loop-i g l = slice_get (query_places (l.i + 1) (map g.F.LineList.items (drop l.i l.asks))) l.left ≡ many_fault (map g.F.LineList.items l.asks)
