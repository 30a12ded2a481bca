use Rattle.std.proofs.Common.{◌∙◌, ℕ, Some, sym, ap, arith}
use Rattle.ck_history.proofs.Index.{found, absent}
use Rattle.ck_history.proofs.Made.{find_at}
use Rattle.ck_history.proofs.pairs.find.Goals as goal

pub offset_bounds-pairs-at : goal.offset_bounds-pairs-at
offset_bounds-pairs-at g c = let here = found g.met.K.Ord.total _ _ _ c.in-Ok.ensures in omega (arith, here.in_range)

pub bounds-pairs-at-in-Ok : goal.bounds-pairs-at-in-Ok
bounds-pairs-at-in-Ok g c = let here = found g.met.K.Ord.total _ _ _ c.in-Ok.ensures in here.in_range

pub bounds-pairs-at : goal.bounds-pairs-at
bounds-pairs-at g c = let here = found g.met.K.Ord.total _ _ _ c.in-Ok.ensures in here.in_range

pub returns-in-Ok : goal.returns-in-Ok
returns-in-Ok g c =
    let at = c.index-pairs-at in
    let same = ap (λ (p : g.row.K.Denot × ℕ). Some p.1) (sym at.is) in
    same ∙ sym (find_at g.met.K.Ord.total 0 _ _ _ c.in-Ok.ensures _ at.is)

pub returns-in-Err : goal.returns-in-Err
returns-in-Err g c =
    let gap = absent g.met.K.Ord.total _ _ _ c.requires c.in-Err.ensures in
    sym gap.value
