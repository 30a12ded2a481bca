use Rattle.std.proofs.Common.{◌≡◌, ◌∙◌, ap, sym, length, arith}
use Rattle.ck_script.proofs.Columns.{rows_long}
use Rattle.ck_script.proofs.rows.Rows.len.Goals as goal

pub returns : goal.returns
returns g c =
    let e : length c.self.inside.kinds.items ≡ length c.args.self.now = sym (rows_long c.self.inside.jumps.items c.self.inside.wides.items 0 c.self.inside.kinds.items c.self.inside.cells.items c.self.invariant.same) ∙ ap length c.self.view_is in
    omega (arith, e, c.len.ensures)
