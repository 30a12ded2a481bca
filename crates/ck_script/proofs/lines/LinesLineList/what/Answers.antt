use Rattle.ck_script.proofs.Keeping.{row_there, kept_there, what_there}
use Rattle.ck_script.proofs.lines.LinesLineList.what.Goals as goal

pub join-requires : goal.join-requires
join-requires g c =
    let row = row_there g.L.CompactLine.line_of c.self.inside.rows c.args.self.now c.self.view_is c.args.i c.requires in
    kept_there g.L.CompactLine.line_of c.self.inside.rows c.args.self.now c.self.view_is c.args.i row.0 row.1 c.parts-kind.result (c.parts-kind.ensures row.0 row.1) g.L.CompactLine.is_kept (c.self.invariant c.args.i row.0 row.1)

pub returns : goal.returns
returns g c =
    let row = row_there g.L.CompactLine.line_of c.self.inside.rows c.args.self.now c.self.view_is c.args.i c.requires in
    what_there g.L.CompactLine.line_of c.self.inside.rows c.args.self.now c.self.view_is c.args.i row.0 row.1 c.parts-kind.result (c.parts-kind.ensures row.0 row.1) c.join.result c.join.ensures
