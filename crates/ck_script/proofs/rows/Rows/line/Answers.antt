use Rattle.std.proofs.Common.{◌≡◌, ◌∙◌, ◌+◌, ◌^◌, ◌%◌, ap, arith}
use Rattle.ck_script.specs.Columns.{ahead_at}
use Rattle.ck_script.proofs.Columns.{line_is}
use Rattle.ck_script.proofs.rows.Rows.line.Goals as goal

pub returns : goal.returns
returns g c row is =
    ap (λ a. (c.args.i + a) % 2 ^ 64) (c.ahead_of.ensures ∙ ap (λ js. ahead_at js c.args.i) c.deref.ensures.value)
    ∙ (let first : c.args.i ≡ 0 + c.args.i = omega arith in ap (λ m. (m + ahead_at c.self.inside.jumps.items m) % 2 ^ 64) first)
    ∙ line_is c.self.inside.jumps.items c.self.inside.wides.items 0 c.args.i c.self.inside.kinds.items c.self.inside.cells.items row (rw c.self.view_is is)
