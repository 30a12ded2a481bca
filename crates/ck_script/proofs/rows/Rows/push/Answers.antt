use Rattle.std.proofs.Common.{◌≡◌, ◌∙◌, length, refl, arith}
use Rattle.ck_script.specs.Columns.{AreMore}
use Rattle.ck_script.proofs.Columns.{rows_still, kept_still, kept_after, rows_ok, rows_err, err_always}
use Rattle.ck_script.proofs.rows.Rows.push.Goals as goal

pub returns-in_err-note_line-clause-err : goal.returns-in_err-note_line-clause-err
returns-in_err-note_line-clause-err g c =
    let end : c.len.result ≡ length c.self.inside.kinds.items = omega (arith, c.len.ensures) in
    let same : AreMore c.self.inside.wides.items c.self.inside.wides.items = (omega arith, λ p lt. refl) in
    err_always _ (rows_still _ _ _ _ _ _ _ _ c.self.invariant c.len.result end c.note_line.ensures.jumps c.note_line.ensures.before same ∙ c.self.view_is)

pub invariant_of-self-in_err-kind : goal.invariant_of-self-in_err-kind
invariant_of-self-in_err-kind g c =
    let end : c.len.result ≡ length c.self.inside.kinds.items = omega (arith, c.len.ensures) in
    kept_still _ _ _ _ _ _ _ _ c.self.invariant c.len.result end c.note_line.ensures.jumps c.note_line.ensures.before c.note_number.ensures.more

pub returns-in_err-kind-clause-err : goal.returns-in_err-kind-clause-err
returns-in_err-kind-clause-err g c =
    let end : c.len.result ≡ length c.self.inside.kinds.items = omega (arith, c.len.ensures) in
    err_always _ (rows_still _ _ _ _ _ _ _ _ c.self.invariant c.len.result end c.note_line.ensures.jumps c.note_line.ensures.before c.note_number.ensures.more ∙ c.self.view_is)

pub invariant_of-self-2 : goal.invariant_of-self-2
invariant_of-self-2 g c =
    let end : c.len.result ≡ length c.self.inside.kinds.items = omega (arith, c.len.ensures) in
    kept_after _ _ _ _ _ _ _ _ c.self.invariant c.len.result end c.note_line.ensures.jumps c.note_line.ensures.before c.note_number.ensures.more
    c.in_ok-kind.kind (c.in_ok-kind.low, c.args.row.rest) c.in_ok-kind.ensures.within c.push_both.result _ _ c.push_both.ensures.ok c.push_both.ensures.err

pub returns-clause-ok : goal.returns-clause-ok
returns-clause-ok g c =
    let end : c.len.result ≡ length c.self.inside.kinds.items = omega (arith, c.len.ensures) in
    rows_ok _ _ _ _ _ _ _ _ c.self.invariant c.len.result end c.note_line.ensures.jumps c.note_line.ensures.before c.note_number.ensures.more
    c.in_ok-kind.kind (c.in_ok-kind.low, c.args.row.rest) c.in_ok-kind.ensures.within c.push_both.result _ _ c.args.row _ c.in_ok-note_line.ensures.line c.in_ok-kind.ensures.kind c.in_ok-kind.ensures.number refl c.self.view_is c.push_both.ensures.ok

pub returns-clause-err : goal.returns-clause-err
returns-clause-err g c =
    let end : c.len.result ≡ length c.self.inside.kinds.items = omega (arith, c.len.ensures) in
    rows_err _ _ _ _ _ _ _ _ c.self.invariant c.len.result end c.note_line.ensures.jumps c.note_line.ensures.before c.note_number.ensures.more
    c.push_both.result _ _ _ c.self.view_is c.push_both.ensures.err
