use Rattle.std.proofs.Common.{◌≡◌, ◌+◌, ◌-◌, ◌^◌, ◌%◌, subst, sym}
use Rattle.ck_script.specs.Columns.{ahead_at, AreJumps}
use Rattle.ck_script.proofs.Columns.{jumps_push, jumps_before}
use Rattle.ck_script.proofs.rows.note_line.Goals as goal

pub returns-in_ok-push-clause-jumps : goal.returns-in_ok-push-clause-jumps
returns-in_ok-push-clause-jumps c =
    subst (λ js. AreJumps js ((c.args.line + (2 ^ 64 - c.args.place)) % 2 ^ 64) c.args.place) (sym c.in_ok-push.ensures.items)
    (jumps_push c.args.jumps.now.items c.args.ahead.now c.args.place ((c.args.line + (2 ^ 64 - c.args.place)) % 2 ^ 64) c.requires)

pub returns-in_ok-push-clause-before : goal.returns-in_ok-push-clause-before
returns-in_ok-push-clause-before c i lt = subst (λ js. ahead_at js i ≡ ahead_at c.args.jumps.now.items i) (sym c.in_ok-push.ensures.items) (jumps_before c.args.jumps.now.items c.args.place ((c.args.line + (2 ^ 64 - c.args.place)) % 2 ^ 64) i lt)
