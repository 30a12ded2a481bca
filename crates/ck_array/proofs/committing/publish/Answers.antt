use Rattle.std.proofs.Common.{length, ap, ◌∙◌, refl}
use Rattle.ck_epoch.specs.State.{state}
use Rattle.ck_arraylaw.specs.Array.{replaced, writer}
use Rattle.ck_arraylaw.specs.Host.{host}
use Rattle.ck_array.specs.Writes.{filling_by, idle}
use Rattle.ck_array.proofs.CommitSteps.{begins_due, begun_is, root_due, published, all_steps}
use Rattle.ck_array.proofs.committing.publish.Goals as goal

pub store-requires-clause-due : goal.store-requires-clause-due
store-requires-clause-due g c =
    let h = host g.D.Client.meaning g.D.Within.place g.D.Within.part in let o = c.args.domain.now.origin in let due = c.requires.due in
    begins_due h o due.0 c.args.old c.args.region c.args.members.now due.2 c.args.writer.now.token due.1 c.requires.long.0 c.requires.free

pub fill-requires-clause-due : goal.fill-requires-clause-due
fill-requires-clause-due g c =
    let h = host g.D.Client.meaning g.D.Within.place g.D.Within.part in let o = c.args.domain.now.origin in let due = c.requires.due in let n = length c.args.members.now in
    (due.0, c.args.old, c.store.ensures.local (idle due.0 c.args.old) due.1 ∙ ap writer (begun_is h o due.0 c.args.old c.args.region c.args.members.now due.2 n c.requires.long.0), due.2)

pub store-requires-2-clause-due : goal.store-requires-2-clause-due
store-requires-2-clause-due g c =
    let h = host g.D.Client.meaning g.D.Within.place g.D.Within.part in let o = c.args.domain.now.origin in let due = c.requires.due in let n = length c.args.members.now in
    root_due h o due.0 c.args.old c.args.region c.args.members.now due.2 c.fill.new.writer.token
    (c.fill.ensures.local due.0 c.args.old (c.store.ensures.local (idle due.0 c.args.old) due.1 ∙ ap writer (begun_is h o due.0 c.args.old c.args.region c.args.members.now due.2 n c.requires.long.0)) due.2)

pub retire-requires-clause-due : goal.retire-requires-clause-due
retire-requires-clause-due g c =
    let h = host g.D.Client.meaning g.D.Within.place g.D.Within.part in let o = c.args.domain.now.origin in let due = c.requires.due in let n = length c.args.members.now in
    let filled = c.fill.ensures.local due.0 c.args.old (c.store.ensures.local (idle due.0 c.args.old) due.1 ∙ ap writer (begun_is h o due.0 c.args.old c.args.region c.args.members.now due.2 n c.requires.long.0)) due.2 in (
      record { log = due.0; region = c.args.region; stage = replaced c.args.old },
      c.store-2.ensures.local (filling_by due.0 c.args.old c.args.region n) filled ∙ ap writer (published h o due.0 c.args.old c.args.region c.args.members.now due.2),
      refl,
    )

pub returns-clause-steps : goal.returns-clause-steps
returns-clause-steps g c =
    let h = host g.D.Client.meaning g.D.Within.place g.D.Within.part in let o = c.args.domain.now.origin in
    ((state c.store-2.new.writer.token).epoch, all_steps h o c.args.writer.now c.store.new.writer c.fill.new.writer c.store-2.new.writer c.retire.new.writer c.args.members.now c.args.region c.args.old (state c.store-2.new.writer.token).epoch c.store.ensures.step c.fill.ensures.steps c.store-2.ensures.step c.retire.ensures.step)

pub returns-clause-local : goal.returns-clause-local
returns-clause-local g c log local pending =
    let h = host g.D.Client.meaning g.D.Within.place g.D.Within.part in let o = c.args.domain.now.origin in let n = length c.args.members.now in
    let filled = c.fill.ensures.local log c.args.old (c.store.ensures.local (idle log c.args.old) local ∙ ap writer (begun_is h o log c.args.old c.args.region c.args.members.now pending n c.requires.long.0)) pending in
    c.retire.ensures.local (record { log = log; region = c.args.region; stage = replaced c.args.old })
    (c.store-2.ensures.local (filling_by log c.args.old c.args.region n) filled ∙ ap writer (published h o log c.args.old c.args.region c.args.members.now pending)) refl
