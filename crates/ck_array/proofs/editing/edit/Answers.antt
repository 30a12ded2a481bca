use Rattle.std.proofs.Common.{◌≡◌, ℕ, ◌+◌, [], ◌∷◌, inl, ap, ◌∙◌, arith}
use Rattle.ck_run.specs.declared.account.Step.TheVariants.{Load}
use Rattle.ck_run.specs.Run.{entry}
use Rattle.ck_run.specs.Tokens.{adding}
use Rattle.ck_epoch.specs.State.{state}
use Rattle.ck_arraylaw.specs.Host.{base_word}
use Rattle.ck_arraylaw.specs.Reached.{with_signals}
use Rattle.ck_array.specs.Writes.{opens_of}
use Rattle.ck_array.proofs.Edits.{edited_by, edit_quiet}
use Rattle.ck_array.proofs.editing.edit.Goals as goal
use Rattle.ck_array.proofs.EditSteps.{same_items}

pub returns-clause-done : goal.returns-clause-done
returns-clause-done g c =
    let o = c.args.domain.now.origin in let w = c.args.writer.now in let v = c.edit_pending-reply.new.writer in let s = c.args.state.now in let m = c.edit_pending-reply.ensures in let e = c.args.e in
    edited_by g.row.F.Denot o w v c.set_tally.new.self s c.edit_pending-reply.new.state e c.edit_pending-reply.result (entry (opens_of e) (Load (base_word with_signals o) m.steps.0) ∷ []) 0 c.requires.ready (omega arith)
    (m.steps.1 ∙ ap (λ (k : ℕ). record w { token = adding w.token (entry (opens_of e) (Load (base_word with_signals o) m.steps.0) ∷ []); calls = k }) (let z : w.calls ≡ w.calls + 0 = omega arith in z))
    (c.set_tally.ensures ∙ ap (λ (k : ℕ). record v { calls = v.calls + 1; tally = k + 1 }) (c.tally-edits.ensures.tally ∙ ap (λ x. x.tally) m.steps.1))
    m.reply m.log (edit_quiet e (Load (base_word with_signals o) m.steps.0)) (inl (same_items w v m.same (ap (λ x. x.waiting) m.steps.1))) m.ready

pub returns-clause-items : goal.returns-clause-items
returns-clause-items g c = ap (λ x. (state x.token).pending) c.set_tally.ensures ∙ c.edit_pending-reply.ensures.same.0
