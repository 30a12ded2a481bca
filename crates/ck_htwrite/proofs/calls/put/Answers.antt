use Rattle.std.proofs.Common.{ℕ, ◌+◌, ◌≤◌, [], ◌∷◌, refl, sym, ap, subst, arith}
use Rattle.ck_history.specs.declared.update.Update.TheVariants.{Put}
use Rattle.ck_htlaw.specs.Host.{host, lies}
use Rattle.ck_htlaw.specs.Calls.{put}
use Rattle.ck_htlaw.specs.Table.{WriterState}
use Rattle.ck_htlaw.specs.Actions.{plan_now, put_reply}
use Rattle.ck_htwrite.specs.Updates.{PutSteps, IsNeeded}
use Rattle.ck_htwrite.specs.Writes.{WriterIs}
use Rattle.ck_htwrite.proofs.Plans.{not_due_put}
use Rattle.ck_htwrite.proofs.Between.{if_err}
use Rattle.ck_htwrite.proofs.Answering.{IsSettled, settled, needed}
use Rattle.ck_htwrite.proofs.calls.put.Given as given
use Rattle.ck_htwrite.proofs.calls.put.Goals as goal
use Rattle.ck_htwrite.proofs.calls.put.Goals.{In_ok-reply}

pub first_plan-plan-requires-clause-calls : goal.first_plan-plan-requires-clause-calls
first_plan-plan-requires-clause-calls g c = let few = c.requires.calls in omega arith

pub store_by-requires-clause-calls : goal.store_by-requires-clause-calls
store_by-requires-clause-calls g c = let few = c.requires.calls in omega arith

pub store_by-requires-clause-due : goal.store_by-requires-clause-due
store_by-requires-clause-due g c = let r = c.requires.ready.lists in (r, c.first_plan-plan.ensures.plan r)

pub returns-in_err-reply-clause-need : goal.returns-in_err-reply-clause-need
returns-in_err-reply-clause-need g c =
    let h = host g.D.Client.meaning g.D.Within.place g.D.Within.part in let o = c.args.domain.now.origin in
    let w = c.args.writer.now in let s = c.args.state.now in let key : ℕ = c.args.key in let first = c.first_plan-plan in
    let ready = c.requires.ready in let r = ready.lists in let planned = first.ensures.plan r in
    if_err c.from_residual.result _ (λ need. (q : WriterState) → WriterIs h o w.token q → IsNeeded h o q (plan_now (lies h o) q key) s need) c.from_residual.ensures.1
    (λ need alike. needed h o key c.args.value w s g.met.D.Within.within (ap (λ v. v.origin) c.requires.table) first.ensures.writing ready first.result planned need (subst (IsNeeded h o r.is_writer first.result s) (sym alike) (c.in_err-reply.ensures.made r planned)))

over : (g : given.Over) (c : In_ok-reply g) → let h = host g.D.Client.meaning g.D.Within.place g.D.Within.part in let o = c.args.domain.now.origin in
    IsSettled h o c.args.key c.args.value c.args.writer.now c.args.state.now (put ∷ c.args.key ∷ c.args.value ∷ []) (Put c.args.key c.args.value) (λ q. PutSteps (lies h o) q c.args.key c.args.value) c.in_ok-reply.reply c.store_by.new.writer c.store_by.new.state
over g c =
    let h = host g.D.Client.meaning g.D.Within.place g.D.Within.part in let o = c.args.domain.now.origin in let l = lies h o in let key : ℕ = c.args.key in let value : ℕ = c.args.value in
    let first = c.first_plan-plan in let r = c.requires.ready.lists in let planned = first.ensures.plan r in
    settled h o key value c.args.writer.now c.args.state.now g.met.D.Within.within (ap (λ v. v.origin) c.requires.table) first.ensures.writing c.requires.ready (put ∷ key ∷ value ∷ []) (Put key value) (put_reply l) (λ q. PutSteps l q key value) refl
    first.result planned (not_due_put l r.is_writer key value first.result) c.in_ok-reply.reply c.store_by.new.writer c.store_by.new.state (c.in_ok-reply.ensures.made r planned)

pub count_update-requires : goal.count_update-requires
count_update-requires g c =
    let a = over g (goal.at.count_update-requires g c).In_ok-reply in let few = c.requires.calls in let more : c.store_by.new.writer.calls ≤ c.args.writer.now.calls + 1 = a.0 in record { calls = omega arith; few = a.1 }

pub returns : goal.returns
returns g c =
    let a = (over g (goal.at.returns g c).In_ok-reply).2 c.count_update.new.writer c.count_update.ensures in
    record { same = a.same; calls = a.calls; waiting = a.waiting; pending = a.pending; items = a.items; root = a.root; table = a.table_is; reply = a.reply_is; log = a.log; steps = a.steps; need = tt; free = a.free; ready = a.ready }
