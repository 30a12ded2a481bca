use Rattle.std.proofs.Common.{◌≡◌, ℕ, List, [], ◌∷◌, ◌++◌, sym, ap, ◌∙◌, subst, rules}
use Rattle.ck_run.specs.declared.account.Step.{Step}
use Rattle.ck_run.specs.Tokens.{table, adding}
use Rattle.ck_history.specs.declared.update.Reply.{Reply}
use Rattle.ck_history.specs.declared.update.Update.TheVariants.{Del}
use Rattle.ck_htplan.specs.declared.cases.Plan.{Plan}
use Rattle.ck_epoch.specs.State.{state}
use Rattle.ck_htlaw.specs.Host.{host, lies}
use Rattle.ck_htlaw.specs.Calls.{opening_of, removing, remove}
use Rattle.ck_htlaw.specs.Table.{WriterState}
use Rattle.ck_htlaw.specs.Actions.{answer_to, plan_now, remove_reply}
use Rattle.ck_htlaw.specs.Known.{knows}
use Rattle.ck_arena.specs.Arena.{unreturned}
use Rattle.ck_htwrite.specs.State.{Ready}
use Rattle.ck_htwrite.specs.Updates.{RemoveSteps}
use Rattle.ck_htwrite.specs.Writes.{opened}
use Rattle.ck_htwrite.proofs.Between.{answers, ready_next, same_writer}
use Rattle.ck_htwrite.proofs.calls.remove.Goals as goal

pub remove_by-reply-requires-clause-due : goal.remove_by-reply-requires-clause-due
remove_by-reply-requires-clause-due g c = let r = c.requires.ready.lists in (r, c.first_plan-plan.ensures.plan r)

pub returns : goal.returns
returns g c =
    let o = c.args.domain.now.origin in
    let h = host g.D.Client.meaning g.D.Within.place g.D.Within.part in
    let l = lies h o in let s = c.args.state.now in let w = c.args.writer.now in let t = w.token in let key : ℕ = c.args.key in
    let same = ap (λ v. v.origin) c.requires.table in let writing = c.first_plan-plan.ensures.writing in
    let ready = c.requires.ready in let r = ready.lists in let p = r.is_writer in
    let planned = c.first_plan-plan.ensures.plan r in
    let made = c.remove_by-reply.ensures.made r planned in
    let w1 = c.remove_by-reply.new.writer in let s1 = c.remove_by-reply.new.state in
    let counted = c.count_update.ensures in
    record {
      same = search rules;
      pending = ap (λ v. (state v.token).pending) counted ∙ made.made.same.0;
      root = c.remove_by-reply.ensures.kept.0;
      items = ap (λ v. unreturned (state v.token) v.waiting) counted ∙ (λ i. unreturned (record (state w1.token) { pending = made.made.same.0 i; dispatched = made.made.same.1 i }) ((ap (λ v. v.waiting) made.made.made) i));
      table = ap (λ v. table v.token) counted ∙ ap (λ v. table v.token) made.made.made;
      reply = made.reply_is ∙ (ap (remove_reply l p) (sym planned) ∙ sym (answers h g.met.D.Within.within o t same writing.part writing.first s r (removing key)));
      log = ap (λ v. (knows h o v.token).log) counted ∙ (made.over.at.log ∙ ap (λ (x : Reply). (knows h o t).log ++ record { update = Del key; reply = x } ∷ []) (ap (remove_reply l p) planned ∙ sym made.reply_is));
      steps = λ q is. subst (λ (x : WriterState). (ss : List Step) × RemoveSteps l x (plan_now l x key) ss × (c.count_update.new.writer.token ≡ adding t (opened (remove ∷ key ∷ []) ss))) (same_writer h g.met.D.Within.within o t s r q is)
          (made.steps, subst (λ (z : Plan). RemoveSteps l p z made.steps) (sym planned) made.are, ap (λ v. v.token) counted ∙ ap (λ v. v.token) made.made.made);
      ready = subst (λ v. Ready h o v s1) (sym counted)
          (ready_next h g.met.D.Within.within o w w1 (opened (remove ∷ key ∷ []) made.steps) same writing.first made.made s s1 ready (answer_to l p (opening_of (remove ∷ key ∷ []))) made.over c.remove_by-reply.ensures.kept);
    }
