use Rattle.std.proofs.Common.{ℕ, [], ◌∷◌, sym, subst}
use Rattle.ck_run.specs.declared.account.Step.TheVariants.{Store}
use Rattle.ck_run.specs.Run.{further}
use Rattle.ck_htlaw.specs.Host.{host, lies}
use Rattle.ck_htwrite.specs.Writes.{MayStep, Steps}
use Rattle.ck_htwrite.proofs.Copying.{root_word}
use Rattle.ck_htwrite.proofs.rebuild.publish.Goals as goal

pub store-requires-clause-due : goal.store-requires-clause-due
store-requires-clause-due g c =
    let h = host g.D.Client.meaning g.D.Within.place g.D.Within.part in let o = c.args.domain.now.origin in
    subst (λ (w : ℕ). MayStep h o c.args.writer.now.token (further (Store w c.args.root))) (sym (root_word (lies h o).base)) c.requires.due

pub returns : goal.returns
returns g c =
    let h = host g.D.Client.meaning g.D.Within.place g.D.Within.part in let o = c.args.domain.now.origin in
    record { step = subst (λ (w : ℕ). Steps h o c.args.writer.now (further (Store w c.args.root) ∷ []) c.store.new.writer) (root_word (lies h o).base) c.store.ensures.step }
