use Rattle.std.proofs.Common.{ℕ, [], ◌∷◌, sym, subst, arith}
use Rattle.std.proofs.lemmas.Nat.{pow_pos}
use Rattle.ck_run.specs.declared.account.Step.TheVariants.{Store}
use Rattle.ck_run.specs.Run.{entry}
use Rattle.ck_htlaw.specs.Host.{host, lies}
use Rattle.ck_htlaw.specs.Layout.{log_of}
use Rattle.ck_htwrite.specs.Writes.{MayStep, Steps}
use Rattle.ck_htwrite.proofs.Copying.{first_word}
use Rattle.ck_htwrite.proofs.rebuild.begin.Goals as goal

pub store-requires-clause-word : goal.store-requires-clause-word
store-requires-clause-word g c = let a = c.requires.root.piece.high in let b = pow_pos (log_of c.args.root) in omega arith

pub store-requires-clause-due : goal.store-requires-clause-due
store-requires-clause-due g c =
    let h = host g.D.Client.meaning g.D.Within.place g.D.Within.part in let o = c.args.domain.now.origin in
    subst (λ (w : ℕ). MayStep h o c.args.writer.now.token (entry g.O.Opens.opens (Store w 0))) (sym (first_word (lies h o).base c.args.root)) c.requires.due

pub returns : goal.returns
returns g c =
    let h = host g.D.Client.meaning g.D.Within.place g.D.Within.part in let o = c.args.domain.now.origin in
    record { step = subst (λ (w : ℕ). Steps h o c.args.writer.now (entry g.O.Opens.opens (Store w 0) ∷ []) c.store.new.writer) (first_word (lies h o).base c.args.root) c.store.ensures.step }
