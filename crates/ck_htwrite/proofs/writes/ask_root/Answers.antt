use Rattle.std.proofs.Common.{ℕ, ◌+◌, le_refl, ap, ◌∙◌, subst, sym, arith}
use Rattle.ck_run.specs.declared.account.Step.TheVariants.{Load}
use Rattle.ck_run.specs.Run.{entry}
use Rattle.ck_epoch.specs.State.{base_of}
use Rattle.ck_epoch.specs.Calls.{MayFollow}
use Rattle.ck_htlaw.specs.Host.{host, lies}
use Rattle.ck_htwrite.proofs.Writing.{may_step}
use Rattle.ck_htwrite.proofs.Making.{steps_is}
use Rattle.ck_htwrite.proofs.writes.ask_root.Goals as goal

pub ask-requires-clause-client : goal.ask-requires-clause-client
ask-requires-clause-client g c writing n small =
    let o = c.args.domain.now.origin in
    let h = host g.D.Client.meaning g.D.Within.place g.D.Within.part in
    let word = ap (λ (b : ℕ). base_of o + b) (c.base.ensures ∙ ap h.place c.client-client.ensures.same) in
    subst (λ (w : ℕ). MayFollow g.D.Client.meaning c.args.writer.now.token (entry g.O.Opens.opens (Load w n))) (sym word)
    (may_step h o g.met.D.Within.within c.args.writer.now.token (ap (λ w. w.origin) c.requires.table) writing.part (entry g.O.Opens.opens (Load (lies h o).base n)) (c.requires.due n) (le_refl (lies h o).base) (omega arith))

pub returns : goal.returns
returns g c =
    let o = c.args.domain.now.origin in
    let h = host g.D.Client.meaning g.D.Within.place g.D.Within.part in
    let word = ap (λ (b : ℕ). base_of o + b) (c.base.ensures ∙ ap h.place c.client-client.ensures.same) in
    record { step = steps_is h o _ _ _ _ c.ask.ensures.step (ap (λ (w : ℕ). entry g.O.Opens.opens (Load w c.ask.result)) word) c.ask.ensures.part (c.ask.ensures.same.0, c.ask.ensures.same.1) }
