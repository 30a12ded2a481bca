use Rattle.std.proofs.Common.{ℕ, List, [], ◌∷◌, ◌++◌, add-zero, ap, ◌∙◌, subst, sym, refl}
use Rattle.ck_run.specs.declared.account.Step.TheVariants.{Load}
use Rattle.ck_run.specs.Run.{entry}
use Rattle.ck_run.specs.Tokens.{adding}
use Rattle.ck_epoch.specs.Calls.{MayFollow}
use Rattle.ck_arraylaw.specs.Host.{host, base_word}
use Rattle.ck_arraylaw.proofs.Tokens.{word_is}
use Rattle.ck_array.specs.Writes.{opens_of}
use Rattle.ck_array.proofs.EditSteps.{may_edit, edited, lists_next, ready_next}
use Rattle.ck_array.proofs.writing.edit_pending.Goals as goal

pub ask-requires-clause-client : goal.ask-requires-clause-client
ask-requires-clause-client g c wr n _ =
    let o = c.args.domain.now.origin in
    let h = host g.D.Client.meaning g.D.Within.place g.D.Within.part in
    let word = word_is h o c.base.result (h.place c.client-client.result.now) 0 c.base.ensures (ap h.place c.client-client.ensures.same) ∙ add-zero (base_word h o) in
    let ready = c.requires.ready in
    subst (λ (x : List ℕ × ℕ). MayFollow g.D.Client.meaning c.args.writer.now.token (entry x.0 (Load x.1 n))) (λ i. (sym c.requires.name i, sym word i))
    (may_edit h o ready.log c.args.state.now.region g.met.D.Within.within c.args.writer.now.token (ap (λ w. w.origin) c.requires.table) wr.part ready.local c.args.e c.requires.pending n)

pub returns-clause-ready : goal.returns-clause-ready
returns-clause-ready g c =
    let o = c.args.domain.now.origin in
    let h = host g.D.Client.meaning g.D.Within.place g.D.Within.part in
    let t = c.args.writer.now.token in
    let word = word_is h o c.base.result (h.place c.client-client.result.now) 0 c.base.ensures (ap h.place c.client-client.ensures.same) ∙ add-zero (base_word h o) in
    let ready = c.requires.ready in
    let made = ap (λ p. p.token) c.ask.ensures.step ∙ ap (λ (x : List ℕ × ℕ). adding t (entry x.0 (Load x.1 c.ask.result) ∷ [])) (λ i. (c.requires.name i, word i)) in
    let local = edited h o ready.log c.args.state.now.region t c.ask.new.writer.token c.args.e c.ask.result c.requires.pending ready.local made in
    let lists = c.apply.ensures.lists ∙ lists_next c.args.state.now.lists ready.log c.args.e ready.lists in
    ready_next h o c.args.writer.now c.ask.new.writer c.args.state.now _ (ready.log ++ c.args.e ∷ []) (entry (opens_of c.args.e) (Load (base_word h o) c.ask.result)) ready (c.ask.ensures.step ∙ ap (λ (x : List ℕ × ℕ). record c.args.writer.now { token = adding t (entry x.0 (Load x.1 c.ask.result) ∷ []) }) (λ i. (c.requires.name i, word i))) c.ask.ensures.same local lists refl
