use Rattle.std.proofs.Common.{ℕ, [], ◌∷◌, subst, sym, arith}
use Rattle.ck_run.specs.declared.account.Step.TheVariants.{Store}
use Rattle.ck_run.specs.Run.{entry}
use Rattle.ck_htlaw.specs.Host.{host, lies}
use Rattle.ck_htwrite.specs.Writes.{counters_in, MayStep, Steps}
use Rattle.ck_htwrite.proofs.Slots.{word_at, word_in, item_in}
use Rattle.ck_htwrite.proofs.writes.put_word.Goals as goal

pub store-requires-clause-word : goal.store-requires-clause-word
store-requires-clause-word g c =
    let o = c.args.domain.now.origin in
    let h = host g.D.Client.meaning g.D.Within.place g.D.Within.part in
    word_in (counters_in h o) c.args.state.now c.requires.shape c.args.at c.args.j c.requires.slot c.requires.word

pub store-requires-clause-due : goal.store-requires-clause-due
store-requires-clause-due g c =
    let o = c.args.domain.now.origin in
    let h = host g.D.Client.meaning g.D.Within.place g.D.Within.part in
    subst (λ (w : ℕ). MayStep h o c.args.writer.now.token (entry g.O.Opens.opens (Store w c.args.value))) (sym (word_at (lies h o).base c.args.state.now.root c.args.at c.args.j)) c.requires.due

pub index_mut-requires : goal.index_mut-requires
index_mut-requires g c =
    let o = c.args.domain.now.origin in
    let h = host g.D.Client.meaning g.D.Within.place g.D.Within.part in
    let z = item_in (counters_in h o) c.args.state.now c.requires.shape c.args.at c.args.j c.requires.slot c.requires.word in omega arith

pub returns-clause-step : goal.returns-clause-step
returns-clause-step g c =
    let o = c.args.domain.now.origin in
    let h = host g.D.Client.meaning g.D.Within.place g.D.Within.part in
    subst (λ (w : ℕ). Steps h o c.args.writer.now (entry g.O.Opens.opens (Store w c.args.value) ∷ []) c.store.new.writer) (word_at (lies h o).base c.args.state.now.root c.args.at c.args.j) c.store.ensures.step
