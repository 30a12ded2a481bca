use Rattle.std.proofs.Common.{◌≡◌, ℕ, ◌+◌, ◌-◌, ◌/◌, [], ◌∷◌, length, ◌∙◌, ap, subst, sym, arith}
use Rattle.std.specs.Vec.{with_item}
use Rattle.ck_run.specs.declared.account.Step.TheVariants.{Store}
use Rattle.ck_run.specs.Run.{entry}
use Rattle.ck_htlaw.specs.Host.{host, lies}
use Rattle.ck_htwrite.specs.State.{counter_at, next_count}
use Rattle.ck_htwrite.specs.Writes.{counters_in, MayStep, Steps}
use Rattle.ck_htwrite.proofs.Slots.{counter_word, bump_is}
use Rattle.ck_htwrite.proofs.writes.bump.Given as given
use Rattle.ck_htwrite.proofs.writes.bump.Goals as goal
use Rattle.ck_htwrite.proofs.writes.bump.Goals.{After-index}

-- the counter that is raised, and its next number
raised : (g : given.Over) (c : After-index g) → let n = counters_in (host g.D.Client.meaning g.D.Within.place g.D.Within.part) c.args.domain.now.origin in let s = c.args.state.now in ((s.root / 32 - 1 - length c.as_slice.result.now) / 32 ≡ counter_at n s.root) × (c.index.result.now + 1 ≡ next_count n s)
raised g c = bump_is (counters_in (host g.D.Client.meaning g.D.Within.place g.D.Within.part) c.args.domain.now.origin) c.args.state.now c.requires.shape (length c.as_slice.result.now) c.index.result.now (ap length c.as_slice.ensures.value) c.index.ensures

pub overflow_add-count : goal.overflow_add-count
overflow_add-count g c = let small = c.requires.small in let e = (raised g (goal.at.overflow_add-count g c).After-index).1 in omega arith

pub store-requires-clause-due : goal.store-requires-clause-due
store-requires-clause-due g c =
    let o = c.args.domain.now.origin in let h = host g.D.Client.meaning g.D.Within.place g.D.Within.part in let is = raised g (goal.at.store-requires-clause-due g c).After-index in
    subst (λ (w : ℕ × ℕ). MayStep h o c.args.writer.now.token (entry g.O.Opens.opens (Store w.0 w.1)))
    (λ i. (sym (ap (λ (k : ℕ). (lies h o).base + (1 + k)) is.0 ∙ counter_word (lies h o).base (counters_in h o) c.args.state.now.root) i, sym is.1 i)) c.requires.due

pub returns-clause-step : goal.returns-clause-step
returns-clause-step g c =
    let o = c.args.domain.now.origin in let h = host g.D.Client.meaning g.D.Within.place g.D.Within.part in let is = raised g (goal.at.returns-clause-step g c).After-index in
    subst (λ (w : ℕ × ℕ). Steps h o c.args.writer.now (entry g.O.Opens.opens (Store w.0 w.1) ∷ []) c.store.new.writer)
    (λ i. ((ap (λ (k : ℕ). (lies h o).base + (1 + k)) is.0 ∙ counter_word (lies h o).base (counters_in h o) c.args.state.now.root) i, is.1 i)) c.store.ensures.step

pub returns-clause-state : goal.returns-clause-state
returns-clause-state g c =
    let s = c.args.state.now in let is = raised g (goal.at.returns-clause-state g c).After-index in
    λ i. record s { counters = with_item s.counters (is.0 i) (is.1 i) }
