use Rattle.std.proofs.Common.{◌+◌, false, refl, ap, ◌∙◌, subst}
use Rattle.ck_run.specs.Tokens.{table, number}
use Rattle.ck_epoch.specs.State.{TokenState, records_of, synchronize, state}
use Rattle.ck_epoch.specs.Rounds.{Rounds, HaveEnded}
use Rattle.ck_epoch.proofs.Stepping.{few_calls}
use Rattle.ck_epoch.proofs.TwoRounds.{is_free, both_after, ended_after}
use Rattle.ck_epoch.proofs.domain.Domain.synchronize.Goals as goal

pub two_rounds-requires-clause-table : goal.two_rounds-requires-clause-table
two_rounds-requires-clause-table g c = ap (λ w. table w.token) c.writer.view_is ∙ c.requires.table

pub two_rounds-requires-clause-free : goal.two_rounds-requires-clause-free
two_rounds-requires-clause-free g c = is_free g.C.Client.meaning c.writer.inside.token c.writer.inside.backlog c.writer.invariant.0 (few_calls (λ w. w.calls) c.writer.view_is c.writer.invariant.1 c.requires.calls)

pub two_rounds-requires-clause-name : goal.two_rounds-requires-clause-name
two_rounds-requires-clause-name g c = (false, refl)

pub invariant_of-writer : goal.invariant_of-writer
invariant_of-writer g c =
    let meaning = g.C.Client.meaning in
    let t = c.writer.inside.token in let b = c.writer.inside.backlog in let w = c.writer.invariant.0 in
    let u = c.two_rounds.new.token in let e = c.two_rounds.ensures in
    both_after meaning t b w u false (state u).steps e.part e.table (ap number (e.steps synchronize refl).4) (e.state false refl) b w.pending w.retired c.writer.inside.calls c.writer.invariant.1

pub returns-clause-table : goal.returns-clause-table
returns-clause-table g c = let view = ap (λ w. w.token) c.writer.view_is in (c.two_rounds.ensures.table ∙ ap table view, ap number (c.two_rounds.ensures.steps synchronize refl).4 ∙ ap number view)

pub returns-clause-steps : goal.returns-clause-steps
returns-clause-steps g c = subst (λ w. Rounds (records_of c.args.self.now.origin) synchronize (state w.token).epoch w.token c.two_rounds.new.token) c.writer.view_is (c.two_rounds.ensures.steps synchronize refl)

pub returns-clause-ended : goal.returns-clause-ended
returns-clause-ended g c = subst (λ w. HaveEnded g.C.Client.meaning w.token c.two_rounds.new.token) c.writer.view_is
    (ended_after g.C.Client.meaning c.writer.inside.token c.writer.inside.backlog c.writer.invariant.0 g.met.C.Client.passes c.two_rounds.new.token false _ _ _ (few_calls (λ w. w.calls) c.writer.view_is c.writer.invariant.1 c.requires.calls) (c.two_rounds.ensures.steps synchronize refl) (c.two_rounds.ensures.state false refl))

pub returns-clause-items : goal.returns-clause-items
returns-clause-items g c = let is = c.two_rounds.ensures.state false refl in (
  ap (λ (s : TokenState). s.pending) is ∙ ap (λ w. (state w.token).pending) c.writer.view_is,
  ap (λ (s : TokenState). s.dispatched) is ∙ ap (λ w. (state w.token).dispatched) c.writer.view_is,
)

pub returns-clause-epoch : goal.returns-clause-epoch
returns-clause-epoch g c = ap (λ (s : TokenState). s.epoch) (c.two_rounds.ensures.state false refl) ∙ ap (λ w. (state w.token).epoch + 2) c.writer.view_is
