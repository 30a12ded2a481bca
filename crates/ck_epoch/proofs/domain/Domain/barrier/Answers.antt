use Rattle.std.proofs.Common.{◌≡◌, ◌+◌, [], ◌++◌, true, length, refl, ap, ◌∙◌, subst}
use Rattle.std.proofs.lemmas.List.Elements.{All-nil}
use Rattle.ck_run.specs.Tokens.{table, origin, number}
use Rattle.ck_epoch.specs.State.{TokenState, records_of, barrier, state, queue, list_by_list}
use Rattle.ck_epoch.specs.declared.item.Retired.{Retired}
use Rattle.ck_epoch.proofs.FourLists.{queue_by_list, queue_behind}
use Rattle.ck_epoch.specs.Lists.{on, by_list}
use Rattle.ck_epoch.proofs.Emptying.{row_length, are_dispatched}
use Rattle.ck_epoch.proofs.Polled.{config_is, were_retired}
use Rattle.ck_epoch.specs.Rounds.{Rounds, HaveEnded}
use Rattle.ck_epoch.proofs.Stepping.{few_calls}
use Rattle.ck_epoch.proofs.TwoRounds.{is_free, both_after, ended_after}
use Rattle.ck_epoch.proofs.domain.Domain.barrier.Goals as goal

pub two_rounds-requires-clause-table : goal.two_rounds-requires-clause-table
two_rounds-requires-clause-table g c = ap (λ w. table w.token) c.writer.view_is ∙ c.requires.table

pub two_rounds-requires-clause-free : goal.two_rounds-requires-clause-free
two_rounds-requires-clause-free g c = is_free g.C.Client.meaning c.writer.inside.token c.writer.inside.backlog c.writer.invariant.0 (few_calls (λ w. w.calls) c.writer.view_is c.writer.invariant.1 c.requires.calls)

pub two_rounds-requires-clause-name : goal.two_rounds-requires-clause-name
two_rounds-requires-clause-name g c = (true, refl)

pub dispatch_all-requires-clause-items : goal.dispatch_all-requires-clause-items
dispatch_all-requires-clause-items g c list low =
    let meaning = g.C.Client.meaning in
    let t = c.writer.inside.token in
    let b = c.writer.inside.backlog in
    let about = c.self.inside.about in
    let config = config_is c.writer.view_is c.requires.table c.self.view_is c.self.invariant.told in
    let u = c.two_rounds.new.token in
    let none : queue (state u).pending ≡ [] = ap (λ (s : TokenState). queue s.pending) (c.two_rounds.ensures.state true refl) in
    are_dispatched (meaning.retires about.client) list b.lists (queue (state t).pending) (queue (state u).pending) c.writer.invariant.0.pending low (were_retired meaning t b c.writer.invariant.0 about config) (ap (on list) none)

pub invariant_of-writer : goal.invariant_of-writer
invariant_of-writer g c =
    let meaning = g.C.Client.meaning in
    let t = c.writer.inside.token in let b = c.writer.inside.backlog in let w = c.writer.invariant.0 in
    let u = c.two_rounds.new.token in let e = c.two_rounds.ensures in
    let retires = meaning.retires (origin t).config.client in
    both_after meaning t b w u true (state u).steps e.part e.table (ap number (e.steps barrier refl).4) (e.state true refl) c.dispatch_all.new.self c.dispatch_all.ensures.lists (All-nil (λ (r : Retired). retires r.item ≡ true)) c.writer.inside.calls c.writer.invariant.1

pub returns-clause-table : goal.returns-clause-table
returns-clause-table g c = let view = ap (λ w. w.token) c.writer.view_is in (c.two_rounds.ensures.table ∙ ap table view, ap number (c.two_rounds.ensures.steps barrier refl).4 ∙ ap number view)

pub returns-clause-steps : goal.returns-clause-steps
returns-clause-steps g c = subst (λ w. Rounds (records_of c.args.self.now.origin) barrier (state w.token).epoch w.token c.two_rounds.new.token) c.writer.view_is (c.two_rounds.ensures.steps barrier refl)

pub returns-clause-ended : goal.returns-clause-ended
returns-clause-ended g c = subst (λ w. HaveEnded g.C.Client.meaning w.token c.two_rounds.new.token) c.writer.view_is
    (ended_after g.C.Client.meaning c.writer.inside.token c.writer.inside.backlog c.writer.invariant.0 g.met.C.Client.passes c.two_rounds.new.token true _ _ _ (few_calls (λ w. w.calls) c.writer.view_is c.writer.invariant.1 c.requires.calls) (c.two_rounds.ensures.steps barrier refl) (c.two_rounds.ensures.state true refl))

pub returns-clause-pending : goal.returns-clause-pending
returns-clause-pending g c = ap (λ (s : TokenState). s.pending) (c.two_rounds.ensures.state true refl)

pub returns-clause-dispatched : goal.returns-clause-dispatched
returns-clause-dispatched g c = let s = state c.writer.inside.token in
    ap (λ (s : TokenState). queue s.dispatched) (c.two_rounds.ensures.state true refl)
    ∙ (queue_behind s.dispatched (list_by_list s.pending) (by_list (queue s.pending)) (queue_by_list s.pending)
    ∙ ap (λ w. queue (state w.token).dispatched ++ by_list (queue (state w.token).pending)) c.writer.view_is)

pub returns-clause-epoch : goal.returns-clause-epoch
returns-clause-epoch g c = ap (λ (s : TokenState). s.epoch) (c.two_rounds.ensures.state true refl) ∙ ap (λ w. (state w.token).epoch + 2) c.writer.view_is

pub returns-clause-count : goal.returns-clause-count
returns-clause-count g c = c.dispatch_all.ensures.count ∙ (row_length c.writer.inside.backlog.lists (state c.writer.inside.token).pending c.writer.invariant.0.pending
    ∙ ap (λ w. length (state w.token).pending) c.writer.view_is)
