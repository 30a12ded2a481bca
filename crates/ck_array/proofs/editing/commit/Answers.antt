use Rattle.std.proofs.Common.{◌≡◌, refl, subst}
use Rattle.std.specs.Prelude.{Option, Some, None}
use Rattle.std.specs.Option.{IsSome}
use Rattle.ck_epoch.specs.Ends.{Writer}
use Rattle.ck_history.specs.declared.log.Busy.{Busy}
use Rattle.ck_signal.specs.declared.signals.Signals.{Signals}
use Rattle.ck_arraylaw.specs.declared.client.ArrayClient.{ArrayClient}
use Rattle.ck_array.specs.declared.state.ArrayState.{ArrayState}
use Rattle.ck_array.specs.Edited.{HasPolled}
use Rattle.ck_array.proofs.Edits.{after_poll, at_once, few_pending, is_busy, none_found, none_refused}
use Rattle.ck_array.proofs.editing.commit.Goals as goal

abbrev Two : Type 0 → Type 0
Two F = Writer (Signals ArrayClient) F × ArrayState

some_found : (found : Option Busy) → (found ≡ None → ⊥) → IsSome found
some_found (Some b) f = refl
some_found None f = absurd (f refl)

pub attempt-first-requires-clause-room : goal.attempt-first-requires-clause-room
attempt-first-requires-clause-room g c = few_pending g.row.F.Denot c.args.domain.now.origin c.args.writer.now c.args.state.now c.requires.ready c.free_words-free.ensures.apart

pub returns-in-Some-clause-done : goal.returns-in-Some-clause-done
returns-in-Some-clause-done g c = at_once g.row.F.Denot c.args.domain.now.origin c.args.writer.now c.attempt-first.new.writer c.args.state.now c.attempt-first.new.state c.in-Some.reply c.in-Some.ensures.made

pub attempt-second-requires-clause-room : goal.attempt-second-requires-clause-room
attempt-second-requires-clause-room g c = few_pending g.row.F.Denot c.args.domain.now.origin c.poll_all-found.new.writer c.poll_all-found.new.state c.poll_all-found.ensures.polled.ready c.free_words-given.ensures.apart

pub unwrap-requires : goal.unwrap-requires
unwrap-requires g c =
    let F = g.row.F.Denot in let o = c.args.domain.now.origin in let p = c.poll_all-found in let h = p.ensures.polled in
    some_found p.result (λ none. none_refused F o p.new.writer c.attempt-second.new.writer p.new.state c.attempt-second.new.state h.ready c.free_words-given.ensures.apart (none_found F o c.attempt-first.new.writer p.new.writer c.attempt-first.new.state p.new.state p.result h none) c.in-None.ensures.made)

pub returns-in-Some-second-clause-done : goal.returns-in-Some-second-clause-done
returns-in-Some-second-clause-done g c =
    let F = g.row.F.Denot in let o = c.args.domain.now.origin in let p = c.poll_all-found in let refused = c.in_default.ensures.made in
    let polled = subst (λ (x : Two F). HasPolled o x.0 x.1 p.result p.new.writer p.new.state) (λ i. (refused.same.0 i, refused.same.1 i)) p.ensures.polled in
    after_poll F o c.args.writer.now c.attempt-first.new.writer p.new.writer c.args.state.now c.attempt-first.new.state p.new.state c.requires.ready refused p.result polled c.attempt-second.new.writer c.attempt-second.new.state c.in-Some-second.reply c.in-Some-second.ensures.made

pub returns-in-None-clause-done : goal.returns-in-None-clause-done
returns-in-None-clause-done g c =
    let F = g.row.F.Denot in let o = c.args.domain.now.origin in let p = c.poll_all-found in let refused = c.in_default.ensures.made in
    let polled = subst (λ (x : Two F). HasPolled o x.0 x.1 p.result p.new.writer p.new.state) (λ i. (refused.same.0 i, refused.same.1 i)) p.ensures.polled in
    is_busy F o c.args.writer.now c.attempt-first.new.writer p.new.writer c.args.state.now c.attempt-first.new.state p.new.state c.requires.ready refused p.result polled c.unwrap.result c.attempt-second.new.writer c.attempt-second.new.state c.free_words-given.ensures.apart c.in-None.ensures.made c.unwrap.ensures

pub returns-in-None-clause-ok : goal.returns-in-None-clause-ok
returns-in-None-clause-ok g c none = absurd (none_refused g.row.F.Denot c.args.domain.now.origin c.args.writer.now c.attempt-first.new.writer c.args.state.now c.attempt-first.new.state c.requires.ready c.free_words-free.ensures.apart none c.in_default.ensures.made)
