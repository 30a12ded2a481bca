use Rattle.std.proofs.Common.{true, ◌≡◌, ℕ, List, length, refl, sym, ap, ◌∙◌, subst}
use Rattle.std.specs.Prelude.{Option, Some, None}
use Rattle.std.specs.Ordering.{nat_cmp}
use Rattle.std.specs.Option.{IsSome}
use Rattle.ck_run.specs.Tokens.{table}
use Rattle.ck_epoch.specs.Ends.{Writer}
use Rattle.ck_epoch.specs.Lists.{Answers}
use Rattle.ck_signal.specs.declared.signals.Signals.{Signals}
use Rattle.ck_history.specs.declared.log.Busy.{Busy}
use Rattle.ck_history.specs.declared.log.LogEntry.{LogEntry}
use Rattle.ck_history.specs.Map.{step}
use Rattle.ck_htlaw.specs.declared.client.HtClient.{HtClient}
use Rattle.ck_htlaw.specs.Actions.{most}
use Rattle.ck_htlaw.specs.Client.{home_of}
use Rattle.ck_htlaw.specs.Known.{knows}
use Rattle.ck_htlaw.specs.Linearized.{map_after}
use Rattle.ck_htlaw.specs.Reached.{with_signals}
use Rattle.ck_htwrite.specs.declared.state.HtState.{HtState}
use Rattle.ck_ht.specs.Room.{HasRoomFor}
use Rattle.ck_ht.specs.Updating.{HasPolled}
use Rattle.ck_ht.proofs.Updates.{after_poll, at_once, few_pending, is_busy, none_found, none_refused, ready_next}
use Rattle.ck_ht.proofs.updating.apply.Goals as goal

pub attempt-first-requires-clause-room : goal.attempt-first-requires-clause-room
attempt-first-requires-clause-room g c = few_pending g.row.F.Denot c.args.domain.now.origin c.args.update.now c.args.writer.now c.args.state.now c.requires.ready c.free_words-free.ensures.apart

pub returns-in-Ok-clause-done : goal.returns-in-Ok-clause-done
returns-in-Ok-clause-done g c = at_once g.row.F.Denot c.args.domain.now.origin c.args.update.now c.args.writer.now c.args.state.now c.requires.ready c.in-Ok.reply c.attempt-first.new.writer c.attempt-first.new.state c.in-Ok.ensures.made

pub returns-in-Ok-clause-ready : goal.returns-in-Ok-clause-ready
returns-in-Ok-clause-ready g c = ready_next g.row.F.Denot c.args.domain.now.origin c.args.update.now c.args.writer.now c.args.state.now c.requires.ready c.in-Ok.reply c.attempt-first.new.writer c.attempt-first.new.state c.in-Ok.ensures.made c.requires.keyed c.free_words-left.ensures.apart

-- after the first try, which changed nothing
abbrev Two : Type 0 → Type 0
Two F = Writer (Signals HtClient) F × HtState

some_found : (found : Option Busy) → (found ≡ None → ⊥) → IsSome found
some_found (Some b) f = refl
some_found None f = absurd (f refl)

pub poll_all-found-requires-clause-handler : goal.poll_all-found-requires-clause-handler
poll_all-found-requires-clause-handler g c =
    subst (λ (v : Writer (Signals HtClient) g.row.F.Denot). Answers (λ item. true) (λ item. home_of item) (λ item. g.F.Fn.pre v.handler (item, tt)) (λ item back. g.F.Fn.post v.handler (item, tt) back)) (sym c.in_default.ensures.made.same.0) c.requires.handler

pub attempt-second-requires-clause-room : goal.attempt-second-requires-clause-room
attempt-second-requires-clause-room g c = few_pending g.row.F.Denot c.args.domain.now.origin c.args.update.now c.poll_all-found.new.writer c.poll_all-found.new.state c.poll_all-found.ensures.polled.ready c.free_words-given.ensures.apart

pub unwrap-requires : goal.unwrap-requires
unwrap-requires g c =
    let F = g.row.F.Denot in let o = c.args.domain.now.origin in let u = c.args.update.now in let p = c.poll_all-found in let h = p.ensures.polled in let refused = c.in_default.ensures.made in
    let log = h.log ∙ ap (λ (v : Writer (Signals HtClient) F). (knows with_signals o v.token).log) refused.same.0 in
    some_found p.result (λ none. none_refused F o u p.new.writer p.new.state h.ready c.tally-tally.ensures.writing (ap (λ v. v.origin) (h.same_table ∙ ap (λ (v : Writer (Signals HtClient) F). table v.token) refused.same.0 ∙ c.requires.table)) c.free_words-given.ensures.apart
    (λ other. subst (λ (us : List (LogEntry ℕ)). HasRoomFor o.config.client.client.arena_log (length (step nat_cmp most (map_after us) u).0)) (sym log) (c.requires.room other))
    (none_found F o c.attempt-first.new.writer c.attempt-first.new.state p.result p.new.writer p.new.state h none) c.attempt-second.new.writer c.attempt-second.new.state c.in-Err.ensures.made)

pub returns-in-Ok-second-clause-done : goal.returns-in-Ok-second-clause-done
returns-in-Ok-second-clause-done g c =
    let F = g.row.F.Denot in let o = c.args.domain.now.origin in let u = c.args.update.now in let p = c.poll_all-found in let refused = c.in_default.ensures.made in
    let polled = subst (λ (x : Two F). HasPolled o x.0 x.1 p.result p.new.writer p.new.state) (λ i. (refused.same.0 i, refused.same.1 i)) p.ensures.polled in
    after_poll F o u c.args.writer.now c.args.state.now c.requires.ready c.attempt-first.new.writer c.attempt-first.new.state c.free_words-free.ensures.apart refused p.result p.new.writer p.new.state polled c.in-Ok-second.reply c.attempt-second.new.writer c.attempt-second.new.state c.in-Ok-second.ensures.made

pub returns-in-Ok-second-clause-ready : goal.returns-in-Ok-second-clause-ready
returns-in-Ok-second-clause-ready g c = ready_next g.row.F.Denot c.args.domain.now.origin c.args.update.now c.poll_all-found.new.writer c.poll_all-found.new.state c.poll_all-found.ensures.polled.ready c.in-Ok-second.reply c.attempt-second.new.writer c.attempt-second.new.state c.in-Ok-second.ensures.made c.requires.keyed c.free_words-rest.ensures.apart

pub returns-in-Err-clause-done : goal.returns-in-Err-clause-done
returns-in-Err-clause-done g c =
    let F = g.row.F.Denot in let o = c.args.domain.now.origin in let u = c.args.update.now in let p = c.poll_all-found in let h = p.ensures.polled in let refused = c.in_default.ensures.made in
    let polled = subst (λ (x : Two F). HasPolled o x.0 x.1 p.result p.new.writer p.new.state) (λ i. (refused.same.0 i, refused.same.1 i)) h in
    is_busy F o u c.args.writer.now c.args.state.now c.requires.ready c.attempt-first.new.writer c.attempt-first.new.state c.free_words-free.ensures.apart refused p.result p.new.writer p.new.state polled c.unwrap.result c.attempt-second.new.writer c.attempt-second.new.state c.free_words-given.ensures.apart c.in-Err.ensures.made c.unwrap.ensures
    (λ none. none_refused F o u p.new.writer p.new.state h.ready c.tally-tally.ensures.writing (ap (λ v. v.origin) (polled.same_table ∙ c.requires.table)) c.free_words-given.ensures.apart
    (λ other. subst (λ (us : List (LogEntry ℕ)). HasRoomFor o.config.client.client.arena_log (length (step nat_cmp most (map_after us) u).0)) (sym polled.log) (c.requires.room other))
    none c.attempt-second.new.writer c.attempt-second.new.state c.in-Err.ensures.made)

pub returns-in-Err-clause-ok : goal.returns-in-Err-clause-ok
returns-in-Err-clause-ok g c none = absurd (none_refused g.row.F.Denot c.args.domain.now.origin c.args.update.now c.args.writer.now c.args.state.now c.requires.ready c.tally-updates.ensures.writing (ap (λ v. v.origin) c.requires.table) c.free_words-free.ensures.apart c.requires.room none c.attempt-first.new.writer c.attempt-first.new.state c.in_default.ensures.made)
