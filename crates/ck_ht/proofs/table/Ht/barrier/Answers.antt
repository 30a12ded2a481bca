use Rattle.std.proofs.Common.{true, ◌+◌, length, refl, sym, ap, ◌∙◌, subst}
use Rattle.ck_run.specs.Tokens.{Table, table}
use Rattle.ck_epoch.specs.declared.about.About.{About}
use Rattle.ck_epoch.specs.Lists.{Answers}
use Rattle.ck_epoch.specs.Rounds.{Rounds}
use Rattle.ck_epoch.specs.State.{barrier, records_of, state}
use Rattle.ck_signal.specs.declared.signals.Signals.{Signals}
use Rattle.ck_htlaw.specs.declared.client.HtClient.{HtClient}
use Rattle.ck_htlaw.specs.Client.{home_of}
use Rattle.ck_htlaw.specs.Known.{knows}
use Rattle.ck_htlaw.specs.Reached.{with_signals}
use Rattle.ck_htwrite.specs.Arena.{region_piece}
use Rattle.ck_ht.specs.Ends.{HtWriter}
use Rattle.ck_ht.specs.Events.{hand_events}
use Rattle.ck_ht.proofs.Polled.{has_waited}
use Rattle.ck_ht.proofs.Regions.{goes_home}
use Rattle.ck_ht.proofs.table.Ht.barrier.Goals as goal
use Rattle.ck_ht.proofs.Results.{ready_in, ready_out}

pub give_all-requires-clause-handler : goal.give_all-requires-clause-handler
give_all-requires-clause-handler g c = λ i retires.
    subst (λ (y : HtWriter g.row.F.Denot). Answers (λ item. true) (λ item. home_of item) (λ item. g.F.Fn.pre y.writer.handler (item, tt)) (λ item back. g.F.Fn.post y.writer.handler (item, tt) back)) (sym c.w.view_is) c.requires.handler i refl

pub give_all-requires-clause-home : goal.give_all-requires-clause-home
give_all-requires-clause-home g c = goes_home

pub give_all-requires-clause-kept : goal.give_all-requires-clause-kept
give_all-requires-clause-kept g c =
    let r = ready_in c.w.view_is c.requires.table c.self.view_is c.w.invariant in (region_piece c.w.inside.state.root, (r.ready.arena.pieces, r.own))

pub invariant_of-w : goal.invariant_of-w
invariant_of-w g c =
    let x = c.w.inside in let v = c.give_all.new.writer in let a = c.give_all.new.arena in let e = c.give_all.ensures in
    let r = ready_in c.w.view_is c.requires.table c.self.view_is c.w.invariant in
    ready_out v (record x.state { arena = a }) c.w.view_is c.requires.table c.self.view_is e.table
    (has_waited c.self.inside.domain.origin x.writer v x.state a r e.same e.arena (e.kept (region_piece x.state.root) (r.ready.arena.pieces, r.own)) e.steps).2

pub returns : goal.returns
returns g c =
    let F = g.row.F.Denot in let x = c.w.inside in let v = c.give_all.new.writer in let e = c.give_all.ensures in
    let r = ready_in c.w.view_is c.requires.table c.self.view_is c.w.invariant in
    let done = has_waited c.self.inside.domain.origin x.writer v x.state c.give_all.new.arena r e.same e.arena (e.kept (region_piece x.state.root) (r.ready.arena.pieces, r.own)) e.steps in
    let same = ap (λ (y : HtWriter F). y.writer) c.w.view_is in
    record {
      same = e.same ∙ (λ i. record (same i) { token = v.token; calls = (same i).calls + 1 });
      table = e.table ∙ ap (λ y. table y.token) same;
      steps = subst (λ (y : Table (About (Signals HtClient)) × HtWriter F). Rounds (records_of y.0.origin) barrier (state y.1.writer.token).epoch y.1.writer.token v.token) (λ i. (c.self.view_is i, c.w.view_is i)) e.steps;
      log = (λ i. (knows with_signals (sym c.self.view_is i).origin v.token).log) ∙ (done.0 ∙ (λ i. (knows with_signals (c.self.view_is i).origin (same i).token).log));
      events = (λ i. hand_events (sym c.self.view_is i).origin v.token) ∙ (done.1 ∙ (λ i. hand_events (c.self.view_is i).origin (same i).token));
      pending = e.pending;
      count = e.count ∙ ap (λ y. length (state y.token).pending) same;
    }
