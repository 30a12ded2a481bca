use Rattle.std.proofs.Common.{◌≡◌, ℕ, ◌+◌, ◌*◌, ◌^◌, ◌≤◌, List, [], ◌∷◌, ◌++◌, sym, ap, ◌∙◌, subst, arith}
use Rattle.std.specs.Ordering.{nat_cmp}
use Rattle.ck_run.specs.declared.account.Step.{Step}
use Rattle.ck_run.specs.Tokens.{Table, adding, table}
use Rattle.ck_epoch.specs.declared.about.About.{About}
use Rattle.ck_epoch.specs.State.{state}
use Rattle.ck_epoch.specs.Ends.{Writer}
use Rattle.ck_signal.specs.declared.signals.Signals.{Signals}
use Rattle.ck_history.specs.Map.{step}
use Rattle.ck_history.specs.declared.event.WriterEvent.TheVariants.{Updated}
use Rattle.ck_history.specs.declared.update.Update.TheVariants.{Del}
use Rattle.ck_htlaw.specs.declared.client.HtClient.{HtClient}
use Rattle.ck_htlaw.specs.Actions.{most, plan_now}
use Rattle.ck_htlaw.specs.Calls.{remove}
use Rattle.ck_htlaw.specs.Host.{lies}
use Rattle.ck_htlaw.specs.Known.{knows}
use Rattle.ck_htlaw.specs.Layout.{arena_words, log_of}
use Rattle.ck_htlaw.specs.Linearized.{map_after}
use Rattle.ck_htlaw.specs.Reached.{with_signals}
use Rattle.ck_htlaw.specs.Table.{WriterState}
use Rattle.ck_htwrite.specs.Arena.{AreTableItems}
use Rattle.ck_htwrite.specs.Updates.{RemoveSteps}
use Rattle.ck_htwrite.specs.Writes.{WriterIs, counters_in, opened}
use Rattle.ck_ht.specs.Ends.{HtWriter}
use Rattle.ck_ht.specs.Events.{hand_events}
use Rattle.ck_ht.proofs.Keyed.{keyed_next}
use Rattle.ck_events.proofs.Steps.{none_named}
use Rattle.ck_ht.proofs.EventSteps.{opened_quiet, updates_are_events}
use Rattle.ck_ht.proofs.table.Ht.remove.Goals as goal
use Rattle.ck_ht.proofs.Results.{ready_in, ready_out}

pub remove-requires-clause-ready : goal.remove-requires-clause-ready
remove-requires-clause-ready g c = (ready_in c.w.view_is c.requires.table c.self.view_is c.w.invariant).ready

pub invariant_of-w : goal.invariant_of-w
invariant_of-w g c =
    let o = c.self.inside.domain.origin in let w = c.w.inside.writer in let v = c.remove.new.writer in let s = c.remove.new.state in let e = c.remove.ensures in
    let r = ready_in c.w.view_is c.requires.table c.self.view_is c.w.invariant in
    ready_out v s c.w.view_is c.requires.table c.self.view_is e.table record {
      ready = e.ready;
      own = subst (AreTableItems (counters_in with_signals o) 0) (sym e.items) r.own;
      given = ap (λ v. v.waiting) e.same ∙ r.given;
      room = subst (λ (k : ℕ). counters_in with_signals o ≤ k) (sym (ap (λ v. v.room) e.same)) r.room;
      half = subst (λ (root : ℕ). 2 * 2 ^ (log_of root + 2) ≤ arena_words (counters_in with_signals o)) (sym e.root) r.half;
      keys = keyed_next (knows with_signals o w.token).log (knows with_signals o v.token).log (record { update = Del c.args.key; reply = c.remove.result }) e.log tt r.keys;
    }

pub returns : goal.returns
returns g c =
    let F = g.row.F.Denot in let o = c.self.inside.domain.origin in let w = c.w.inside.writer in let v = c.remove.new.writer in let e = c.remove.ensures in let key = c.args.key in
    let r = ready_in c.w.view_is c.requires.table c.self.view_is c.w.invariant in
    let same = ap (λ (y : HtWriter F). y.writer) c.w.view_is in
    let s = e.steps r.ready.lists.is_writer r.ready.lists.is in
    let events = updates_are_events o w.token v.token (opened (remove ∷ key ∷ []) s.0) (record { update = Del key; reply = c.remove.result } ∷ []) s.2 (opened_quiet (remove ∷ key ∷ []) s.0 (none_named remove (key ∷ []) (λ e. omega arith))) e.log in
    record {
      same = e.same ∙ (λ i. record (same i) { token = v.token; calls = (same i).calls + 1; tally = (same i).tally + 1 });
      table = e.table ∙ ap (λ y. table y.token) same;
      reply = e.reply ∙ (λ i. (step nat_cmp most (map_after (knows with_signals (c.self.view_is i).origin (same i).token).log) (Del key)).1);
      log = (λ i. (knows with_signals (sym c.self.view_is i).origin v.token).log) ∙ (e.log ∙ (λ i. (knows with_signals (c.self.view_is i).origin (same i).token).log ++ record { update = Del key; reply = c.remove.result } ∷ []));
      steps = subst (λ (y : Table (About (Signals HtClient)) × Writer (Signals HtClient) F). (p : WriterState) → WriterIs with_signals y.0.origin y.1.token p → (ss : List Step) × RemoveSteps (lies with_signals y.0.origin) p (plan_now (lies with_signals y.0.origin) p key) ss × (v.token ≡ adding y.1.token (opened (remove ∷ key ∷ []) ss)))
          (λ i. (c.self.view_is i, same i)) e.steps;
      events = (λ i. hand_events (sym c.self.view_is i).origin v.token) ∙ (events ∙ (λ i. hand_events (c.self.view_is i).origin (same i).token ++ Updated (Del key) c.remove.result ∷ []));
      pending = e.pending ∙ ap (λ y. (state y.token).pending) same;
    }
