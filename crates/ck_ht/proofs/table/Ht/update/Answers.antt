use Rattle.std.proofs.Common.{true, length, sym, ap, ◌∙◌, subst}
use Rattle.std.specs.Ordering.{nat_cmp}
use Rattle.ck_run.specs.Tokens.{Table}
use Rattle.ck_epoch.specs.declared.about.About.{About}
use Rattle.ck_epoch.specs.State.{state}
use Rattle.ck_epoch.specs.Ends.{Writer}
use Rattle.ck_epoch.specs.Lists.{Answers}
use Rattle.ck_signal.specs.declared.signals.Signals.{Signals}
use Rattle.ck_history.specs.Map.{step}
use Rattle.ck_htlaw.specs.declared.client.HtClient.{HtClient}
use Rattle.ck_htlaw.specs.Actions.{most}
use Rattle.ck_htlaw.specs.Client.{home_of}
use Rattle.ck_htlaw.specs.Known.{knows}
use Rattle.ck_htlaw.specs.Linearized.{map_after}
use Rattle.ck_htlaw.specs.Reached.{with_signals}
use Rattle.ck_ht.specs.Ends.{HtWriter}
use Rattle.ck_ht.specs.Room.{HasRoomFor}
use Rattle.ck_ht.proofs.Results.{busy_of, calls_of, events_of, log_of, outside, pending_of, reply_of, same_of, steps_of, table_of, tally_of}
use Rattle.ck_ht.proofs.table.Ht.update.Goals as goal

pub apply-requires-clause-handler : goal.apply-requires-clause-handler
apply-requires-clause-handler g c = subst (λ (v : Writer (Signals HtClient) g.row.F.Denot). Answers (λ item. true) (λ item. home_of item) (λ item. g.F.Fn.pre v.handler (item, tt)) (λ item back. g.F.Fn.post v.handler (item, tt) back)) (sym (ap (λ (v : HtWriter g.row.F.Denot). v.writer) c.w.view_is)) c.requires.handler

pub apply-requires-clause-room : goal.apply-requires-clause-room
apply-requires-clause-room g c other = subst (λ (x : Table (About (Signals HtClient)) × HtWriter g.row.F.Denot). HasRoomFor x.0.origin.config.client.client.arena_log (length (step nat_cmp most (map_after (knows with_signals x.0.origin x.1.writer.token).log) c.args.update.now).0)) (λ i. (sym c.self.view_is i, sym c.w.view_is i)) (c.requires.room other)

pub returns : goal.returns
returns g c =
    let F = g.row.F.Denot in let u = c.args.update.now in let a = c.apply in let v = a.new.writer in let s = a.new.state in let d = c.args.self.now in let w = c.args.w.now in let r = a.result in
    let h = outside F u r v s c.self.inside.domain d (record { writer = c.w.inside.writer; state = c.w.inside.state }) w c.self.view_is c.w.view_is a.ensures.done in
    record {
      same = same_of F u d w v s r h;
      tally = tally_of F u d w v s r h;
      calls = calls_of F u d w v s r h;
      table = table_of F u d w v s r h;
      reply = reply_of F u d w v s r h;
      log = log_of F u d w v s r h;
      events = events_of F u d w v s r h;
      steps = steps_of F u d w v s r h;
      busy = busy_of F u d w v s r h;
      ok = λ none. a.ensures.ok (ap (λ (x : HtWriter F). (state x.writer.token).pending) c.w.view_is ∙ none);
      pending = pending_of F u d w v s r h;
    }
