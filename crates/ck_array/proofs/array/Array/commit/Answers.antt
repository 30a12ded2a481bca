use Rattle.std.proofs.Common.{ap, ◌∙◌, subst, sym}
use Rattle.ck_epoch.specs.State.{state}
use Rattle.ck_epoch.specs.Ends.{Writer}
use Rattle.ck_epoch.specs.Lists.{Answers}
use Rattle.ck_signal.specs.declared.signals.Signals.{Signals}
use Rattle.ck_arraylaw.specs.declared.client.ArrayClient.{ArrayClient}
use Rattle.ck_arraylaw.specs.Client.{is_region, home_of}
use Rattle.ck_array.specs.Ends.{ArrayWriter}
use Rattle.ck_array.proofs.Results.{outside, same_of, tally_of, calls_of, table_of, reply_of, log_of, events_of, steps_of, busy_of, pending_of, ready_in, ready_out}
use Rattle.ck_array.proofs.array.Array.commit.Goals as goal

pub commit-requires-clause-ready : goal.commit-requires-clause-ready
commit-requires-clause-ready g c = ready_in c.w.view_is c.requires.table c.self.view_is c.w.invariant

pub commit-requires-clause-handler : goal.commit-requires-clause-handler
commit-requires-clause-handler g c = subst (λ (v : Writer (Signals ArrayClient) g.row.F.Denot). Answers (λ item. is_region item) (λ item. home_of item) (λ item. g.F.Fn.pre v.handler (item, tt)) (λ item back. g.F.Fn.post v.handler (item, tt) back)) (sym (ap (λ (v : ArrayWriter g.row.F.Denot). v.writer) c.w.view_is)) c.requires.handler

pub invariant_of-w : goal.invariant_of-w
invariant_of-w g c =
    let a = c.commit in let v = a.new.writer in let s = a.new.state in
    ready_out v s c.w.view_is c.requires.table c.self.view_is (table_of g.row.F.Denot c.self.inside.domain (record { writer = c.w.inside.writer; state = c.w.inside.state }) v s a.result a.ensures.done) a.ensures.ready

pub returns : goal.returns
returns g c =
    let F = g.row.F.Denot in let a = c.commit in let v = a.new.writer in let s = a.new.state in let d = c.args.self.now in let w = c.args.w.now in let r = a.result in
    let done = outside F r v s c.self.inside.domain d (record { writer = c.w.inside.writer; state = c.w.inside.state }) w c.self.view_is c.w.view_is a.ensures.done in
    record {
      same = same_of F d w v s r done;
      tally = tally_of F d w v s r done;
      calls = calls_of F d w v s r done;
      table = table_of F d w v s r done;
      reply = reply_of F d w v s r done;
      log = log_of F d w v s r done;
      events = events_of F d w v s r done;
      steps = steps_of F d w v s r done;
      busy = busy_of F d w v s r done;
      ok = λ none. a.ensures.ok (ap (λ (y : ArrayWriter F). (state y.writer.token).pending) c.w.view_is ∙ none);
      pending = pending_of F d w v s r done;
    }
