use Rattle.std.proofs.Common.{◌≡◌, [], ◌∷◌, length, refl, ap, sym, ◌∙◌}
use Rattle.ck_run.specs.Tokens.{adding, origin, table as table_of}
use Rattle.ck_epoch.specs.Ends.{Writer}
use Rattle.ck_signal.specs.declared.signals.Signals.{Signals}
use Rattle.ck_signal.specs.Words.{marks}
use Rattle.ck_signal.specs.Told.{applied_word_of, writer_log}
use Rattle.ck_htlaw.specs.declared.client.HtClient.{HtClient}
use Rattle.ck_htlaw.specs.Client.{table}
use Rattle.ck_htlaw.specs.Known.{knows}
use Rattle.ck_htlaw.specs.Reached.{with_signals}
use Rattle.ck_ht.specs.Ends.{HtWriter}
use Rattle.ck_ht.specs.Events.{hand_events}
use Rattle.ck_ht.proofs.Results.{ready_in, ready_out}
use Rattle.ck_ht.proofs.SignalSteps.{log_counted, mark_still}
use Rattle.ck_ht.proofs.table.Ht.mark.Goals as goal

pub mark-requires-clause-tally : goal.mark-requires-clause-tally
mark-requires-clause-tally g c = log_counted (origin c.w.inside.writer.token) c.w.inside.writer c.w.inside.state refl c.w.invariant.ready

pub invariant_of-w : goal.invariant_of-w
invariant_of-w g c =
    let w = c.w.inside.writer in let s = c.w.inside.state in let v = c.mark.new.writer in let e = c.mark.ensures in
    ready_out v s c.w.view_is c.requires.table c.self.view_is (ap (λ (y : Writer (Signals HtClient) g.row.F.Denot). table_of y.token) e.step)
    (mark_still c.self.inside.domain.origin w v s (length (writer_log table w.token)) (ready_in c.w.view_is c.requires.table c.self.view_is c.w.invariant) e.step e.same).0

pub returns : goal.returns
returns g c =
    let w = c.w.inside.writer in let s = c.w.inside.state in let v = c.mark.new.writer in let e = c.mark.ensures in
    let r = ready_in c.w.view_is c.requires.table c.self.view_is c.w.invariant in
    let same = ap (λ (y : HtWriter g.row.F.Denot). y.writer) c.w.view_is in
    let n = length (writer_log table w.token) in
    let still = mark_still c.self.inside.domain.origin w v s n r e.step e.same in
    let many : n ≡ length (knows with_signals c.args.self.now.origin c.args.w.now.writer.token).log =
    sym (log_counted (origin w.token) w s refl c.w.invariant.ready) ∙ (r.ready.tally ∙ (λ i. length (knows with_signals (c.self.view_is i).origin (same i).token).log)) in
    record {
      step = e.step ∙ (λ i. record (same i) { token = adding (same i).token (marks (applied_word_of table (c.self.view_is i).origin) (many i) ∷ []) });
      log = (λ i. (knows with_signals (sym c.self.view_is i).origin v.token).log) ∙ (still.1 ∙ (λ i. (knows with_signals (c.self.view_is i).origin (same i).token).log));
      events = (λ i. hand_events (sym c.self.view_is i).origin v.token) ∙ (still.2 ∙ (λ i. hand_events (c.self.view_is i).origin (same i).token));
    }
