use Rattle.std.proofs.Common.{◌≡◌, [], ◌∷◌, length, refl, ap, sym, ◌∙◌}
use Rattle.ck_run.specs.Tokens.{adding, origin, table}
use Rattle.ck_epoch.specs.Ends.{Writer}
use Rattle.ck_signal.specs.declared.signals.Signals.{Signals}
use Rattle.ck_signal.specs.Words.{marks}
use Rattle.ck_signal.specs.Told.{applied_word_of, writer_log}
use Rattle.ck_arraylaw.specs.declared.client.ArrayClient.{ArrayClient}
use Rattle.ck_arraylaw.specs.Client.{array}
use Rattle.ck_array.specs.Ends.{ArrayWriter, edits_by}
use Rattle.ck_array.specs.Events.{hand_events}
use Rattle.ck_array.proofs.Results.{ready_in, ready_out}
use Rattle.ck_array.proofs.SignalSteps.{log_counted, mark_still}
use Rattle.ck_array.proofs.array.Array.mark.Goals as goal

pub mark-requires-clause-tally : goal.mark-requires-clause-tally
mark-requires-clause-tally g c = log_counted (origin c.w.inside.writer.token) c.w.inside.writer c.w.inside.state refl c.w.invariant

pub invariant_of-w : goal.invariant_of-w
invariant_of-w g c =
    let w = c.w.inside.writer in let s = c.w.inside.state in let v = c.mark.new.writer in let e = c.mark.ensures in
    ready_out v s c.w.view_is c.requires.table c.self.view_is (ap (λ (y : Writer (Signals ArrayClient) g.row.F.Denot). table y.token) e.step)
    (mark_still c.self.inside.domain.origin w v s (length (writer_log array w.token)) (ready_in c.w.view_is c.requires.table c.self.view_is c.w.invariant) e.step e.same).0

pub returns : goal.returns
returns g c =
    let F = g.row.F.Denot in let w = c.w.inside.writer in let s = c.w.inside.state in let v = c.mark.new.writer in let e = c.mark.ensures in
    let r = ready_in c.w.view_is c.requires.table c.self.view_is c.w.invariant in
    let same = ap (λ (y : ArrayWriter F). y.writer) c.w.view_is in
    let n = length (writer_log array w.token) in
    let still = mark_still c.self.inside.domain.origin w v s n r e.step e.same in
    let many : n ≡ length (edits_by c.args.self.now.origin c.args.w.now.writer.token) = sym (log_counted (origin w.token) w s refl c.w.invariant) ∙ (r.tally ∙ (λ i. length (edits_by (c.self.view_is i).origin (same i).token))) in
    record {
      step = e.step ∙ (λ i. record (same i) { token = adding (same i).token (marks (applied_word_of array (c.self.view_is i).origin) (many i) ∷ []) });
      log = (λ i. edits_by (sym c.self.view_is i).origin v.token) ∙ (still.1 ∙ (λ i. edits_by (c.self.view_is i).origin (same i).token));
      events = (λ i. hand_events (sym c.self.view_is i).origin v.token) ∙ (still.2 ∙ (λ i. hand_events (c.self.view_is i).origin (same i).token));
    }
