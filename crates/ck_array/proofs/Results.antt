-- What a commit of an array did, by its answer; and the writer as contracts see it.
use Rattle.std.proofs.Common.{◌≡◌, ◌+◌, ◌≤◌, [], ◌∷◌, ◌++◌, length, sym, ap, ◌∙◌, subst, arith}
use Rattle.std.specs.Prelude.{IfOk, IfErr, MatchResult}
use Rattle.std.specs.declared.result.Result.{Result}
use Rattle.std.specs.declared.result.Result.TheVariants.{Ok, Err}
use Rattle.ck_run.specs.Tokens.{Table, origin, table}
use Rattle.ck_history.specs.declared.edit.Edit.TheVariants.{Commit}
use Rattle.ck_history.specs.declared.edit.EditReply.{EditReply}
use Rattle.ck_history.specs.declared.edit.EditReply.TheVariants.{Committed}
use Rattle.ck_history.specs.declared.event.WriterEvent.TheVariants.{Updated}
use Rattle.ck_history.specs.declared.log.Busy.{Busy}
use Rattle.ck_epoch.specs.declared.about.About.{About}
use Rattle.ck_epoch.specs.State.{state}
use Rattle.ck_epoch.specs.Ends.{Writer}
use Rattle.ck_signal.specs.declared.signals.Signals.{Signals}
use Rattle.ck_arraylaw.specs.declared.client.ArrayClient.{ArrayClient}
use Rattle.ck_array.specs.declared.state.ArrayState.{ArrayState}
use Rattle.ck_array.specs.Edited.{MakesCommit, IsCommitted, IsBusy}
use Rattle.ck_array.specs.Ends.{ArrayWriter, edits_by, IsWriterReady}
use Rattle.ck_array.specs.Events.{hand_events}

-- a writer that is ready by its own origin is so by that of the domain that it is used with ..
pub ready_in : {F : Type 0} {d e : Table (About (Signals ArrayClient))} {v w : ArrayWriter F} → v ≡ w → table w.writer.token ≡ e → d ≡ e → IsWriterReady (origin v.writer.token) v.writer v.state → IsWriterReady d.origin v.writer v.state
ready_in {F} {v} view made same = subst (λ (t : Table (About (Signals ArrayClient))). IsWriterReady t.origin v.writer v.state) (ap (λ (x : ArrayWriter F). table x.writer.token) view ∙ (made ∙ sym same))

-- .. and what a call there left of it is so by its own
pub ready_out : {F : Type 0} {d e : Table (About (Signals ArrayClient))} {v w : ArrayWriter F} (q : Writer (Signals ArrayClient) F) (s : ArrayState) → v ≡ w → table w.writer.token ≡ e → d ≡ e → table q.token ≡ table v.writer.token → IsWriterReady d.origin q s → IsWriterReady (origin q.token) q s
ready_out {F} q s view made same kept = subst (λ (t : Table (About (Signals ArrayClient))). IsWriterReady t.origin q s) (same ∙ (sym made ∙ (sym (ap (λ (x : ArrayWriter F). table x.writer.token) view) ∙ sym kept)))

module _ (F : Type 0) (r : Result EditReply Busy) (v : Writer (Signals ArrayClient) F) (s : ArrayState) where
  -- what a commit did, from this array and this writer on
  abbrev pub Does : Table (About (Signals ArrayClient)) → ArrayWriter F → Type 0
  Does d w = MatchResult r (λ reply. IsCommitted d.origin w.writer w.state reply v s) (λ b. IsBusy d.origin w.writer w.state b v s)

  pub outside : (d e : Table (About (Signals ArrayClient))) (w x : ArrayWriter F) → d ≡ e → w ≡ x → Does d w → Does e x
  outside d e w x same alike = subst (λ (y : Table (About (Signals ArrayClient)) × ArrayWriter F). Does y.0 y.1) (λ i. (same i, alike i))

module _ (F : Type 0) (d : Table (About (Signals ArrayClient))) (w : ArrayWriter F) (v : Writer (Signals ArrayClient) F) (s : ArrayState) where
  pub same_of : (r : Result EditReply Busy) → Does F r v s d w → v ≡ record w.writer { token = v.token; calls = v.calls; tally = v.tally }
  same_of (Ok x) h = h.edited.same ∙ (λ i. record w.writer { token = v.token; calls = v.calls; tally = (sym h.edited.same i).tally })
  same_of (Err b) h = h.polled.same ∙ (λ i. record w.writer { token = v.token; calls = (sym h.polled.same i).calls; tally = (sym h.polled.same i).tally })

  pub tally_of : (r : Result EditReply Busy) → Does F r v s d w → MatchResult r (λ x. v.tally ≡ w.writer.tally + 1) (λ b. v.tally ≡ w.writer.tally)
  tally_of (Ok x) h = ap (λ (y : Writer (Signals ArrayClient) F). y.tally) h.edited.same
  tally_of (Err b) h = ap (λ (y : Writer (Signals ArrayClient) F). y.tally) h.polled.same

  pub calls_of : (r : Result EditReply Busy) → Does F r v s d w → v.calls ≤ w.writer.calls + 3
  calls_of (Ok x) h = h.edited.calls
  calls_of (Err b) h = let c = ap (λ (y : Writer (Signals ArrayClient) F). y.calls) h.polled.same in omega arith

  pub table_of : (r : Result EditReply Busy) → Does F r v s d w → table v.token ≡ table w.writer.token
  table_of (Ok x) h = h.edited.same_table
  table_of (Err b) h = h.polled.same_table

  pub reply_of : (r : Result EditReply Busy) → Does F r v s d w → IfOk r (λ x. x ≡ Committed)
  reply_of (Ok x) h = h.edited.reply_is
  reply_of (Err b) h = tt

  pub log_of : (r : Result EditReply Busy) → Does F r v s d w → MatchResult r (λ x. edits_by d.origin v.token ≡ edits_by d.origin w.writer.token ++ Commit ∷ []) (λ b. edits_by d.origin v.token ≡ edits_by d.origin w.writer.token)
  log_of (Ok x) h = h.edited.log
  log_of (Err b) h = h.polled.log

  pub events_of : (r : Result EditReply Busy) → Does F r v s d w → MatchResult r (λ x. hand_events d.origin v.token ≡ hand_events d.origin w.writer.token ++ Updated Commit x ∷ []) (λ b. hand_events d.origin v.token ≡ hand_events d.origin w.writer.token)
  events_of (Ok x) h = h.edited.events
  events_of (Err b) h = h.polled.events

  pub steps_of : (r : Result EditReply Busy) → Does F r v s d w → IfOk r (λ x. MakesCommit d.origin w.state.region s.region w.writer.token v.token)
  steps_of (Ok x) h = h.steps
  steps_of (Err b) h = tt

  pub busy_of : (r : Result EditReply Busy) → Does F r v s d w → IfErr r (λ b. IsBusy d.origin w.writer w.state b v s)
  busy_of (Ok x) h = tt
  busy_of (Err b) h = h

  pub pending_of : (r : Result EditReply Busy) → Does F r v s d w → length (state v.token).pending ≤ length (state w.writer.token).pending + 1
  pending_of (Ok x) h = h.edited.pending
  pending_of (Err b) h = let few = h.fewer in omega arith
