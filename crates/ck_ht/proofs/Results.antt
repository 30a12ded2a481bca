-- What an update says of the table and the writer that its caller sees.
use Rattle.std.proofs.Common.{◌≡◌, ℕ, ◌+◌, ◌≤◌, [], ◌∷◌, ◌++◌, length, sym, ap, ◌∙◌, subst, arith}
use Rattle.std.specs.Prelude.{IfOk, IfErr, MatchResult}
use Rattle.std.specs.declared.result.Result.{Result}
use Rattle.std.specs.declared.result.Result.TheVariants.{Ok, Err}
use Rattle.std.specs.Ordering.{nat_cmp}
use Rattle.ck_run.specs.Tokens.{Table, table, origin}
use Rattle.ck_epoch.specs.declared.about.About.{About}
use Rattle.ck_epoch.specs.State.{state}
use Rattle.ck_epoch.specs.Ends.{Writer}
use Rattle.ck_signal.specs.declared.signals.Signals.{Signals}
use Rattle.ck_history.specs.declared.event.WriterEvent.TheVariants.{Updated}
use Rattle.ck_history.specs.declared.log.Busy.{Busy}
use Rattle.ck_history.specs.declared.update.Reply.{Reply}
use Rattle.ck_history.specs.declared.update.Update.{Update}
use Rattle.ck_history.specs.Map.{step}
use Rattle.ck_htlaw.specs.declared.client.HtClient.{HtClient}
use Rattle.ck_htlaw.specs.Actions.{most}
use Rattle.ck_htlaw.specs.Known.{knows}
use Rattle.ck_htlaw.specs.Linearized.{map_after}
use Rattle.ck_htlaw.specs.Reached.{with_signals}
use Rattle.ck_htlaw.specs.Table.{WriterState}
use Rattle.ck_htwrite.specs.declared.state.HtState.{HtState}
use Rattle.ck_htwrite.specs.Writes.{WriterIs}
use Rattle.ck_ht.specs.Ends.{HtWriter, IsWriterReady}
use Rattle.ck_ht.specs.Events.{hand_events}
use Rattle.ck_ht.specs.Room.{HasRoomFor}
use Rattle.ck_ht.specs.Updating.{IsBusy, IsUpdated, MakesUpdate}

-- a writer that is ready by its own origin is so by that of the domain that it is used with ..
pub ready_in : {F : Type 0} {d e : Table (About (Signals HtClient))} {v w : HtWriter F} → v ≡ w → table w.writer.token ≡ e → d ≡ e → IsWriterReady (origin v.writer.token) v.writer v.state → IsWriterReady d.origin v.writer v.state
ready_in {F} {v} view made same = subst (λ (t : Table (About (Signals HtClient))). IsWriterReady t.origin v.writer v.state) (ap (λ (x : HtWriter F). table x.writer.token) view ∙ (made ∙ sym same))

-- .. and what a call there left of it is so by its own
pub ready_out : {F : Type 0} {d e : Table (About (Signals HtClient))} {v w : HtWriter F} (q : Writer (Signals HtClient) F) (s : HtState) → v ≡ w → table w.writer.token ≡ e → d ≡ e → table q.token ≡ table v.writer.token → IsWriterReady d.origin q s → IsWriterReady (origin q.token) q s
ready_out {F} q s view made same kept = subst (λ (t : Table (About (Signals HtClient))). IsWriterReady t.origin q s) (same ∙ (sym made ∙ (sym (ap (λ (x : HtWriter F). table x.writer.token) view) ∙ sym kept)))

-- a table that was made has room for so many keys
pub roomy : {X E : Type 0} (r : Result X E) (f : X → HtClient) (seed log keys : ℕ) → IfOk r (λ x. f x ≡ record { seed = seed; arena_log = log }) → HasRoomFor log keys → IfOk r (λ x. HasRoomFor (f x).arena_log keys)
roomy (Ok x) f seed log keys is room = subst (λ (k : ℕ). HasRoomFor k keys) (sym (ap (λ (c : HtClient). c.arena_log) is)) room
roomy (Err e) f seed log keys is room = tt

module _ (F : Type 0) (u : Update ℕ) (r : Result Reply Busy) (v : Writer (Signals HtClient) F) (s : HtState) where
  -- what an update did, from this table and these lists on
  abbrev pub Does : Table (About (Signals HtClient)) → HtWriter F → Type 0
  Does d w = MatchResult r (λ reply. IsUpdated d.origin u w.writer w.state reply v s) (λ b. IsBusy d.origin u w.writer w.state b v s)

  pub outside : (d e : Table (About (Signals HtClient))) (w x : HtWriter F) → d ≡ e → w ≡ x → Does d w → Does e x
  outside d e w x same alike = subst (λ (y : Table (About (Signals HtClient)) × HtWriter F). Does y.0 y.1) (λ i. (same i, alike i))

-- by its answer
module _ (F : Type 0) (u : Update ℕ) (d : Table (About (Signals HtClient))) (w : HtWriter F) (v : Writer (Signals HtClient) F) (s : HtState) where
  pub same_of : (r : Result Reply Busy) → Does F u r v s d w → v ≡ record w.writer { token = v.token; calls = v.calls; tally = v.tally }
  same_of (Ok x) h = h.same ∙ (λ i. record w.writer { token = v.token; calls = v.calls; tally = (sym h.same i).tally })
  same_of (Err b) h = h.polled.same ∙ (λ i. record w.writer { token = v.token; calls = (sym h.polled.same i).calls; tally = (sym h.polled.same i).tally })

  pub tally_of : (r : Result Reply Busy) → Does F u r v s d w → MatchResult r (λ x. v.tally ≡ w.writer.tally + 1) (λ b. v.tally ≡ w.writer.tally)
  tally_of (Ok x) h = ap (λ (y : Writer (Signals HtClient) F). y.tally) h.same
  tally_of (Err b) h = ap (λ (y : Writer (Signals HtClient) F). y.tally) h.polled.same

  pub reply_of : (r : Result Reply Busy) → Does F u r v s d w → IfOk r (λ x. x ≡ (step nat_cmp most (map_after (knows with_signals d.origin w.writer.token).log) u).1)
  reply_of (Ok x) h = h.reply_is
  reply_of (Err b) h = tt

  pub log_of : (r : Result Reply Busy) → Does F u r v s d w → MatchResult r (λ x. (knows with_signals d.origin v.token).log ≡ (knows with_signals d.origin w.writer.token).log ++ record { update = u; reply = x } ∷ []) (λ b. (knows with_signals d.origin v.token).log ≡ (knows with_signals d.origin w.writer.token).log)
  log_of (Ok x) h = h.log
  log_of (Err b) h = h.polled.log

  pub events_of : (r : Result Reply Busy) → Does F u r v s d w → MatchResult r (λ x. hand_events d.origin v.token ≡ hand_events d.origin w.writer.token ++ Updated u x ∷ []) (λ b. hand_events d.origin v.token ≡ hand_events d.origin w.writer.token)
  events_of (Ok x) h = h.events
  events_of (Err b) h = h.polled.events

  pub steps_of : (r : Result Reply Busy) → Does F u r v s d w → IfOk r (λ x. (p : WriterState) → WriterIs with_signals d.origin w.writer.token p → MakesUpdate d.origin u p w.writer.token v.token)
  steps_of (Ok x) h = h.steps
  steps_of (Err b) h = tt

  pub calls_of : (r : Result Reply Busy) → Does F u r v s d w → v.calls ≤ w.writer.calls + 3
  calls_of (Ok x) h = h.calls
  calls_of (Err b) h = let c = ap (λ (y : Writer (Signals HtClient) F). y.calls) h.polled.same in omega arith

  pub table_of : (r : Result Reply Busy) → Does F u r v s d w → table v.token ≡ table w.writer.token
  table_of (Ok x) h = h.same_table
  table_of (Err b) h = h.polled.same_table

  pub busy_of : (r : Result Reply Busy) → Does F u r v s d w → IfErr r (λ b. IsBusy d.origin u w.writer w.state b v s)
  busy_of (Ok x) h = tt
  busy_of (Err b) h = h

  pub pending_of : (r : Result Reply Busy) → Does F u r v s d w → length (state v.token).pending ≤ length (state w.writer.token).pending + 1
  pending_of (Ok x) h = h.pending
  pending_of (Err b) h = let few = h.fewer in omega arith
