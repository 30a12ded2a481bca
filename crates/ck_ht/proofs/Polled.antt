-- A writer once a poll or a barrier is over and every answer is given back.
use Rattle.std.proofs.Common.{◌≡◌, ℕ, ◌+◌, ◌≤◌, List, [], append-nil, refl, sym, ap, ◌∙◌, subst, arith}
use Rattle.std.specs.Prelude.{Option}
use Rattle.ck_run.specs.declared.account.Entry.{Entry}
use Rattle.ck_run.specs.Tokens.{table}
use Rattle.ck_words.specs.Buddies.{Arena, with_pieces_out}
use Rattle.ck_epoch.specs.State.{Origin, barrier, records_of, state}
use Rattle.ck_epoch.specs.Ends.{Writer}
use Rattle.ck_epoch.specs.Rounds.{Rounds}
use Rattle.ck_signal.specs.declared.signals.Signals.{Signals}
use Rattle.ck_history.specs.declared.log.Busy.{Busy}
use Rattle.ck_history.specs.declared.log.LogEntry.{LogEntry}
use Rattle.ck_events.proofs.Epochs.{AreOfEpochs, barrier_steps, poll_steps}
use Rattle.ck_arena.specs.Arena.{unreturned, KeepsAll}
use Rattle.ck_arena.specs.Found.{PollsOnce}
use Rattle.ck_htlaw.specs.declared.client.HtClient.{HtClient}
use Rattle.ck_htlaw.specs.Known.{knows}
use Rattle.ck_htlaw.specs.Layout.{IsTableItem}
use Rattle.ck_htlaw.specs.Linearized.{map_after}
use Rattle.ck_htlaw.specs.Reached.{with_signals}
use Rattle.ck_htwrite.specs.declared.state.HtState.{HtState}
use Rattle.ck_htwrite.specs.Arena.{region_piece}
use Rattle.ck_htwrite.specs.Entries.{HasKeys}
use Rattle.ck_htwrite.specs.State.{Ready}
use Rattle.ck_htwrite.specs.Writes.{counters_in}
use Rattle.ck_htwrite.proofs.Openings.{still_of_table}
use Rattle.ck_ht.specs.Ends.{IsWriterReady}
use Rattle.ck_ht.specs.Events.{hand_events}
use Rattle.ck_ht.specs.Updating.{HasPolled}
use Rattle.ck_ht.proofs.EventSteps.{updates_are_events}
use Rattle.ck_ht.proofs.Staying.{ready_outside}
use Rattle.ck_ht.proofs.Elsewhere.{below_all}

module _ {F : Type 0} (o : Origin (Signals HtClient)) (w v : Writer (Signals HtClient) F) (s : HtState) (a : Arena) (r : IsWriterReady o w s) (same : v ≡ record w { token = v.token; calls = w.calls + 1 }) (is : a ≡ with_pieces_out s.arena a.out)
    (kept : KeepsAll (IsTableItem (counters_in with_signals o) 0) 0 (region_piece s.root) (unreturned (state v.token) v.waiting) a) where
  abbrev n : ℕ
  n = counters_in with_signals o

  -- after steps on the words of the epochs
  module _ (es : (es : List Entry) × AreOfEpochs (records_of o) w.token v.token es) where
    still : Ready with_signals o v (record s { arena = a }) × ((knows with_signals o v.token).log ≡ (knows with_signals o w.token).log) × ((knows with_signals o v.token).local ≡ (knows with_signals o w.token).local)
    still = ready_outside with_signals o w v s a es.0 r.ready es.1.0 (below_all with_signals o es.0 es.1.1) (ap (λ (x : Writer (Signals HtClient) F). x.tally) same) (let c = ap (λ (x : Writer (Signals HtClient) F). x.calls) same in omega arith)
        (record { of_table = still_of_table n s.arena a a.out is r.ready.arena.of_table; pieces = kept.0 })

    events : hand_events o v.token ≡ hand_events o w.token
    events = updates_are_events o w.token v.token es.0 [] es.1.0 es.1.2 (still.1 ∙ sym (append-nil (knows with_signals o w.token).log)) ∙ append-nil (hand_events o w.token)

    ready_given : IsWriterReady o v (record s { arena = a })
    ready_given = record {
      ready = still.0;
      own = kept.1;
      given = ap (λ (x : Writer (Signals HtClient) F). x.waiting) same ∙ r.given;
      room = subst (λ (k : ℕ). n ≤ k) (sym (ap (λ (x : Writer (Signals HtClient) F). x.room) same)) r.room;
      half = r.half;
      keys = subst (λ (us : List (LogEntry ℕ)). HasKeys (map_after us)) (sym still.1) r.keys;
    }

  pub has_polled : (found : Option Busy) → table v.token ≡ table w.token → PollsOnce o w.token found v.token → HasPolled o w s found v (record s { arena = a })
  has_polled found same_table p = let es = poll_steps (records_of o) (state w.token).epoch w.token v.token p.0 p.1 in record {
    same = same;
    same_table = same_table;
    lists = refl;
    local = (still es).2;
    log = (still es).1;
    events = events es;
    answer = p.0;
    polls = p.1;
    found_is = p.2;
    pending = p.3;
    ready = ready_given es;
  }

  pub has_waited : Rounds (records_of o) barrier (state w.token).epoch w.token v.token → ((knows with_signals o v.token).log ≡ (knows with_signals o w.token).log) × (hand_events o v.token ≡ hand_events o w.token) × IsWriterReady o v (record s { arena = a })
  has_waited rounds = let es = barrier_steps (records_of o) (state w.token).epoch w.token v.token rounds in ((still es).1, events es, ready_given es)
