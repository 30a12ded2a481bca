-- A writer once a poll or a barrier is over and every answer is given back.
use Rattle.std.proofs.Common.{◌≡◌, ℕ, ◌+◌, ◌-◌, ◌≤◌, List, [], length, append-nil, refl, sym, ap, ◌∙◌, subst, arith}
use Rattle.std.specs.Prelude.{Option}
use Rattle.ck_run.specs.declared.account.Entry.{Entry}
use Rattle.ck_run.specs.Tokens.{table}
use Rattle.ck_words.specs.Buddies.{Arena, piece, with_pieces_out}
use Rattle.ck_history.specs.declared.edit.Edit.{Edit}
use Rattle.ck_history.specs.declared.log.Busy.{Busy}
use Rattle.ck_epoch.specs.State.{Origin, barrier, records_of, state}
use Rattle.ck_epoch.specs.Ends.{Writer}
use Rattle.ck_epoch.specs.Rounds.{Rounds}
use Rattle.ck_signal.specs.declared.signals.Signals.{Signals}
use Rattle.ck_events.proofs.Epochs.{AreOfEpochs, barrier_steps, poll_steps}
use Rattle.ck_arena.specs.Arena.{unreturned, GoHome, KeepsAll}
use Rattle.ck_arena.specs.Found.{PollsOnce}
use Rattle.ck_arraylaw.specs.declared.client.ArrayClient.{ArrayClient}
use Rattle.ck_arraylaw.specs.Array.{writer}
use Rattle.ck_arraylaw.specs.Client.{home_of, logged}
use Rattle.ck_arraylaw.specs.Known.{knows}
use Rattle.ck_arraylaw.specs.Layout.{IsArrayItem}
use Rattle.ck_arraylaw.specs.Reached.{with_signals}
use Rattle.ck_arraylaw.specs.Regions.{place_in}
use Rattle.ck_array.specs.declared.state.ArrayState.{ArrayState}
use Rattle.ck_array.specs.Edited.{HasPolled}
use Rattle.ck_array.specs.Ends.{edits_by, IsWriterReady}
use Rattle.ck_array.specs.Events.{hand_events}
use Rattle.ck_array.specs.Writes.{idle, region_piece}
use Rattle.ck_array.proofs.CommitSteps.{still_of_array}
use Rattle.ck_array.proofs.Elsewhere.{below_all, hand_stays}
use Rattle.ck_array.proofs.EventSteps.{edits_are_events}

-- each item goes back as its own piece
pub goes_home : (o : Origin (Signals ArrayClient)) → GoHome home_of (place_in with_signals o)
goes_home o k = ap (λ (a : ℕ). piece a k.item.log) (let z : k.item.at ≡ k.item.at - place_in with_signals o = omega arith in z)

module _ {F : Type 0} (o : Origin (Signals ArrayClient)) (w v : Writer (Signals ArrayClient) F) (s : ArrayState) (a : Arena) (r : IsWriterReady o w s) (same : v ≡ record w { token = v.token; calls = w.calls + 1 }) (is : a ≡ with_pieces_out s.arena a.out)
    (kept : KeepsAll (IsArrayItem (place_in with_signals o)) (place_in with_signals o) (region_piece s.region) (unreturned (state v.token) v.waiting) a) where
  -- after steps on the words of the epochs
  module _ (es : (es : List Entry) × AreOfEpochs (records_of o) w.token v.token es) where
    local : knows with_signals o v.token ≡ writer (idle r.ready.log s.region)
    local = hand_stays with_signals o w.token v.token es.0 (idle r.ready.log s.region) es.1.0 (below_all with_signals o es.0 es.1.1) r.ready.local

    log : edits_by o v.token ≡ edits_by o w.token
    log = ap logged (local ∙ sym r.ready.local)

    events : hand_events o v.token ≡ hand_events o w.token
    events = edits_are_events o w.token v.token es.0 [] es.1.0 es.1.2 (log ∙ sym (append-nil (edits_by o w.token))) ∙ append-nil (hand_events o w.token)

    ready_given : IsWriterReady o v (record s { arena = a })
    ready_given = record {
      ready = record {
        log = r.ready.log;
        local = local;
        lists = r.ready.lists;
        inside = r.ready.inside;
        short = r.ready.short;
        arena = still_of_array s.arena a a.out is r.ready.arena;
        kept = kept.0;
      };
      own = kept.1;
      given = ap (λ (x : Writer (Signals ArrayClient) F). x.waiting) same ∙ r.given;
      room = subst (λ (k : ℕ). 4096 ≤ k) (sym (ap (λ (x : Writer (Signals ArrayClient) F). x.room) same)) r.room;
      tally = ap (λ (x : Writer (Signals ArrayClient) F). x.tally) same ∙ (r.tally ∙ sym (ap (λ (l : List Edit). length l) log));
      few = (let few = r.few in let a = ap (λ (x : Writer (Signals ArrayClient) F). x.tally) same in let c = ap (λ (x : Writer (Signals ArrayClient) F). x.calls) same in omega arith);
    }

  pub has_polled : (found : Option Busy) → table v.token ≡ table w.token → PollsOnce o w.token found v.token → HasPolled o w s found v (record s { arena = a })
  has_polled found same_table p = let es = poll_steps (records_of o) (state w.token).epoch w.token v.token p.0 p.1 in record {
    same = same;
    same_table = same_table;
    lists = refl;
    log = log es;
    events = events es;
    answer = p.0;
    polls = p.1;
    found_is = p.2;
    pending = p.3;
    ready = ready_given es;
  }

  pub has_waited : Rounds (records_of o) barrier (state w.token).epoch w.token v.token → (edits_by o v.token ≡ edits_by o w.token) × (hand_events o v.token ≡ hand_events o w.token) × IsWriterReady o v (record s { arena = a })
  has_waited rounds = let es = barrier_steps (records_of o) (state w.token).epoch w.token v.token rounds in (log es, events es, ready_given es)
