-- An edit by one try; and a commit that is tried once more after a poll.
use Rattle.std.proofs.Common.{◌≡◌, ℕ, zero, suc, ◌+◌, ◌-◌, ◌^◌, ◌<◌, ◌≤◌, ◌⊎◌, ⊎_elim, inl, inr, Bool, true, false, cond, nat_lt, List, [], ◌∷◌, ◌++◌, length, length-append, refl, sym, ap, ◌∙◌, subst, arith}
use Rattle.std.specs.Prelude.{Option, Some, None, slice_index}
use Rattle.std.proofs.lemmas.List.{length-map}
use Rattle.std.proofs.lemmas.List.Elements.{All-append, All-cons, All-nil}
use Rattle.std.proofs.lemmas.List.Sorted.{length_permutation}
use Rattle.ck_run.specs.declared.account.Step.{Step}
use Rattle.ck_run.specs.declared.account.Step.TheVariants.{Load, Store}
use Rattle.ck_run.specs.declared.account.Entry.{Entry}
use Rattle.ck_run.specs.Run.{entry, further, handing}
use Rattle.ck_arraylaw.specs.Calls.{add, drop_one, commit}
use Rattle.ck_arraylaw.specs.Host.{Host, base_word}
use Rattle.ck_epoch.specs.declared.item.Item.{Item}
use Rattle.ck_run.specs.Tokens.{table, adding}
use Rattle.ck_words.specs.Buddies.{ArePiecesApart}
use Rattle.ck_history.specs.declared.edit.Edit.{Edit}
use Rattle.ck_history.specs.declared.edit.Edit.TheVariants.{Add, Drop, Commit}
use Rattle.ck_history.specs.declared.edit.EditReply.{EditReply}
use Rattle.ck_history.specs.declared.event.WriterEvent.TheVariants.{Updated}
use Rattle.ck_history.specs.declared.log.Busy.{Busy}
use Rattle.ck_history.specs.Lists.{ListState, empty_lists, lists_after_from, list_step}
use Rattle.ck_epoch.specs.declared.answers.Poll.{Poll}
use Rattle.ck_epoch.specs.declared.answers.Poll.TheVariants.{Clear, Moved, Blocked}
use Rattle.ck_epoch.specs.declared.item.Retired.{Retired}
use Rattle.ck_epoch.specs.State.{Origin, Retirement, TokenState, queue, state}
use Rattle.ck_epoch.specs.Calls.{dispatched_items, pending_after}
use Rattle.ck_epoch.specs.Ends.{Writer}
use Rattle.ck_signal.specs.declared.signals.Signals.{Signals}
use Rattle.ck_events.proofs.Steps.{AreQuiet, AreQuiet-append, none_named}
use Rattle.ck_arena.specs.Arena.{unreturned, AreAllInUse, AreItems, IsKept}
use Rattle.ck_arena.specs.Found.{found_by}
use Rattle.ck_arena.proofs.Backs.{none_waits}
use Rattle.ck_arena.proofs.Few.{few_out}
use Rattle.ck_arena.proofs.Giving.{polled}
use Rattle.ck_arena.proofs.Ranges.{in_use, one_free}
use Rattle.ck_arraylaw.specs.declared.client.ArrayClient.{ArrayClient}
use Rattle.ck_arraylaw.specs.declared.client.TheConstants.{ARENA, ARENA_LOG}
use Rattle.ck_arraylaw.specs.Client.{logged}
use Rattle.ck_arraylaw.specs.Layout.{log_for, log_from, IsArrayItem}
use Rattle.ck_arraylaw.specs.Reached.{with_signals}
use Rattle.ck_arraylaw.specs.Regions.{place_in}
use Rattle.ck_array.specs.declared.state.ArrayState.{ArrayState}
use Rattle.ck_array.specs.Edited.{pending_by, IsWanting, IsEdited, IsMade, IsRefused, HasPolled, IsCommitted, IsBusy}
use Rattle.ck_array.specs.Ends.{edits_by, IsWriterReady}
use Rattle.ck_array.specs.Events.{hand_events}
use Rattle.ck_array.specs.Writes.{commit_entries, member_stores, opens_of, region_piece, IsReady}
use Rattle.ck_array.proofs.EventSteps.{edits_are_events}

-- no region is longer than one of the most members
log_most : (more l n : ℕ) → log_from more l n ≤ more + l
log_most zero l n = omega arith
log_most (suc more) l n = by (nat_lt n (2 ^ l)) (log_most more (suc l) n)
  where
    by : (b : Bool) → log_from more (suc l) n ≤ more + suc l → cond b l (log_from more (suc l) n) ≤ suc more + l
    by true low = omega arith
    by false low = omega arith

pub short_log : (n : ℕ) → log_for n ≤ 13
short_log n = log_most 10 3 n

-- a poll that found no record active leaves nothing pending
cleared : (e : ℕ) (answer : Poll) (xs : List Retired) → found_by e answer ≡ None → pending_after e answer xs ≡ []
cleared e (Clear k) xs is = refl
cleared e (Moved k rec) xs is = absurd (let z : Some (record { rec = rec; epoch = e }) ≡ None = is in cc)
cleared e (Blocked k rec epoch) xs is = absurd (let z : Some (record { rec = rec; epoch = epoch }) ≡ None = is in cc)

none_queued : (ks : List Retirement) → queue ks ≡ [] → ks ≡ []
none_queued [] e = refl
none_queued (k ∷ ks) e = absurd cc

module _ (F : Type 0) (o : Origin (Signals ArrayClient)) where
  abbrev W : Type 0
  W = Writer (Signals ArrayClient) F

  abbrev place : ℕ
  place = place_in with_signals o

  -- the lists are those after the edits that were answered
  pub lists_are : (w : W) (s : ArrayState) (r : IsReady with_signals o w s) → s.lists ≡ lists_after_from empty_lists (edits_by o w.token)
  lists_are w s r = r.lists ∙ ap (λ l. lists_after_from empty_lists (logged l)) (sym r.local)

  -- what isn't given back is pending
  pub are_pending : (w : W) → w.waiting ≡ [] → unreturned (state w.token) w.waiting ≡ queue (state w.token).pending
  are_pending w given = ap (unreturned (state w.token)) given ∙ none_waits (state w.token)

  as_long : (t : TokenState) → length (queue t.pending) ≡ length t.pending
  as_long t = length-map t.pending (λ (k : Retirement). k.retired)

  -- no item more is out, or one
  abbrev pub MayAdd : W → W → Type 0
  MayAdd w v = (unreturned (state v.token) v.waiting ≡ unreturned (state w.token) w.waiting) ⊎ ((k : Retired) × IsArrayItem place k.item × (unreturned (state v.token) v.waiting ≡ unreturned (state w.token) w.waiting ++ k ∷ []))

  -- an edit that was made, and is counted then
  pub edited_by : (w v v' : W) (s s' : ArrayState) (e : Edit) (reply : EditReply) (es : List Entry) (k : ℕ) → IsWriterReady o w s → k ≤ 1 → v ≡ record w { token = adding w.token es; calls = w.calls + k } → v' ≡ record v { calls = v.calls + 1; tally = w.tally + 1 }
      → reply ≡ (list_step s.lists e).1 → edits_by o v.token ≡ edits_by o w.token ++ e ∷ [] → AreQuiet es → MayAdd w v → IsReady with_signals o v s' → IsEdited o w s e reply v' s'
  edited_by w v v' s s' e reply es k r few made counted reply_is log quiet items q = record {
    same = counted ∙ ((λ i. record (made i) { token = sym token' i; calls = sym (ap (λ (x : W). x.calls) counted) i; tally = w.tally + 1 }));
    calls = (let a = ap (λ (x : W). x.calls) counted in let c = ap (λ (x : W). x.calls) made in omega arith);
    same_table = ap table token' ∙ ap (λ (x : W). table x.token) made;
    reply_is = reply_is ∙ ap (λ (l : ListState). (list_step l e).1) (lists_are w s r.ready);
    log = ap (edits_by o) token' ∙ log;
    events = ap (hand_events o) token' ∙ (edits_are_events o w.token v.token es (e ∷ []) (ap (λ (x : W). x.token) made) quiet log
        ∙ ap (λ (x : EditReply). hand_events o w.token ++ Updated e x ∷ []) (sym (reply_is ∙ ap (λ (l : ListState). (list_step l e).1) (lists_are w s r.ready))));
    pending = pending;
    ready = ready;
  }
    where
      token' : v'.token ≡ v.token
      token' = ap (λ (x : W). x.token) counted

      waits : v.waiting ≡ []
      waits = ap (λ (x : W). x.waiting) made ∙ r.given

      pending : length (state v'.token).pending ≤ length (state w.token).pending + 1
      pending =
          let now = are_pending v waits in let then = are_pending w r.given in let a = as_long (state v.token) in let c = as_long (state w.token) in let same = ap (λ t. length (state t).pending) token' in
          ⊎_elim (λ e. let long = ap (λ (l : List Retired). length l) (sym now ∙ (e ∙ then)) in omega arith)
          (λ k. let long = ap (λ (l : List Retired). length l) (sym now ∙ (k.2 ∙ ap (λ (xs : List Retired). xs ++ k.0 ∷ []) then)) in let one = length-append (queue (state w.token).pending) (k.0 ∷ []) in omega arith) items

      own : AreItems (IsArrayItem place) (unreturned (state v.token) v.waiting)
      own = ⊎_elim (λ e. subst (AreItems (IsArrayItem place)) (sym e) r.own)
          (λ k. subst (AreItems (IsArrayItem place)) (sym k.2) (All-append (λ (j : Retired). IsArrayItem place j.item) (unreturned (state w.token) w.waiting) (k.0 ∷ []) r.own (All-cons (λ (j : Retired). IsArrayItem place j.item) k.0 [] k.1 (All-nil (λ (j : Retired). IsArrayItem place j.item))))) items

      ready : IsWriterReady o v' s'
      ready = subst (λ (x : W). IsWriterReady o x s') (sym counted) record {
        ready = record { log = q.log; local = q.local; lists = q.lists; inside = q.inside; short = q.short; arena = q.arena; kept = q.kept };
        own = own;
        given = waits;
        room = subst (λ (n : ℕ). 4096 ≤ n) (sym (ap (λ (x : W). x.room) made)) r.room;
        tally = (let long = ap (λ (l : List Edit). length l) log in let one = length-append (edits_by o w.token) (e ∷ []) in let t = r.tally in omega arith);
        few = (let f = r.few in let c = ap (λ (x : W). x.calls) made in omega arith);
      }

  -- a try that is refused
  pub is_wanting : (w w' : W) (s s' : ArrayState) → IsWriterReady o w s → IsRefused o w s w' s' → IsWanting o s.region w.token
  is_wanting w w' s s' r refused =
      subst (λ (ks : List Retired). AreAllInUse ARENA (2 ^ ARENA_LOG) place (region_piece s.region) ks (log_for (length (pending_by o w.token)))) (are_pending w r.given)
      (in_use (IsArrayItem place) place (region_piece s.region) s.arena ARENA (2 ^ ARENA_LOG) (unreturned (state w.token) w.waiting) (log_for (length (pending_by o w.token))) r.ready.arena.first (ap (λ (k : ℕ). 2 ^ k) r.ready.arena.long) r.ready.kept refused.none)

  -- where nothing is pending no try is refused
  pub none_refused : (w w' : W) (s s' : ArrayState) → IsWriterReady o w s → ArePiecesApart s.arena → (state w.token).pending ≡ [] → IsRefused o w s w' s' → ⊥
  none_refused w w' s s' r apart none refused =
      one_free (IsArrayItem place) place (region_piece s.region) s.arena (log_for (length (pending_by o w.token))) 13 apart
      (subst (λ (ks : List Retired). IsKept (IsArrayItem place) place (region_piece s.region) ks s.arena) (are_pending w r.given ∙ ap queue none) r.ready.kept)
      (short_log (length (pending_by o w.token))) r.ready.short (let long = r.ready.arena.long in omega arith) refused.none

  -- no more is pending than there is room for, with one more
  pub few_pending : (w : W) (s : ArrayState) → IsWriterReady o w s → ArePiecesApart s.arena → length (state w.token).pending + length w.waiting < w.room
  few_pending w s r apart =
      let few = few_out (IsArrayItem place) place (region_piece s.region) s.arena apart (unreturned (state w.token) w.waiting) r.own r.ready.kept in
      let many : 2 ^ (s.arena.log_len - s.arena.log_min) ≡ 4096 = (λ i. 2 ^ (r.ready.arena.long i - r.ready.arena.least i)) in
      let items = ap (λ (l : List Retired). length l) (are_pending w r.given) in let long = as_long (state w.token) in let none : length w.waiting ≡ 0 = ap (λ l. length l) r.given in let room = r.room in
      omega arith

  pub none_found : (w w' : W) (s s' : ArrayState) (found : Option Busy) → HasPolled o w s found w' s' → found ≡ None → (state w'.token).pending ≡ []
  none_found w w' s s' found h is = none_queued (state w'.token).pending (h.pending ∙ cleared (state w.token).epoch h.answer (queue (state w.token).pending) (sym h.found_is ∙ is))

  -- made at the first try
  pub at_once : (w w' : W) (s s' : ArrayState) (reply : EditReply) → IsMade o w s reply w' s' → IsCommitted o w s reply w' s'
  at_once w w' s s' reply m = record { edited = m.edited; steps = record { middle = w.token; polls = inl refl; epoch = m.epoch; made = m.made } }

  -- after a poll
  module _ (w w0 w1 : W) (s s0 s1 : ArrayState) (r : IsWriterReady o w s) (refused : IsRefused o w s w0 s0) (found : Option Busy) (h : HasPolled o w s found w1 s1) where
    fewer : length (state w1.token).pending ≤ length (state w.token).pending
    fewer =
        let xs = queue (state w.token).pending in let e = (state w.token).epoch in
        let long = length_permutation xs (dispatched_items e h.answer xs ++ pending_after e h.answer xs) (polled e h.answer xs) in
        let split = length-append (dispatched_items e h.answer xs) (pending_after e h.answer xs) in
        let now = ap (λ (l : List Retired). length l) h.pending in let a = as_long (state w1.token) in let c = as_long (state w.token) in omega arith

    region : s1.region ≡ s.region
    region = ap (λ (x : ArrayState). x.region) h.lists

    pending_same : pending_by o w1.token ≡ pending_by o w.token
    pending_same = ap (λ (l : List Edit). (lists_after_from empty_lists l).pending) h.log

    pub after_poll : (w2 : W) (s2 : ArrayState) (reply : EditReply) → IsMade o w1 s1 reply w2 s2 → IsCommitted o w s reply w2 s2
    after_poll w2 s2 reply m =
        let e = m.edited in let calls : w1.calls ≡ w.calls + 1 = ap (λ (x : W). x.calls) h.same in record {
          edited = record {
            same = e.same ∙ (λ i. record (h.same i) { token = w2.token; calls = w2.calls; tally = (h.same i).tally + 1 });
            calls = (let few = m.fewer_calls in omega arith);
            same_table = e.same_table ∙ h.same_table;
            reply_is = e.reply_is ∙ ap (λ (l : List Edit). (list_step (lists_after_from empty_lists l) Commit).1) h.log;
            log = e.log ∙ ap (λ (l : List Edit). l ++ Commit ∷ []) h.log;
            events = e.events ∙ ap (λ es. es ++ Updated Commit reply ∷ []) h.events;
            pending = (let a = e.pending in let b = fewer in omega arith);
            ready = e.ready;
          };
          steps = record {
            middle = w1.token;
            polls = inr (is_wanting w w0 s s0 r refused, h.answer, h.polls);
            epoch = m.epoch;
            made = m.made ∙ (λ i. adding w1.token (commit_entries with_signals o (pending_same i) s2.region (region i) m.epoch));
          };
        }

    pub is_busy : (b : Busy) (w2 : W) (s2 : ArrayState) → ArePiecesApart s1.arena → IsRefused o w1 s1 w2 s2 → found ≡ Some b → IsBusy o w s b w2 s2
    is_busy b w2 s2 apart refused1 is = subst (λ (x : W × ArrayState). IsBusy o w s b x.0 x.1) (λ i. (sym refused1.same.0 i, sym refused1.same.1 i)) record {
      polled = subst (λ (x : Option Busy). HasPolled o w s x w1 s1) is h;
      wanting = (is_wanting w w0 s s0 r refused, subst (λ x. IsWanting o x w1.token) region (is_wanting w1 w2 s1 s2 h.ready refused1));
      pending = some_pending (state w1.token).pending refl;
      fewer = fewer;
    }
      where
        some_pending : (ks : List Retirement) → (state w1.token).pending ≡ ks → 0 < length ks
        some_pending [] e = absurd (none_refused w1 w2 s1 s2 h.ready apart e refused1)
        some_pending (k ∷ ks) e = omega arith

-- the steps of an edit are none of `answered`
pub edit_quiet : (e : Edit) (s : Step) → AreQuiet (entry (opens_of e) s ∷ [])
edit_quiet (Add v) s = (none_named add (v ∷ []) (λ z. omega arith), tt)
edit_quiet (Drop v) s = (none_named drop_one (v ∷ []) (λ z. omega arith), tt)
edit_quiet Commit s = (none_named commit [] (λ z. omega arith), tt)

stores_quiet : (word : ℕ) (members : List ℕ) (n : ℕ) → AreQuiet (member_stores word members n)
stores_quiet word members zero = tt
stores_quiet word members (suc n) = AreQuiet-append (member_stores word members n) (further (Store (word + n) (slice_index members n)) ∷ []) (stores_quiet word members n) ((λ r e. cc), tt)

pub commit_quiet : {D : Type 0} (h : Host D) (o : Origin D) (members : List ℕ) (new old : Item) (epoch : ℕ) → AreQuiet (commit_entries h o members new old epoch)
commit_quiet h o members new old epoch = (
  none_named commit [] (λ z. omega arith),
  AreQuiet-append (member_stores (base_word h o + new.at + 1) members (length members)) (further (Store (base_word h o) new.at) ∷ handing [] ((place_in h o + old.at) ∷ old.log ∷ []) (Load 0 epoch) ∷ []) (stores_quiet (base_word h o + new.at + 1) members (length members)) ((λ r e. cc), ((λ r e. cc), tt)),
)
