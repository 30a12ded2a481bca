-- Updates that may rebuild the map: one try, and where it is refused one more after a poll.
use Rattle.std.proofs.Common.{◌≡◌, ◌≢◌, ℕ, ◌+◌, ◌*◌, ◌^◌, ◌<◌, ◌≤◌, ◌⊎◌, ⊎_elim, inl, inr, Bool, true, false, cond, nat_lt, List, [], ◌∷◌, ◌++◌, length, length-append, map, refl, sym, ap, ◌∙◌, subst, pow-add, arith}
use Rattle.std.specs.Prelude.{All, IfOk, IfErr, MatchResult, Option, Some, None}
use Rattle.std.specs.declared.result.Result.{Result}
use Rattle.std.specs.declared.result.Result.TheVariants.{Ok, Err}
use Rattle.std.specs.declared.cmp.Ordering.{Ordering}
use Rattle.std.specs.declared.cmp.Ordering.TheVariants.{Less, Equal, Greater}
use Rattle.std.specs.Ordering.{nat_cmp, is_eq, match_ordering}
use Rattle.std.specs.BTreeMap.{insert_entry}
use Rattle.std.proofs.lemmas.Bool.{cases_lt}
use Rattle.std.proofs.lemmas.Bool.Decides.{nat_tests}
use Rattle.std.proofs.lemmas.List.{length-map}
use Rattle.std.proofs.lemmas.List.Elements.{All-append, All-contains, All-cons, All-nil, Contains-push}
use Rattle.std.proofs.lemmas.List.Sorted.{length_permutation}
use Rattle.std.proofs.Math.Nat.{pow-le-pow_right}
use Rattle.ck_run.specs.declared.account.Entry.{Entry}
use Rattle.ck_run.specs.declared.account.Step.{Step}
use Rattle.ck_run.specs.declared.account.Step.TheVariants.{Load, Store}
use Rattle.ck_run.specs.Run.{further, handing}
use Rattle.ck_run.specs.Tokens.{table, adding, origin}
use Rattle.ck_words.specs.Buddies.{ArePiecesApart, IsPieceOut}
use Rattle.ck_epoch.specs.declared.answers.Poll.{Poll}
use Rattle.ck_epoch.specs.declared.answers.Poll.TheVariants.{Clear, Moved, Blocked}
use Rattle.ck_epoch.specs.declared.item.Retired.{Retired}
use Rattle.ck_epoch.specs.State.{Origin, Retirement, TokenState, queue, state}
use Rattle.ck_epoch.specs.Calls.{dispatched_items, pending_after}
use Rattle.ck_epoch.specs.Ends.{Writer, IsWriting}
use Rattle.ck_signal.specs.declared.signals.Signals.{Signals}
use Rattle.ck_history.specs.declared.log.Busy.{Busy}
use Rattle.ck_history.specs.declared.log.LogEntry.{LogEntry}
use Rattle.ck_history.specs.declared.update.Reply.{Reply}
use Rattle.ck_history.specs.declared.update.Reply.TheVariants.{Fresh, Full}
use Rattle.ck_history.specs.declared.update.Update.{Update}
use Rattle.ck_history.specs.declared.update.Update.TheVariants.{Set, Put, Del, Tidy}
use Rattle.ck_history.specs.declared.event.WriterEvent.TheVariants.{Updated}
use Rattle.ck_history.specs.Map.{Map, add, find, step}
use Rattle.ck_history.proofs.Step.{step-Set_absent, step-Put_absent}
use Rattle.ck_slots.specs.Counting.{rebuilt_log}
use Rattle.ck_htlaw.specs.declared.client.HtClient.{HtClient}
use Rattle.ck_htlaw.specs.Actions.{most, keys_now, plan_now}
use Rattle.ck_htlaw.specs.Calls.{set, put, remove, tidy}
use Rattle.ck_htlaw.specs.Host.{lies}
use Rattle.ck_htlaw.specs.Known.{knows}
use Rattle.ck_htlaw.specs.Layout.{arena_words, log_of, IsTableItem}
use Rattle.ck_htlaw.specs.Linearized.{map_after}
use Rattle.ck_htlaw.specs.Reached.{with_signals}
use Rattle.ck_htlaw.specs.Table.{Layout, WriterState}
use Rattle.ck_htwrite.specs.declared.state.HtState.{HtState}
use Rattle.ck_htwrite.specs.declared.state.Need.{Need}
use Rattle.ck_arena.specs.Arena.{retired_piece, unreturned, HasNoneFree}
use Rattle.ck_htwrite.specs.Arena.{region_piece, AddsRegion, AreTableItems, IsKept, MayAddRegion}
use Rattle.ck_htwrite.specs.Rebuild.{rebuild_entries}
use Rattle.ck_htwrite.specs.State.{Ready}
use Rattle.ck_htwrite.specs.Updates.{AreGrowing, IsRebuildDue, Makes, insert_steps, needed_log}
use Rattle.ck_htwrite.specs.Writes.{WriterIs, counters_in, opened}
use Rattle.ck_htwrite.proofs.Between.{as_many_pairs, not_found, same_writer}
use Rattle.ck_arena.proofs.Giving.{polled}
use Rattle.ck_ht.specs.Ends.{IsWriterReady}
use Rattle.ck_ht.specs.Events.{hand_events}
use Rattle.ck_events.proofs.Steps.{AreQuiet, AreQuiet-append, OpensNone, none_named, further_quiet}
use Rattle.ck_ht.specs.Room.{HasRoomFor}
use Rattle.ck_ht.specs.Updating.{AreAllInUse, AreUpdating, HasPolled, IsBusy, IsDue, IsKeyed, IsMade, IsRefused, IsUpdated, IsWanting, due_log}
use Rattle.ck_arena.specs.Found.{found_by}
use Rattle.ck_arena.proofs.Backs.{none_waits}
use Rattle.ck_ht.proofs.Keyed.{keyed_next}
use Rattle.ck_ht.proofs.Regions.{all_in_use, few_regions, half_beside, one_region_free}
use Rattle.ck_ht.proofs.Settling.{is_within}
use Rattle.ck_ht.proofs.Sizes.{arena_long}
use Rattle.ck_ht.proofs.EventSteps.{opened_quiet, updates_are_events}

-- the steps of an update are none of `answered`
none_opened : OpensNone []
none_opened r e = absurd cc

rebuild_quiet : (l : Layout) (opens : List ℕ) (old root : ℕ) (stores : List Step) (epoch : ℕ) → OpensNone opens → AreQuiet (rebuild_entries l opens old root stores epoch)
rebuild_quiet l opens old root stores epoch none = AreQuiet-append (opened opens (Store (l.word root 0 0) 0 ∷ stores)) (further (Store l.base root) ∷ handing [] (l.item old) (Load 0 epoch) ∷ []) (opened_quiet opens (Store (l.word root 0 0) 0 ∷ stores) none) (none_opened, (none_opened, tt))

makes_quiet : (l : Layout) (p : WriterState) (AreSteps : List Step → Type 0) (plan : _) (opens : List ℕ) (key value : ℕ) (es : List Entry) → OpensNone opens → Makes l p AreSteps plan opens key value es → AreQuiet es
makes_quiet l p AreSteps plan opens key value es none m = ⊎_elim
    (λ x. subst AreQuiet (sym x.2) (opened_quiet opens x.0 none))
    (λ x. let g : AreGrowing l p opens key value es = x.1 in subst AreQuiet (sym g.are) (AreQuiet-append (rebuild_entries l opens p.root g.root g.stores g.epoch) (map further (insert_steps l g.root g.at key value)) (rebuild_quiet l opens p.root g.root g.stores g.epoch none) (further_quiet (insert_steps l g.root g.at key value))))
    m

update_quiet : (l : Layout) (p : WriterState) (u : Update ℕ) (es : List Entry) → AreUpdating l p u es → AreQuiet es
update_quiet l p (Set key value) es m = makes_quiet l p _ _ (set ∷ key ∷ value ∷ []) key value es (none_named set (key ∷ value ∷ []) (λ e. omega arith)) m
update_quiet l p (Put key value) es m = makes_quiet l p _ _ (put ∷ key ∷ value ∷ []) key value es (none_named put (key ∷ value ∷ []) (λ e. omega arith)) m
update_quiet l p (Del key) es m = subst AreQuiet (sym m.2) (opened_quiet (remove ∷ key ∷ []) m.0 (none_named remove (key ∷ []) (λ e. omega arith)))
update_quiet l p Tidy es m = ⊎_elim
    (λ x. subst AreQuiet (sym x.2) (none_named tidy [] (λ e. omega arith), tt))
    (λ x. subst AreQuiet (sym x.3) (rebuild_quiet l (tidy ∷ []) p.root m.0 x.1 x.2 (none_named tidy [] (λ e. omega arith))))
    m.1

-- an absent key makes a map longer by one
longer : (k x : ℕ) (m : Map ℕ) → find nat_cmp m k ≡ None → length (insert_entry nat_cmp m k x) ≡ length m + 1
longer k x [] e = refl
longer k x (a ∷ m) e = by (nat_cmp k a.0) refl (λ r. longer k x m r)
  where
    by : (c : Ordering) → nat_cmp k a.0 ≡ c → (find nat_cmp m k ≡ None → length (insert_entry nat_cmp m k x) ≡ length m + 1) → length (match_ordering c ((k, x) ∷ a ∷ m) ((a.0, x) ∷ m) (a ∷ insert_entry nat_cmp m k x)) ≡ length (a ∷ m) + 1
    by Less i more = omega arith
    by Equal i more = absurd (let z : Some a.1 ≡ None = sym (ap (λ (c : Ordering). cond (is_eq c) (Some a.1) (find nat_cmp m k)) i) ∙ e in cc)
    by Greater i more = let r = more (sym (ap (λ (c : Ordering). cond (is_eq c) (Some a.1) (find nat_cmp m k)) i) ∙ e) in omega arith

added_longer : (m : Map ℕ) (k x : ℕ) (u : Update ℕ) → find nat_cmp m k ≡ None → nat_lt (length m) most ≡ true → step nat_cmp most m u ≡ add nat_cmp most m k x → length (step nat_cmp most m u).0 ≡ length m + 1
added_longer m k x u none room is = ap (λ (z : Map ℕ × Reply). length z.0) (is ∙ ap (λ (b : Bool). cond {A = Map ℕ × Reply} b (insert_entry nat_cmp m k x, Fresh) (m, Full)) room) ∙ longer k x m none

-- where a map has at most half of its arena, and 16 words for each pair that it comes to, two regions of the length that a rebuild takes have room
two_fit : (c keys words len : ℕ) → 2 ^ len ≡ words → 2 * 2 ^ (c + 2) ≤ words → 16 * (keys + 1) ≤ words → (c + 2 ≤ rebuilt_log c keys + 2) × (2 * 2 ^ (rebuilt_log c keys + 2) ≤ words)
two_fit c keys words len is half room = by (nat_lt (2 ^ c) (2 * (keys + 1))) refl
  where
    by : (b : Bool) → nat_lt (2 ^ c) (2 * (keys + 1)) ≡ b → (c + 2 ≤ cond b (c + 1) c + 2) × (2 * 2 ^ (cond b (c + 1) c + 2) ≤ words)
    by false e = (omega arith, half)
    by true e =
        let more : 2 ^ c < 2 * (keys + 1) = grind (arith, nat_tests) in
        let eight : 2 ^ (c + 3) ≡ 2 ^ c * 2 ^ 3 = pow-add 2 c 3 in
        let low : c + 3 < len = ⊎_elim (λ (l : c + 3 < len). l) (λ (l : len ≤ c + 3). absurd (let up : 2 ^ len ≤ 2 ^ (c + 3) = pow-le-pow_right {n = 2} (omega arith) {i = len} {j = c + 3} l in omega arith)) (cases_lt (c + 3) len) in
        let up : 2 ^ (c + 4) ≤ 2 ^ len = pow-le-pow_right {n = 2} (omega arith) {i = c + 4} {j = len} (omega arith) in
        let sixteen : 2 ^ (c + 4) ≡ 2 ^ c * 2 ^ 4 = pow-add 2 c 4 in
        let three : 2 ^ (c + 1 + 2) ≡ 2 ^ (c + 3) = ap (λ (k : ℕ). 2 ^ k) (let z : c + 1 + 2 ≡ c + 3 = omega arith in z) in
        (omega arith, omega arith)

module _ (F : Type 0) (o : Origin (Signals HtClient)) (u : Update ℕ) where
  abbrev W : Type 0
  W = Writer (Signals HtClient) F

  abbrev n : ℕ
  n = counters_in with_signals o

  -- one try, by the clauses of the call
  pub tried : (w w' : W) (s s' : HtState) (r : Result Reply Need) → MatchResult r (λ reply. w' ≡ record w { token = w'.token; calls = w'.calls; tally = w.tally + 1 }) (λ need. (w' ≡ w) × (s' ≡ s))
      → w'.calls ≤ w.calls + 2 → table w'.token ≡ table w.token → IfOk r (λ reply. reply ≡ (step nat_cmp most (map_after (knows with_signals o w.token).log) u).1)
      → IfOk r (λ reply. (knows with_signals o w'.token).log ≡ (knows with_signals o w.token).log ++ record { update = u; reply = reply } ∷ [])
      → IfOk r (λ reply. (p : WriterState) → WriterIs with_signals o w.token p → (es : List Entry) × AreUpdating (lies with_signals o) p u es × (w'.token ≡ adding w.token es))
      → IfOk r (λ reply. MayAddRegion n 0 (unreturned (state w.token) w.waiting) (unreturned (state w'.token) w'.waiting))
      → IfOk r (λ reply. (log_of s'.root ≡ log_of s.root) ⊎ AddsRegion n 0 (unreturned (state w.token) w.waiting) (unreturned (state w'.token) w'.waiting))
      → IfErr r (λ need. (p : WriterState) → WriterIs with_signals o w.token p → IsDue (lies with_signals o) p u × HasNoneFree s.arena (due_log (lies with_signals o) p u))
      → Ready with_signals o w' s' → MatchResult r (λ reply. IsMade o u w s reply w' s') (λ need. IsRefused o u w s w' s')
  tried w w' s s' (Ok reply) same calls tables reply_is log steps items region due ready = record { same = same; calls = calls; same_table = tables; reply_is = reply_is; log = log; steps = steps; items = items; region = region; ready = ready }
  tried w w' s s' (Err need) same calls tables reply_is log steps items region due ready = record { same = same; due = due }

  -- what isn't given back is pending
  are_pending : (w : W) (s : HtState) → IsWriterReady o w s → unreturned (state w.token) w.waiting ≡ queue (state w.token).pending
  are_pending w s r = ap (unreturned (state w.token)) r.given ∙ none_waits (state w.token)

  as_long : (t : TokenState) → length (queue t.pending) ≡ length t.pending
  as_long t = length-map t.pending (λ (k : Retirement). k.retired)

  module _ (w : W) (s : HtState) (r : IsWriterReady o w s) where
    root_is : (p : WriterState) → WriterIs with_signals o w.token p → s.root ≡ p.root
    root_is p is = sym r.ready.lists.reflects.root ∙ ap (λ (q : WriterState). q.root) (same_writer with_signals is_within o w.token s r.ready.lists p is)

    -- a try that is refused
    pub is_wanting : (w' : W) (s' : HtState) → ArePiecesApart s.arena → IsRefused o u w s w' s' → (p : WriterState) → WriterIs with_signals o w.token p → IsWanting o u p w.token
    is_wanting w' s' apart refused p is =
        let due = refused.due p is in
        let used : AreAllInUse n s.root (unreturned (state w.token) w.waiting) (due_log (lies with_signals o) p u) = all_in_use n s.root s.arena apart (unreturned (state w.token) w.waiting) (due_log (lies with_signals o) p u) r.ready.arena due.1 in
        let pending = are_pending w s r in
        (due.0, subst (λ (x : ℕ × List Retired). AreAllInUse n x.0 x.1 (due_log (lies with_signals o) p u)) (λ i. (root_is p is i, pending i)) used)

    module _ (reply : Reply) (w' : W) (s' : HtState) (m : IsMade o u w s reply w' s') where
      abbrev before : List Retired
      before = unreturned (state w.token) w.waiting

      abbrev after : List Retired
      after = unreturned (state w'.token) w'.waiting

      -- the writer is between two updates again
      pub ready_next : IsKeyed u → ArePiecesApart s'.arena → IsWriterReady o w' s'
      ready_next keyed apart = record {
        ready = m.ready;
        own = ⊎_elim (λ e. subst (AreTableItems n 0) (sym e) r.own) (λ k. subst (AreTableItems n 0) (sym k.2) (All-append (λ (j : Retired). IsTableItem n 0 j.item) before (k.0 ∷ []) r.own (All-cons (λ (j : Retired). IsTableItem n 0 j.item) k.0 [] k.1 (All-nil (λ (j : Retired). IsTableItem n 0 j.item))))) m.items;
        given = ap (λ (x : W). x.waiting) m.same ∙ r.given;
        room = subst (λ (k : ℕ). n ≤ k) (sym (ap (λ (x : W). x.room) m.same)) r.room;
        half = ⊎_elim (λ e. subst (λ (c : ℕ). 2 * 2 ^ (c + 2) ≤ arena_words n) (sym e) r.half) (λ k. halved k.0 k.1 k.2) m.region;
        keys = keyed_next (knows with_signals o w.token).log (knows with_signals o w'.token).log (record { update = u; reply = reply }) m.log keyed r.keys;
      }
        where
          halved : (k : Retired) → IsTableItem n 0 k.item → after ≡ before ++ k ∷ [] → 2 * 2 ^ (log_of s'.root + 2) ≤ arena_words n
          halved k mine e =
              let Out : Retired → Type 0 = λ (j : Retired). IsTableItem n 0 j.item → IsPieceOut s'.arena (retired_piece 0 j) × (retired_piece 0 j ≢ region_piece s'.root) in
              let out = All-contains Out (before ++ k ∷ []) k (subst (λ (js : List Retired). All Out js) e m.ready.arena.pieces.retired) (Contains-push before k) mine in
              half_beside n s'.root s'.arena apart (retired_piece 0 k) m.ready.arena.of_table m.ready.arena.pieces.current out.0 out.1

      made_events : hand_events o w'.token ≡ hand_events o w.token ++ Updated u reply ∷ []
      made_events = let st = m.steps r.ready.lists.is_writer r.ready.lists.is in
          updates_are_events o w.token w'.token st.0 (record { update = u; reply = reply } ∷ []) st.2 (update_quiet (lies with_signals o) r.ready.lists.is_writer u st.0 st.1) m.log

      made_pending : length (state w'.token).pending ≤ length (state w.token).pending + 1
      made_pending =
          let now : after ≡ queue (state w'.token).pending = ap (unreturned (state w'.token)) (ap (λ (x : W). x.waiting) m.same ∙ r.given) ∙ none_waits (state w'.token) in
          let then = are_pending w s r in let a = as_long (state w'.token) in let b = as_long (state w.token) in
          ⊎_elim (λ e. let long = ap length (sym now ∙ (e ∙ then)) in omega arith)
          (λ k. let long = ap length (sym now ∙ (k.2 ∙ ap (λ (xs : List Retired). xs ++ k.0 ∷ []) then)) in let one = length-append (queue (state w.token).pending) (k.0 ∷ []) in omega arith) m.items

      -- at the first try
      pub at_once : IsUpdated o u w s reply w' s'
      at_once = record {
        same = m.same;
        calls = (let few = m.calls in omega arith);
        same_table = m.same_table;
        reply_is = m.reply_is;
        log = m.log;
        events = made_events;
        steps = λ p is. let st = m.steps p is in record { middle = w.token; polls = inl refl; entries = st.0; are = st.1; made = st.2 };
        pending = made_pending;
      }

  -- after a poll
  module _ (w : W) (s : HtState) (r : IsWriterReady o w s) (w0 : W) (s0 : HtState) (apart : ArePiecesApart s.arena) (refused : IsRefused o u w s w0 s0) (found : Option Busy) (w1 : W) (s1 : HtState) (h : HasPolled o w s found w1 s1) where
    fewer : length (state w1.token).pending ≤ length (state w.token).pending
    fewer =
        let xs = queue (state w.token).pending in let e = (state w.token).epoch in
        let long = length_permutation xs (dispatched_items e h.answer xs ++ pending_after e h.answer xs) (polled e h.answer xs) in
        let split = length-append (dispatched_items e h.answer xs) (pending_after e h.answer xs) in
        let now = ap length h.pending in let a = as_long (state w1.token) in let b = as_long (state w.token) in omega arith

    pub after_poll : (reply : Reply) (w2 : W) (s2 : HtState) → IsMade o u w1 s1 reply w2 s2 → IsUpdated o u w s reply w2 s2
    after_poll reply w2 s2 m =
        let calls : w1.calls ≡ w.calls + 1 = ap (λ (x : W). x.calls) h.same in record {
          same = m.same ∙ (λ i. record (h.same i) { token = w2.token; calls = w2.calls; tally = (h.same i).tally + 1 });
          calls = (let few = m.calls in omega arith);
          same_table = m.same_table ∙ h.same_table;
          reply_is = m.reply_is ∙ ap (λ (us : List (LogEntry ℕ)). (step nat_cmp most (map_after us) u).1) h.log;
          log = m.log ∙ ap (λ (us : List (LogEntry ℕ)). us ++ record { update = u; reply = reply } ∷ []) h.log;
          events = made_events w1 s1 h.ready reply w2 s2 m ∙ ap (λ es. es ++ Updated u reply ∷ []) h.events;
          steps = λ p is. let st = m.steps p (h.local ∙ is) in record { middle = w1.token; polls = inr (is_wanting w s r w0 s0 apart refused p is, h.answer, h.polls); entries = st.0; are = st.1; made = st.2 };
          pending = (let a = made_pending w1 s1 h.ready reply w2 s2 m in let b = fewer in omega arith);
        }

    some_pending : ((state w1.token).pending ≡ [] → ⊥) → 0 < length (state w1.token).pending
    some_pending some = by (state w1.token).pending refl
      where
        by : (xs : List Retirement) → (state w1.token).pending ≡ xs → 0 < length xs
        by [] e = absurd (some e)
        by (x ∷ xs) e = omega arith

    pub is_busy : (b : Busy) (w2 : W) (s2 : HtState) → ArePiecesApart s1.arena → IsRefused o u w1 s1 w2 s2 → found ≡ Some b → ((state w1.token).pending ≡ [] → ⊥) → IsBusy o u w s b w2 s2
    is_busy b w2 s2 apart1 refused1 is some = subst (λ (x : W × HtState). IsBusy o u w s b x.0 x.1) (λ i. (sym refused1.same.0 i, sym refused1.same.1 i)) record {
      polled = subst (λ (x : Option Busy). HasPolled o w s x w1 s1) is h;
      wanting = λ p at. (is_wanting w s r w0 s0 apart refused p at, is_wanting w1 s1 h.ready w2 s2 apart1 refused1 p (h.local ∙ at));
      pending = some_pending some;
      fewer = fewer;
    }

  -- where nothing is pending, and the arena has room for the map, no try is refused
  module _ (w : W) (s : HtState) (r : IsWriterReady o w s) (writing : IsWriting with_signals.client w.token) (same : origin w.token ≡ o) (apart : ArePiecesApart s.arena)
      (room : u ≢ Tidy → HasRoomFor o.config.client.client.arena_log (length (step nat_cmp most (map_after (knows with_signals o w.token).log) u).0)) (none : (state w.token).pending ≡ []) where
    abbrev l : Layout
    l = lies with_signals o

    abbrev p : WriterState
    p = r.ready.lists.is_writer

    alone : IsKept n 0 s.root [] s.arena
    alone = subst (λ (ks : List Retired). IsKept n 0 s.root ks s.arena) (are_pending w s r ∙ ap queue none) r.ready.arena

    -- a fresh key
    module _ (key value : ℕ) (other : u ≢ Tidy) (is : find nat_cmp (map_after (knows with_signals o w.token).log) key ≡ None → step nat_cmp most (map_after (knows with_signals o w.token).log) u ≡ add nat_cmp most (map_after (knows with_signals o w.token).log) key value) where
      never_refused : IsRebuildDue l p (plan_now l p key) → HasNoneFree s.arena (needed_log l p) → ⊥
      never_refused due free =
          let m : Map ℕ = map_after (knows with_signals o w.token).log in
          let many : keys_now l p ≡ length m = as_many_pairs with_signals is_within o w.token same writing.part writing.first s r.ready.lists in
          let absent : find nat_cmp m key ≡ None = not_found with_signals is_within o w.token same writing.part writing.first s r.ready.lists key due.slot due.fresh in
          let one : length (step nat_cmp most m u).0 ≡ length m + 1 = added_longer m key value u absent (ap (λ (k : ℕ). nat_lt k most) (sym many) ∙ due.room) (is absent) in
          let low : keys_now l p < 262144 = below (keys_now l p) due.room in
          let enough = room other in let long = arena_long o.config.client.client in
          let fits = two_fit (log_of s.root) (keys_now l p) (arena_words n) s.arena.log_len alone.of_table.long r.half (omega arith) in
          let log : rebuilt_log (log_of s.root) (keys_now l p) + 2 ≡ needed_log l p = ap (λ (root : ℕ). rebuilt_log (log_of root) (keys_now l p) + 2) (sym r.ready.lists.reflects.root) in
          one_region_free n s.root s.arena apart (rebuilt_log (log_of s.root) (keys_now l p) + 2) alone fits.0 fits.1 (subst (HasNoneFree s.arena) (sym log) free)
        where
          below : (k : ℕ) → nat_lt k most ≡ true → k < 262144
          below k e = grind (arith, nat_tests)

  never_refused_by : (w : W) (s : HtState) (r : IsWriterReady o w s) → IsWriting with_signals.client w.token → origin w.token ≡ o → ArePiecesApart s.arena
      → (u ≢ Tidy → HasRoomFor o.config.client.client.arena_log (length (step nat_cmp most (map_after (knows with_signals o w.token).log) u).0)) → (state w.token).pending ≡ []
      → (v : Update ℕ) → u ≡ v → IsDue (lies with_signals o) r.ready.lists.is_writer v → HasNoneFree s.arena (due_log (lies with_signals o) r.ready.lists.is_writer v) → ⊥
  never_refused_by w s r writing same apart room none (Set key value) e due free =
      never_refused w s r writing same apart room none key value (λ t. let z : Set key value ≡ Tidy = sym e ∙ t in absurd cc) (λ absent. ap (step nat_cmp most (map_after (knows with_signals o w.token).log)) e ∙ step-Set_absent nat_cmp most (map_after (knows with_signals o w.token).log) key absent value) due free
  never_refused_by w s r writing same apart room none (Put key value) e due free =
      never_refused w s r writing same apart room none key value (λ t. let z : Put key value ≡ Tidy = sym e ∙ t in absurd cc) (λ absent. ap (step nat_cmp most (map_after (knows with_signals o w.token).log)) e ∙ step-Put_absent nat_cmp most (map_after (knows with_signals o w.token).log) key absent value) due free
  never_refused_by w s r writing same apart room none (Del key) e due free = due
  never_refused_by w s r writing same apart room none Tidy e due free =
      one_region_free n s.root s.arena apart (log_of s.root + 2) (alone w s r writing same apart room none) (omega arith) r.half (subst (λ (root : ℕ). HasNoneFree s.arena (log_of root + 2)) r.ready.lists.reflects.root free)

  pub none_refused : (w : W) (s : HtState) (r : IsWriterReady o w s) → IsWriting with_signals.client w.token → origin w.token ≡ o → ArePiecesApart s.arena
      → (u ≢ Tidy → HasRoomFor o.config.client.client.arena_log (length (step nat_cmp most (map_after (knows with_signals o w.token).log) u).0)) → (state w.token).pending ≡ []
      → (w' : W) (s' : HtState) → IsRefused o u w s w' s' → ⊥
  none_refused w s r writing same apart room none w' s' refused = let d = refused.due r.ready.lists.is_writer r.ready.lists.is in never_refused_by w s r writing same apart room none u refl d.0 d.1

  -- no more is pending than there is room for, with one more
  pub few_pending : (w : W) (s : HtState) → IsWriterReady o w s → ArePiecesApart s.arena → length (state w.token).pending + length w.waiting < w.room
  few_pending w s r apart =
      let few = few_regions n s.root s.arena apart (unreturned (state w.token) w.waiting) r.own r.ready.arena in
      let items = ap length (are_pending w s r) in let long = as_long (state w.token) in let none : length w.waiting ≡ 0 = ap length r.given in let room = r.room in
      omega arith

-- a poll that found no record active leaves nothing pending
cleared : (e : ℕ) (answer : Poll) (xs : List Retired) → found_by e answer ≡ None → pending_after e answer xs ≡ []
cleared e (Clear k) xs is = refl
cleared e (Moved k rec) xs is = absurd (let z : Some (record { rec = rec; epoch = e }) ≡ None = is in cc)
cleared e (Blocked k rec epoch) xs is = absurd (let z : Some (record { rec = rec; epoch = epoch }) ≡ None = is in cc)

none_queued : (ks : List Retirement) → queue ks ≡ [] → ks ≡ []
none_queued [] e = refl
none_queued (k ∷ ks) e = absurd cc

pub none_found : (F : Type 0) (o : Origin (Signals HtClient)) (w : Writer (Signals HtClient) F) (s : HtState) (found : Option Busy) (w' : Writer (Signals HtClient) F) (s' : HtState) → HasPolled o w s found w' s' → found ≡ None → (state w'.token).pending ≡ []
none_found F o w s found w' s' h is = none_queued (state w'.token).pending (h.pending ∙ cleared (state w.token).epoch h.answer (queue (state w.token).pending) (sym h.found_is ∙ is))
