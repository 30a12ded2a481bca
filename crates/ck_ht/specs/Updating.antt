-- What an update that may rebuild the map does, and why it answers Busy.
use Rattle.std.specs.Prelude.{◌≡◌, ℕ, ◌+◌, ◌<◌, ◌≤◌, ◌⊎◌, Option, Some, List, [], ◌∷◌, ◌++◌, length}
use Rattle.std.specs.Ordering.{nat_cmp}
use Rattle.ck_run.specs.declared.account.Entry.{Entry}
use Rattle.ck_run.specs.declared.account.Step.{Step}
use Rattle.ck_run.specs.Tokens.{table, adding}
use Rattle.ck_epoch.specs.declared.answers.Poll.{Poll}
use Rattle.ck_epoch.specs.declared.item.Retired.{Retired}
use Rattle.ck_epoch.specs.State.{Origin, Token, queue, records_of, state}
use Rattle.ck_epoch.specs.Calls.{Polls, pending_after}
use Rattle.ck_epoch.specs.Ends.{Writer}
use Rattle.ck_signal.specs.declared.signals.Signals.{Signals}
use Rattle.ck_history.specs.declared.log.Busy.{Busy}
use Rattle.ck_history.specs.declared.update.Reply.{Reply}
use Rattle.ck_history.specs.declared.update.Update.{Update}
use Rattle.ck_history.specs.declared.update.Update.TheVariants.{Set, Put, Del, Tidy}
use Rattle.ck_history.specs.declared.event.WriterEvent.TheVariants.{Updated}
use Rattle.ck_history.specs.Key.{IsKey}
use Rattle.ck_history.specs.Map.{step}
use Rattle.ck_htlaw.specs.declared.client.HtClient.{HtClient}
use Rattle.ck_htlaw.specs.Actions.{most, plan_now, tombstones_now}
use Rattle.ck_htlaw.specs.Calls.{set, put, remove, tidy}
use Rattle.ck_htlaw.specs.Host.{lies}
use Rattle.ck_htlaw.specs.Known.{knows}
use Rattle.ck_htlaw.specs.Layout.{arena, arena_words, log_of}
use Rattle.ck_htlaw.specs.Linearized.{map_after}
use Rattle.ck_htlaw.specs.Reached.{with_signals}
use Rattle.ck_htlaw.specs.Table.{Layout, WriterState}
use Rattle.ck_htwrite.specs.declared.state.HtState.{HtState}
use Rattle.ck_arena.specs.Arena.{unreturned, AreAllInUse as InUse, HasNoneFree}
use Rattle.ck_arena.specs.Found.{found_by}
use Rattle.ck_htwrite.specs.Arena.{region_piece, AddsRegion, MayAddRegion}
use Rattle.ck_htwrite.specs.Rebuild.{AreTidying}
use Rattle.ck_htwrite.specs.State.{Ready}
use Rattle.ck_htwrite.specs.Updates.{SetSteps, PutSteps, RemoveSteps, IsRebuildDue, Makes, needed_log}
use Rattle.ck_htwrite.specs.Writes.{WriterIs, counters_in, opened}
use Rattle.ck_ht.specs.Events.{hand_events}
use Rattle.ck_ht.specs.Ends.{IsWriterReady}

-- each range of 2 ^ log words of the arena, at a multiple of it from the arena's start, has a word of the region of this root or of one of these items
abbrev pub AreAllInUse : ℕ → ℕ → List Retired → ℕ → Type 0
AreAllInUse counters root items log = InUse (arena counters) (arena_words counters) 0 (region_piece root) items log

-- the key of the update, if it adds one, is a key
abbrev pub IsKeyed : Update ℕ → Type 0
IsKeyed (Set key value) = IsKey key
IsKeyed (Put key value) = IsKey key
IsKeyed u = Unit {0}

-- the update may rebuild the map
abbrev pub MayRebuild : Update ℕ → Type 0
MayRebuild (Del key) = ⊥
MayRebuild u = Unit {0}

module _ (l : Layout) (p : WriterState) where
  -- a rebuild is due for the update, as the words are that the writer's stores left
  abbrev pub IsDue : Update ℕ → Type 0
  IsDue (Set key value) = IsRebuildDue l p (plan_now l p key)
  IsDue (Put key value) = IsRebuildDue l p (plan_now l p key)
  IsDue (Del key) = ⊥
  IsDue Tidy = 0 < tombstones_now l p

  -- and this is the length of the region that it takes then, as a logarithm
  abbrev pub due_log : Update ℕ → ℕ
  due_log Tidy = log_of p.root + 2
  due_log u = needed_log l p

  -- the steps of the update
  abbrev pub AreUpdating : Update ℕ → List Entry → Type 0
  AreUpdating (Set key value) es = Makes l p (SetSteps l p key value (plan_now l p key)) (plan_now l p key) (set ∷ key ∷ value ∷ []) key value es
  AreUpdating (Put key value) es = Makes l p (PutSteps l p key value (plan_now l p key)) (plan_now l p key) (put ∷ key ∷ value ∷ []) key value es
  AreUpdating (Del key) es = (ss : List Step) × RemoveSteps l p (plan_now l p key) ss × (es ≡ opened (remove ∷ key ∷ []) ss)
  AreUpdating Tidy es = (root : ℕ) × AreTidying l (tidy ∷ []) (tombstones_now l p) p.root root es

-- One poll was made, and each answer that waits given back
pub record HasPolled {F : Type 0} (o : Origin (Signals HtClient)) (w : Writer (Signals HtClient) F) (s : HtState) (found : Option Busy) (w' : Writer (Signals HtClient) F) (s' : HtState) : Type 0 where
  pub same : w' ≡ record w { token = w'.token; calls = w.calls + 1 }
  pub same_table : table w'.token ≡ table w.token
  pub lists : s' ≡ record s { arena = s'.arena }
  pub local : (knows with_signals o w'.token).local ≡ (knows with_signals o w.token).local
  pub log : (knows with_signals o w'.token).log ≡ (knows with_signals o w.token).log
  pub events : hand_events o w'.token ≡ hand_events o w.token
  pub answer : Poll
  pub polls : Polls (records_of o) (state w.token).epoch w.token answer w'.token
  pub found_is : found ≡ found_by (state w.token).epoch answer
  pub pending : queue (state w'.token).pending ≡ pending_after (state w.token).epoch answer (queue (state w.token).pending)
  pub ready : IsWriterReady o w' s'

module _ (o : Origin (Signals HtClient)) (u : Update ℕ) where
  -- a rebuild is due, and the arena has no region for it
  abbrev pub IsWanting : WriterState → Token (Signals HtClient) → Type 0
  IsWanting p t = IsDue (lies with_signals o) p u × AreAllInUse (counters_in with_signals o) p.root (queue (state t).pending) (due_log (lies with_signals o) p u)

  -- From t to v the writer that stood there made the update. Where a rebuild was due and the arena had no region for it, a poll came first
  pub record MakesUpdate (p : WriterState) (t v : Token (Signals HtClient)) : Type 0 where
    pub middle : Token (Signals HtClient)
    pub polls : (middle ≡ t) ⊎ (IsWanting p t × (answer : Poll) × Polls (records_of o) (state t).epoch t answer middle)
    pub entries : List Entry
    pub are : AreUpdating (lies with_signals o) p u entries
    pub made : v ≡ adding middle entries

  module _ {F : Type 0} (w : Writer (Signals HtClient) F) (s : HtState) where
    -- The update was made and answered
    pub record IsUpdated (reply : Reply) (w' : Writer (Signals HtClient) F) (s' : HtState) : Type 0 where
      pub same : w' ≡ record w { token = w'.token; calls = w'.calls; tally = w.tally + 1 }
      pub calls : w'.calls ≤ w.calls + 3
      pub same_table : table w'.token ≡ table w.token
      pub reply_is : reply ≡ (step nat_cmp most (map_after (knows with_signals o w.token).log) u).1
      pub log : (knows with_signals o w'.token).log ≡ (knows with_signals o w.token).log ++ record { update = u; reply = reply } ∷ []
      pub events : hand_events o w'.token ≡ hand_events o w.token ++ Updated u reply ∷ []
      pub steps : (p : WriterState) → WriterIs with_signals o w.token p → MakesUpdate p w.token w'.token
      pub pending : length (state w'.token).pending ≤ length (state w.token).pending + 1

    -- Why the update is refused: one poll was made, which loaded this record active with this epoch, and then, with every answer given back, a
    -- rebuild was due and the arena had no region for it. Nothing else was done
    pub record IsBusy (b : Busy) (w' : Writer (Signals HtClient) F) (s' : HtState) : Type 0 where
      pub polled : HasPolled o w s (Some b) w' s'
      pub wanting : (p : WriterState) → WriterIs with_signals o w.token p → IsWanting p w.token × IsWanting p w'.token
      pub pending : 0 < length (state w'.token).pending
      pub fewer : length (state w'.token).pending ≤ length (state w.token).pending

    -- One try made the update ..
    pub record IsMade (reply : Reply) (w' : Writer (Signals HtClient) F) (s' : HtState) : Type 0 where
      pub same : w' ≡ record w { token = w'.token; calls = w'.calls; tally = w.tally + 1 }
      pub calls : w'.calls ≤ w.calls + 2
      pub same_table : table w'.token ≡ table w.token
      pub reply_is : reply ≡ (step nat_cmp most (map_after (knows with_signals o w.token).log) u).1
      pub log : (knows with_signals o w'.token).log ≡ (knows with_signals o w.token).log ++ record { update = u; reply = reply } ∷ []
      pub steps : (p : WriterState) → WriterIs with_signals o w.token p → (es : List Entry) × AreUpdating (lies with_signals o) p u es × (w'.token ≡ adding w.token es)
      pub items : MayAddRegion (counters_in with_signals o) 0 (unreturned (state w.token) w.waiting) (unreturned (state w'.token) w'.waiting)
      pub region : (log_of s'.root ≡ log_of s.root) ⊎ AddsRegion (counters_in with_signals o) 0 (unreturned (state w.token) w.waiting) (unreturned (state w'.token) w'.waiting)
      pub ready : Ready with_signals o w' s'

    -- .. or it changed nothing, since a rebuild is due and no region of that length is free
    pub record IsRefused (w' : Writer (Signals HtClient) F) (s' : HtState) : Type 0 where
      pub same : (w' ≡ w) × (s' ≡ s)
      pub due : (p : WriterState) → WriterIs with_signals o w.token p → IsDue (lies with_signals o) p u × HasNoneFree s.arena (due_log (lies with_signals o) p u)
