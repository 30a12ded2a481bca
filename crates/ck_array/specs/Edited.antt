-- What an edit does, and why a commit answers Busy.
use Rattle.std.specs.Prelude.{◌≡◌, ℕ, ◌+◌, ◌^◌, ◌<◌, ◌≤◌, ◌⊎◌, Option, Some, List, [], ◌∷◌, ◌++◌, length}
use Rattle.ck_run.specs.Tokens.{table, adding}
use Rattle.ck_epoch.specs.declared.answers.Poll.{Poll}
use Rattle.ck_epoch.specs.declared.item.Item.{Item}
use Rattle.ck_epoch.specs.State.{Origin, Token, queue, records_of, state}
use Rattle.ck_epoch.specs.Calls.{Polls, pending_after}
use Rattle.ck_epoch.specs.Ends.{Writer}
use Rattle.ck_signal.specs.declared.signals.Signals.{Signals}
use Rattle.ck_history.specs.declared.edit.Edit.{Edit}
use Rattle.ck_history.specs.declared.edit.Edit.TheVariants.{Commit}
use Rattle.ck_history.specs.declared.edit.EditReply.{EditReply}
use Rattle.ck_history.specs.declared.event.WriterEvent.TheVariants.{Updated}
use Rattle.ck_history.specs.declared.log.Busy.{Busy}
use Rattle.ck_history.specs.Lists.{empty_lists, lists_after_from, list_step}
use Rattle.ck_arena.specs.Arena.{AreAllInUse, HasNoneFree}
use Rattle.ck_arena.specs.Found.{found_by}
use Rattle.ck_arraylaw.specs.declared.client.ArrayClient.{ArrayClient}
use Rattle.ck_arraylaw.specs.declared.client.TheConstants.{ARENA, ARENA_LOG}
use Rattle.ck_arraylaw.specs.Layout.{log_for}
use Rattle.ck_arraylaw.specs.Reached.{with_signals}
use Rattle.ck_arraylaw.specs.Regions.{place_in}
use Rattle.ck_array.specs.declared.state.ArrayState.{ArrayState}
use Rattle.ck_array.specs.Ends.{edits_by, IsWriterReady}
use Rattle.ck_array.specs.Events.{hand_events}
use Rattle.ck_array.specs.Writes.{commit_entries, region_piece}

module _ (o : Origin (Signals ArrayClient)) where
  -- the pending list after the edits that were answered
  abbrev pub pending_by : Token (Signals ArrayClient) → List ℕ
  pending_by t = (lists_after_from empty_lists (edits_by o t)).pending

  -- no region of the length that a commit takes is free: all have a word of the present region or of a pending item
  abbrev pub IsWanting : Item → Token (Signals ArrayClient) → Type 0
  IsWanting present t = AreAllInUse ARENA (2 ^ ARENA_LOG) (place_in with_signals o) (region_piece present) (queue (state t).pending) (log_for (length (pending_by t)))

  -- From t to v the commit replaced one region by another. Where no region of the length that it takes was free, a poll came first
  pub record MakesCommit (present region : Item) (t v : Token (Signals ArrayClient)) : Type 0 where
    pub middle : Token (Signals ArrayClient)
    pub polls : (middle ≡ t) ⊎ (IsWanting present t × (answer : Poll) × Polls (records_of o) (state t).epoch t answer middle)
    pub epoch : ℕ
    pub made : v ≡ adding middle (commit_entries with_signals o (pending_by t) region present epoch)

  module _ {F : Type 0} (w : Writer (Signals ArrayClient) F) (s : ArrayState) where
    -- the edit was made and answered
    pub record IsEdited (e : Edit) (reply : EditReply) (w' : Writer (Signals ArrayClient) F) (s' : ArrayState) : Type 0 where
      pub same : w' ≡ record w { token = w'.token; calls = w'.calls; tally = w.tally + 1 }
      pub calls : w'.calls ≤ w.calls + 3
      pub same_table : table w'.token ≡ table w.token
      pub reply_is : reply ≡ (list_step (lists_after_from empty_lists (edits_by o w.token)) e).1
      pub log : edits_by o w'.token ≡ edits_by o w.token ++ e ∷ []
      pub events : hand_events o w'.token ≡ hand_events o w.token ++ Updated e reply ∷ []
      pub pending : length (state w'.token).pending ≤ length (state w.token).pending + 1
      pub ready : IsWriterReady o w' s'

    -- one try of a commit made it ..
    pub record IsMade (reply : EditReply) (w' : Writer (Signals ArrayClient) F) (s' : ArrayState) : Type 0 where
      pub edited : IsEdited Commit reply w' s'
      pub fewer_calls : w'.calls ≤ w.calls + 2
      pub epoch : ℕ
      pub made : w'.token ≡ adding w.token (commit_entries with_signals o (pending_by w.token) s'.region s.region epoch)

    -- .. or it changed nothing, since no region of the length that it takes is free
    pub record IsRefused (w' : Writer (Signals ArrayClient) F) (s' : ArrayState) : Type 0 where
      pub same : (w' ≡ w) × (s' ≡ s)
      pub none : HasNoneFree s.arena (log_for (length (pending_by w.token)))

    -- One poll was made, and each answer that waits given back
    pub record HasPolled (found : Option Busy) (w' : Writer (Signals ArrayClient) F) (s' : ArrayState) : Type 0 where
      pub same : w' ≡ record w { token = w'.token; calls = w.calls + 1 }
      pub same_table : table w'.token ≡ table w.token
      pub lists : s' ≡ record s { arena = s'.arena }
      pub log : edits_by o w'.token ≡ edits_by o w.token
      pub events : hand_events o w'.token ≡ hand_events o w.token
      pub answer : Poll
      pub polls : Polls (records_of o) (state w.token).epoch w.token answer w'.token
      pub found_is : found ≡ found_by (state w.token).epoch answer
      pub pending : queue (state w'.token).pending ≡ pending_after (state w.token).epoch answer (queue (state w.token).pending)
      pub ready : IsWriterReady o w' s'

    -- the commit was made and answered, by one try or by two
    pub record IsCommitted (reply : EditReply) (w' : Writer (Signals ArrayClient) F) (s' : ArrayState) : Type 0 where
      pub edited : IsEdited Commit reply w' s'
      pub steps : MakesCommit s.region s'.region w.token w'.token

    -- Why a commit is refused: one poll was made, which loaded this record active with this epoch, and then, with every answer given back, no
    -- region of the length that it takes was free. Nothing else was done
    pub record IsBusy (b : Busy) (w' : Writer (Signals ArrayClient) F) (s' : ArrayState) : Type 0 where
      pub polled : HasPolled (Some b) w' s'
      pub wanting : IsWanting s.region w.token × IsWanting s.region w'.token
      pub pending : 0 < length (state w'.token).pending
      pub fewer : length (state w'.token).pending ≤ length (state w.token).pending
