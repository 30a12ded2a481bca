-- What is known of an array when it is closed.
use Rattle.std.specs.Prelude.{◌≡◌, ℕ, List, drop, length, slice_index, All}
use Rattle.ck_run.specs.Run.{Run, replay, account}
use Rattle.ck_run.specs.Tokens.{origin, number, did}
use Rattle.ck_history.specs.declared.edit.Edit.{Edit}
use Rattle.ck_history.specs.Lists.{empty_lists, lists_after_from, committed_after}
use Rattle.ck_history.specs.Places.{ArePlacedAt, AreBoundedFrom}
use Rattle.ck_epoch.specs.declared.item.Item.{Item}
use Rattle.ck_epoch.specs.State.{Token, base_of}
use Rattle.ck_epoch.specs.Calls.{rec_of}
use Rattle.ck_epoch.specs.Ends.{Pass}
use Rattle.ck_epoch.specs.Epochs.{IsSafe, KeepsEpochs}
use Rattle.ck_signal.specs.declared.signals.Signals.{Signals}
use Rattle.ck_events.specs.Places.{places_from}
use Rattle.ck_arraylaw.specs.declared.client.ArrayClient.{ArrayClient}
use Rattle.ck_arraylaw.specs.Layout.{IsRegion, HoldsList}
use Rattle.ck_arraylaw.specs.Law.{IsArrayRun, edits_in}
use Rattle.ck_arraylaw.specs.Reached.{with_signals}
use Rattle.ck_array.specs.Answered.{answers_in, HavePlaces}
use Rattle.ck_array.specs.Ends.{edits_by}
use Rattle.ck_array.specs.Events.{Reading, IsLogOf, pass_events, hand_events}

-- The words of an array, from its first one on, stand for this list: the root names a region that has it
pub record ArrayStandsFor (words members : List ℕ) : Type 0 where
  pub region : Item
  pub root : slice_index words 0 ≡ region.at
  pub inside : IsRegion region
  pub list : HoldsList 0 words region members

-- The answers among a pass's events are the lists that were committed after as many edits of the log as their places say
abbrev pub ArePlacedInLog : List Edit → Reading → List ℕ → Type 0
ArePlacedInLog log events places = ArePlacedAt (length log) (λ p q. committed_after log p) 0 events places

-- The accounts of the writer and of these passes are the parts of one true run, which is safe and leaves these words. They stand for the list that is
-- committed after the writer's log, whose replies are those of one thread. The answers of each reader have places, which bear out what `reached` told
-- it and what `answered` told the writer
pub record IsClosedArray (w : Token (Signals ArrayClient)) (ps : List (Pass (Signals ArrayClient))) (words : List ℕ) : Type 0 where
  pub run : Run
  pub is_run : IsArrayRun with_signals (origin w) run
  pub writer : account 0 run ≡ did w
  pub passes : All (λ (p : Pass (Signals ArrayClient)). (origin p.token ≡ origin w) × (account (number p.token) run ≡ did p.token)) ps
  pub leaves : words ≡ drop (base_of (origin w)) (replay (origin w).words run)
  pub safe : IsSafe (origin w) run
  pub epochs : KeepsEpochs (origin w) run
  pub log : edits_in with_signals (origin w) run ≡ edits_by (origin w) w
  pub stand : ArrayStandsFor words (lists_after_from empty_lists (edits_by (origin w) w)).committed
  -- the log is that of the writer's events
  pub logged : IsLogOf (hand_events (origin w) w) (edits_by (origin w) w)
  -- the place of the answer of the reader r with the number i, from 0, and the list of the reader's places
  pub place : ℕ → ℕ → ℕ
  pub have_places : (r : ℕ) → HavePlaces with_signals (origin w) run r (place r)
  pub places : ℕ → List ℕ
  pub listed : (r : ℕ) → places r ≡ places_from (place r) 0 (length (answers_in with_signals (origin w) run r))
  pub placed : All (λ (p : Pass (Signals ArrayClient)). ArePlacedInLog (edits_by (origin w) w) (pass_events (origin w) p.token) (places (rec_of p.token))) ps
  pub bounded : AreBoundedFrom places 0 (hand_events (origin w) w)
