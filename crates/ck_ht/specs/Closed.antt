-- What is known of a table when it is closed.
use Rattle.std.specs.Prelude.{◌≡◌, ℕ, ◌*◌, ◌≤◌, List, drop, length, slice_index, All}
use Rattle.std.specs.Ordering.{nat_cmp}
use Rattle.ck_run.specs.Run.{Run, replay, account}
use Rattle.ck_run.specs.Tokens.{origin, number, did}
use Rattle.ck_epoch.specs.State.{Token, base_of}
use Rattle.ck_epoch.specs.Calls.{rec_of}
use Rattle.ck_epoch.specs.Ends.{Pass}
use Rattle.ck_epoch.specs.Epochs.{IsSafe, KeepsEpochs}
use Rattle.ck_signal.specs.declared.signals.Signals.{Signals}
use Rattle.ck_history.specs.declared.log.LogEntry.{LogEntry}
use Rattle.ck_history.specs.Map.{Map, find, answer_after}
use Rattle.ck_history.specs.Places.{ArePlacedAt, AreBoundedFrom}
use Rattle.ck_slots.specs.Standing.{single, StandFor}
use Rattle.ck_events.specs.Places.{places_from}
use Rattle.ck_htlaw.specs.declared.client.HtClient.{HtClient}
use Rattle.ck_htlaw.specs.Actions.{most}
use Rattle.ck_htlaw.specs.Client.{orders_of}
use Rattle.ck_htlaw.specs.Known.{knows}
use Rattle.ck_htlaw.specs.Law.{IsTableRun, updates_in, retries_of}
use Rattle.ck_htlaw.specs.Layout.{layout, counters_of}
use Rattle.ck_htlaw.specs.Linearized.{AreReplies, map_after, updates}
use Rattle.ck_htlaw.specs.Reached.{with_signals}
use Rattle.ck_htlaw.specs.Table.{view}
use Rattle.ck_htread.specs.Answered.{HavePlaces, looks_in}
use Rattle.ck_ht.specs.Events.{Reading, IsLogOf, pass_events, hand_events}

-- The words of a table, from its first one on, stand for this map
abbrev pub TableStandsFor : HtClient → List ℕ → Map ℕ → Type 0
TableStandsFor client words m = let l = layout 0 0 (counters_of client) (orders_of client) in let root = slice_index words 0 in StandFor (l.order root) (view l words root) single (λ k. find nat_cmp m k)

-- The answers among a pass's events are those of the map after as many updates of the log as their places say
abbrev pub ArePlacedInLog : List (LogEntry ℕ) → Reading → List ℕ → Type 0
ArePlacedInLog log events places = ArePlacedAt (length log) (answer_after nat_cmp most (updates log)) 0 events places

-- The accounts of the writer and of these passes are the parts of one true run, which is safe and leaves these words. The words of the present
-- region stand for the map after the writer's log, whose replies are those of one thread. The answers of each reader have places, which bear
-- out what `reached` told it and what `answered` told the writer. Each pass has met at most twice as many looks to be made again as the log has updates
pub record IsClosedTable (w : Token (Signals HtClient)) (ps : List (Pass (Signals HtClient))) (words : List ℕ) : Type 0 where
  pub run : Run
  pub is_run : IsTableRun with_signals (origin w) run
  pub writer : account 0 run ≡ did w
  pub passes : All (λ (p : Pass (Signals HtClient)). (origin p.token ≡ origin w) × (account (number p.token) run ≡ did p.token)) ps
  pub leaves : words ≡ drop (base_of (origin w)) (replay (origin w).words run)
  pub safe : IsSafe (origin w) run
  pub epochs : KeepsEpochs (origin w) run
  pub log : updates_in with_signals (origin w) run ≡ (knows with_signals (origin w) w).log
  pub stand : TableStandsFor (origin w).config.client.client words (map_after (knows with_signals (origin w) w).log)
  pub replies : AreReplies (knows with_signals (origin w) w).log
  -- the log is that of the writer's events
  pub logged : IsLogOf (hand_events (origin w) w) (knows with_signals (origin w) w).log
  -- the place of the answer of the reader r with the number i, from 0, and the list of the reader's places
  pub place : ℕ → ℕ → ℕ
  pub have_places : (r : ℕ) → HavePlaces with_signals (origin w) run r (place r)
  pub places : ℕ → List ℕ
  pub listed : (r : ℕ) → places r ≡ places_from (place r) 0 (length (looks_in with_signals (origin w) run r))
  pub placed : All (λ (p : Pass (Signals HtClient)). ArePlacedInLog (knows with_signals (origin w) w).log (pass_events (origin w) p.token) (places (rec_of p.token))) ps
  pub bounded : AreBoundedFrom places 0 (hand_events (origin w) w)
  pub retries : All (λ (p : Pass (Signals HtClient)). retries_of (knows with_signals (origin w) p.token).local ≤ 2 * length (knows with_signals (origin w) w).log) ps
