-- What was done with the tokens of a table with signals, in order, read off their accounts.
use Rattle.std.specs.Prelude.{◌≡◌, ℕ, Bool, true, false, List, [], map, Option}
use Rattle.ck_history.specs.declared.event.WriterEvent.{WriterEvent}
use Rattle.ck_history.specs.declared.event.ReaderEvent.{ReaderEvent}
use Rattle.ck_history.specs.declared.log.LogEntry.{LogEntry}
use Rattle.ck_history.specs.Events.{updates_in, replies_in}
use Rattle.ck_history.specs.declared.update.Update.{Update}
use Rattle.ck_history.specs.declared.update.Reply.{Reply}
use Rattle.ck_epoch.specs.State.{Origin, Token}
use Rattle.ck_signal.specs.declared.signals.Signals.{Signals}
use Rattle.ck_events.specs.Events.{Structure, events_of_pass, events_of_hand}
use Rattle.ck_htlaw.specs.declared.client.HtClient.{HtClient}
use Rattle.ck_htlaw.specs.Client.{Answers, table, answers_next, answers_after}
use Rattle.ck_htlaw.specs.Host.{lies}
use Rattle.ck_htlaw.specs.Law.{look_state_of}
use Rattle.ck_htlaw.specs.Look.{LookState, no_look}
use Rattle.ck_htlaw.specs.Reached.{with_signals}
use Rattle.ck_htlaw.specs.Stages.{Stage, idle}
use Rattle.ck_htlaw.specs.Table.{LocalState, writer, reader}

abbrev pub Reading : Type 0
Reading = List (ReaderEvent ℕ (Option ℕ))

abbrev pub Writing : Type 0
Writing = List (WriterEvent (Update ℕ) Reply)

-- the updates among these events, with their replies, are those of this log
abbrev pub IsLogOf : Writing → List (LogEntry ℕ) → Type 0
IsLogOf events log = (updates_in events ≡ map (λ (e : LogEntry ℕ). e.update) log) × (replies_in events ≡ map (λ (e : LogEntry ℕ). e.reply) log)

-- a reader between two looks, and a writer between two updates
abbrev pub is_no_look : LookState → Bool
is_no_look no_look = true
is_no_look look_state = false

abbrev pub is_idle_stage : Stage → Bool
is_idle_stage idle = true
is_idle_stage stage = false

abbrev pub is_idle_writer : LocalState → Bool
is_idle_writer (writer p) = is_idle_stage p.stage
is_idle_writer (reader y) = false

-- an update with its reply
abbrev pub replied : LogEntry ℕ → Update ℕ × Reply
replied e = (e.update, e.reply)

module _ (o : Origin (Signals HtClient)) where
  -- what is known of a table's tokens, step by step
  abbrev pub known : Structure Answers ℕ (Option ℕ) (Update ℕ) Reply
  known = record {
    start = λ n. answers_after (lies with_signals o) o.words n [];
    next = answers_next (lies with_signals o);
    answers = λ a. a.looks;
    log = λ a. map replied a.log;
    is_out = λ a. is_no_look (look_state_of a.local);
    is_idle = λ a. is_idle_writer a.local;
  }

  -- what was done with a pass: its answered looks, and each `reached` with its result
  abbrev pub pass_events : Token (Signals HtClient) → Reading
  pass_events t = events_of_pass table o known t

  -- what was done with a writer: its answered updates, and what each `answered` told
  abbrev pub hand_events : Token (Signals HtClient) → Writing
  hand_events t = events_of_hand table o known t
