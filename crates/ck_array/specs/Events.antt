-- What was done with the tokens of an array with signals, in order, read off their accounts.
use Rattle.std.specs.Prelude.{◌≡◌, ℕ, Bool, true, false, List, map}
use Rattle.ck_history.specs.declared.edit.Edit.{Edit}
use Rattle.ck_history.specs.declared.edit.EditReply.{EditReply}
use Rattle.ck_history.specs.declared.event.WriterEvent.{WriterEvent}
use Rattle.ck_history.specs.declared.event.ReaderEvent.{ReaderEvent}
use Rattle.ck_history.specs.Events.{updates_in, replies_in}
use Rattle.ck_history.specs.Lists.{edit_replies}
use Rattle.ck_epoch.specs.State.{Origin, Token}
use Rattle.ck_signal.specs.declared.signals.Signals.{Signals}
use Rattle.ck_events.specs.Events.{Structure, events_of_pass, events_of_hand}
use Rattle.ck_arraylaw.specs.declared.client.ArrayClient.{ArrayClient}
use Rattle.ck_arraylaw.specs.Array.{CommitStage, between_calls, ReadStage, no_read, LocalState, writer, reader, array_next}
use Rattle.ck_arraylaw.specs.Client.{array, array_start, logged, answers_of, replied}
use Rattle.ck_arraylaw.specs.Host.{floor_word, base_word}
use Rattle.ck_arraylaw.specs.Law.{read_stage_of}
use Rattle.ck_arraylaw.specs.Reached.{with_signals}

-- a reader asks for the whole list, so its queries say nothing more
abbrev pub Reading : Type 0
Reading = List (ReaderEvent (Unit {0}) (List ℕ))

abbrev pub Writing : Type 0
Writing = List (WriterEvent Edit EditReply)

-- the edits among these events are this log, with the replies of one thread
abbrev pub IsLogOf : Writing → List Edit → Type 0
IsLogOf events log = (updates_in events ≡ log) × (replies_in events ≡ edit_replies log)

-- a reader between two calls, and a writer between two edits
abbrev pub is_no_read : ReadStage → Bool
is_no_read no_read = true
is_no_read stage = false

abbrev pub is_between : CommitStage → Bool
is_between between_calls = true
is_between stage = false

abbrev pub is_idle_writer : LocalState → Bool
is_idle_writer (writer p) = is_between p.stage
is_idle_writer (reader y) = false

-- a list that was answered
abbrev pub answer_of : List ℕ → Unit {0} × List ℕ
answer_of members = (tt, members)

module _ (o : Origin (Signals ArrayClient)) where
  -- what is known of an array's tokens, step by step
  abbrev pub known : Structure LocalState (Unit {0}) (List ℕ) Edit EditReply
  known = record {
    start = array_start;
    next = array_next (floor_word with_signals o) (base_word with_signals o);
    answers = λ h. map answer_of (answers_of h);
    log = λ h. replied (logged h);
    is_out = λ h. is_no_read (read_stage_of h);
    is_idle = is_idle_writer;
  }

  -- what was done with a pass: its answered reads, and each `reached` with its result
  abbrev pub pass_events : Token (Signals ArrayClient) → Reading
  pass_events t = events_of_pass array o known t

  -- what was done with a writer: its answered edits, and what each `answered` told
  abbrev pub hand_events : Token (Signals ArrayClient) → Writing
  hand_events t = events_of_hand array o known t
