-- What was done with the tokens of a structure with signals, in order, read off their accounts.
use Rattle.std.specs.Prelude.{ℕ, cond, ◌==◌, ◌&&◌, nat_le, nat_lt, Bool, true, List, [], ◌∷◌, ◌++◌, drop, length, Result, Ok, Err}
use Rattle.ck_run.specs.declared.account.Step.{Step}
use Rattle.ck_run.specs.declared.account.Step.TheVariants.{Load}
use Rattle.ck_run.specs.declared.account.Entry.{Entry}
use Rattle.ck_run.specs.Tokens.{number, did}
use Rattle.ck_epoch.specs.State.{Origin, Token}
use Rattle.ck_epoch.specs.Client.{Client}
use Rattle.ck_signal.specs.declared.signals.Signals.{Signals}
use Rattle.ck_signal.specs.Words.{reached, answered}
use Rattle.ck_signal.specs.Signals.{readers}
use Rattle.ck_signal.specs.Told.{applied_word_of, answered_word_of}
use Rattle.ck_history.specs.declared.event.WriterEvent.{WriterEvent}
use Rattle.ck_history.specs.declared.event.WriterEvent.TheVariants.{Updated, Told}
use Rattle.ck_history.specs.declared.event.ReaderEvent.{ReaderEvent}
use Rattle.ck_history.specs.declared.event.ReaderEvent.TheVariants.{Answered, Reached}

-- What is known of a structure's tokens: `S` is what is known of one
pub record Structure (S Q A U R : Type 0) : Type 0 where
  -- of the token with this number before its first step, and of a token after one more step
  pub start : ℕ → S
  pub next : S → Entry → S
  -- the queries that a reader answered, and the updates that the writer answered
  pub answers : S → List (Q × A)
  pub log : S → List (U × R)
  -- it is no reader within a query, and the writer between two updates
  pub is_out : S → Bool
  pub is_idle : S → Bool

-- what `reached` answers, by the number that it loaded
abbrev pub reached_result : ℕ → ℕ → Result (Unit {0}) ℕ
reached_result wanted found = cond {A = Result (Unit {0}) ℕ} (nat_le wanted found) (Ok tt) (Err found)

-- answered queries
abbrev pub answer_events : {Q A : Type 0} → List (Q × A) → List (ReaderEvent Q A)
answer_events [] = []
answer_events (x ∷ xs) = Answered x.0 x.1 ∷ answer_events xs

-- answered updates
abbrev pub update_events : {U R : Type 0} → List (U × R) → List (WriterEvent U R)
update_events [] = []
update_events (x ∷ xs) = Updated x.0 x.1 ∷ update_events xs

-- by how much a list is longer
abbrev pub gained : {A : Type 0} → List A → List A → List A
gained before after = drop (length before) after

module _ {C : Type 0} (client : Client C) (o : Origin (Signals C)) where
  -- The step is that of `reached`, which is made by a reader between two queries
  abbrev pub reached_event : {Q A : Type 0} → Bool → List ℕ → Step → List (ReaderEvent Q A)
  reached_event {Q} {A} true (name ∷ wanted ∷ []) (Load at found) = cond {A = List (ReaderEvent Q A)} ((name == reached) && (at == applied_word_of client o)) (Reached wanted (reached_result wanted found) ∷ []) []
  reached_event is_out opens s = []

  -- The step is that of `answered`, which is made by the writer between two updates
  abbrev pub answered_event : {U R : Type 0} → Bool → List ℕ → Step → List (WriterEvent U R)
  answered_event {U} {R} true (name ∷ r ∷ []) (Load at found) = cond {A = List (WriterEvent U R)} ((name == answered) && ((at == answered_word_of client o r) && nat_lt r (readers o))) (Told r found ∷ []) []
  answered_event is_idle opens s = []

  module _ {S Q A U R : Type 0} (known : Structure S Q A U R) where
    -- what a reader's step ends, and the writer's
    abbrev pub reader_event : S → Entry → List (ReaderEvent Q A)
    reader_event s e = answer_events (gained (known.answers s) (known.answers (known.next s e))) ++ reached_event (known.is_out s) e.opens e.step

    abbrev pub writer_event : S → Entry → List (WriterEvent U R)
    writer_event s e = update_events (gained (known.log s) (known.log (known.next s e))) ++ answered_event (known.is_idle s) e.opens e.step

    abbrev pub reader_events : S → List Entry → List (ReaderEvent Q A)
    reader_events s [] = []
    reader_events s (e ∷ es) = reader_event s e ++ reader_events (known.next s e) es

    abbrev pub writer_events : S → List Entry → List (WriterEvent U R)
    writer_events s [] = []
    writer_events s (e ∷ es) = writer_event s e ++ writer_events (known.next s e) es

    -- what was done with a pass: its answered queries, and each `reached` with its result
    abbrev pub events_of_pass : Token (Signals C) → List (ReaderEvent Q A)
    events_of_pass t = reader_events (known.start (number t)) (did t)

    -- what was done with a writer: its answered updates, and what each `answered` told
    abbrev pub events_of_hand : Token (Signals C) → List (WriterEvent U R)
    events_of_hand t = writer_events (known.start (number t)) (did t)
