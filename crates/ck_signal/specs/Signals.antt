-- A client with signal words behind its own.
use Rattle.std.specs.Prelude.{◌≡◌, ℕ, suc, ◌+◌, ◌<◌, ◌⊎◌, ◌&&◌, nat_lt, cond, List, length}
use Rattle.ck_run.specs.declared.account.Entry.{Entry}
use Rattle.ck_run.specs.declared.account.Account.{Account}
use Rattle.ck_run.specs.Range.{IsInside}
use Rattle.ck_run.specs.Rule.{unused}
use Rattle.ck_run.specs.Machine.{Machine, Obeys, grow}
use Rattle.ck_epoch.specs.declared.about.About.{About}
use Rattle.ck_epoch.specs.State.{Origin, base_of}
use Rattle.ck_epoch.specs.Client.{Client, IsClientOpening}
use Rattle.ck_epoch.specs.Within.{inner_origin}
use Rattle.ck_signal.specs.declared.signals.Signals.{Signals}
use Rattle.ck_signal.specs.Words.{applied_word, answered_word, size_with, marks, reaches, notes, asks, reads}

module _ {C : Type 0} where
  -- how a domain began, as the client inside sees it
  abbrev pub inside : Origin (Signals C) → Origin C
  inside origin = inner_origin (λ (c : Signals C). c.client) origin

  -- how many records have a word `answered`
  abbrev pub readers : Origin (Signals C) → ℕ
  readers origin = origin.config.client.records

  -- a pass may read by itself
  abbrev pub IsRead : Origin (Signals C) → Account → Entry → Type 0
  IsRead origin a e = (at : ℕ) × (found : ℕ) × (0 < a.number) × (e ≡ reads (base_of origin) at found)

module _ {C : Type 0} (client : Client C) where
  -- how many words the client inside has
  abbrev pub own_size : Origin (Signals C) → ℕ
  own_size origin = client.size origin.config.client.client

  -- the word `applied`, and the word `answered` of the record r, where the client's words begin at `first`
  abbrev pub applied_at : ℕ → Origin (Signals C) → ℕ
  applied_at first origin = first + applied_word (own_size origin)

  abbrev pub answered_at : ℕ → Origin (Signals C) → ℕ → ℕ
  answered_at first origin r = first + answered_word (own_size origin) r

  -- the updates that these entries of the writer made, and how many answers these entries of a pass gave
  abbrev pub log_by : ℕ → Origin (Signals C) → List Entry → List client.Update
  log_by first origin entries = client.log first (inside origin) entries

  abbrev pub answers_by : ℕ → Origin (Signals C) → List Entry → ℕ
  answers_by first origin entries = client.answered first (inside origin) entries

  -- The entries of the calls, each by a token that has this account so far: `mark` stores the length of the log
  abbrev pub IsMark : ℕ → Origin (Signals C) → Account → Entry → Type 0
  IsMark first origin a e = (a.number ≡ 0) × (e ≡ marks (applied_at first origin) (length (log_by first origin a.entries)))

  -- `reached` loads it
  abbrev pub IsReached : ℕ → Origin (Signals C) → Account → Entry → Type 0
  IsReached first origin a e = (wanted : ℕ) × (found : ℕ) × (0 < a.number) × (e ≡ reaches (applied_at first origin) wanted found)

  -- `note` stores how many answers the pass has given, in the word of its record
  abbrev pub IsNote : ℕ → Origin (Signals C) → Account → Entry → Type 0
  IsNote first origin a e = (r : ℕ) × (a.number ≡ suc r) × (r < readers origin) × (e ≡ notes (answered_at first origin r) (answers_by first origin a.entries))

  -- `answered` loads that of a reader
  abbrev pub IsAnswered : ℕ → Origin (Signals C) → Account → Entry → Type 0
  IsAnswered first origin a e = (r : ℕ) × (found : ℕ) × (a.number ≡ 0) × (r < readers origin) × (e ≡ asks (answered_at first origin r) r found)

  -- a step on a word behind the client's own
  abbrev pub IsSignal : ℕ → Origin (Signals C) → Entry → Type 0
  IsSignal first origin e = IsInside (first + own_size origin) (first + size_with (own_size origin) (readers origin)) e

  -- such a step is one of the calls, or reads
  abbrev pub MaySignal : ℕ → Origin (Signals C) → Account → Entry → Type 0
  MaySignal first origin a e = IsSignal first origin e → IsMark first origin a e ⊎ (IsReached first origin a e ⊎ (IsNote first origin a e ⊎ (IsAnswered first origin a e ⊎ IsRead origin a e)))

  -- The client with its signals. It has the log and the answers of the client inside
  abbrev pub signals : Client (Signals C)
  signals = record {
    size = λ c. size_with (client.size c.client) c.records;
    first = λ c at. cond (nat_lt at (client.size c.client)) (client.first c.client at) 0;
    guarded = λ c at. nat_lt at (client.size c.client) && client.guarded c.client at;
    follows = λ first origin n es. client.follows first (inside origin) n es × Obeys grow (MaySignal first origin) (unused n) es;
    retires = λ c item. client.retires c.client item;
    home = λ c item. client.home c.client item;
    Update = client.Update;
    log = log_by;
    answered = answers_by;
  }

  -- the accounts of a domain with signals, as far as the signal words go
  abbrev pub signalling : Machine (About (Signals C)) Account
  signalling = record {
    IsOpening = λ origin. IsClientOpening signals origin;
    start = λ origin. unused;
    next = λ origin. grow;
    Allows = λ origin. MaySignal (base_of origin) origin;
  }
