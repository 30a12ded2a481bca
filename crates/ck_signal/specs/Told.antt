-- What the signal words tell: of every true run of a domain whose client has signals, and of each moment of it. A moment is the part of
-- the run that is past.
use Rattle.std.specs.Prelude.{◌≡◌, ℕ, suc, ◌<◌, ◌≤◌, List, [], ◌∷◌, ◌++◌, length, slice_index}
use Rattle.ck_run.specs.declared.account.Entry.{Entry}
use Rattle.ck_run.specs.Run.{Run, replay, account}
use Rattle.ck_run.specs.Rule.{IsRun}
use Rattle.ck_run.specs.Tokens.{origin, number, did}
use Rattle.ck_epoch.specs.State.{Origin, Token, base_of}
use Rattle.ck_epoch.specs.Client.{Client, program}
use Rattle.ck_signal.specs.declared.signals.Signals.{Signals}
use Rattle.ck_signal.specs.Words.{reaches, asks}
use Rattle.ck_signal.specs.Signals.{readers, applied_at, answered_at, log_by, answers_by, signals}

-- A count of what the writer did that doesn't fall as its account grows, as the length of its log, or how many of its updates have taken place
abbrev pub IsRising : (List Entry → ℕ) → Type 0
IsRising count = (es : List Entry) (e : Entry) → count es ≤ count (es ++ e ∷ [])

module _ {C : Type 0} (client : Client C) where
  -- the word `applied`, and that of the reader r
  abbrev pub applied_word_of : Origin (Signals C) → ℕ
  applied_word_of origin = applied_at client (base_of origin) origin

  abbrev pub answered_word_of : Origin (Signals C) → ℕ → ℕ
  answered_word_of origin r = answered_at client (base_of origin) origin r

  -- the log in this run, and how many answers the reader r has given in it
  abbrev pub log_during : Origin (Signals C) → Run → List client.Update
  log_during origin run = log_by client (base_of origin) origin (account 0 run)

  abbrev pub answers_during : Origin (Signals C) → Run → ℕ → ℕ
  answers_during origin run r = answers_by client (base_of origin) origin (account (suc r) run)

  -- it is a true run of the calls of the domain
  abbrev pub IsRunOf : Origin (Signals C) → Run → Type 0
  IsRunOf origin run = IsRun (program (signals client)) origin run

  -- `applied` is at most the length of the log, and each word `answered` at most the number of its reader's answers
  pub record IsTold (origin : Origin (Signals C)) (run : Run) (words : List ℕ) : Type 0 where
    pub updates : slice_index words (applied_word_of origin) ≤ length (log_during origin run)
    pub answers : (r : ℕ) → r < readers origin → slice_index words (answered_word_of origin r) ≤ answers_during origin run r

  -- in this run `reached` told the reader r of n updates: its load found at least n
  abbrev pub HasReached : Origin (Signals C) → Run → ℕ → ℕ → Type 0
  HasReached origin run r n = (past : Run) × (rest : Run) × (found : ℕ) × (run ≡ past ++ (suc r, reaches (applied_word_of origin) n found) ∷ rest) × (n ≤ found)

  -- how long the log is that these entries of the writer's give
  abbrev pub log_length : Origin (Signals C) → List Entry → ℕ
  log_length origin es = length (log_by client (base_of origin) origin es)

  -- A place that the answer of the reader r with the number i, from 0, may have in this run by this count: the count at a moment by which
  -- the answer wasn't given yet
  abbrev pub IsAnswerPlace : (List Entry → ℕ) → Origin (Signals C) → Run → ℕ → ℕ → ℕ → Type 0
  IsAnswerPlace count origin run r i place = (past : Run) × (rest : Run) × (run ≡ past ++ rest) × (answers_during origin past r ≤ i) × (place ≡ count (account 0 past))

  -- By the moment `past` of the run the reader r had given its first k answers, and they have places not above what the writer had done by
  -- these entries: not above the length of the log that they give, and by any count that doesn't fall, not above theirs
  pub record AreBelow (origin : Origin (Signals C)) (past run : Run) (r k : ℕ) (es : List Entry) : Type 0 where
    pub given : k ≤ answers_during origin past r
    pub places : (i place : ℕ) → i < k → IsAnswerPlace (log_length origin) origin run r i place → place ≤ log_length origin es
    pub placed : (count : List Entry → ℕ) → IsRising count → (i place : ℕ) → i < k → IsAnswerPlace count origin run r i place → place ≤ count es

  -- The law of signals: they tell what is true
  pub record TrueSignals : Type 0 where
    -- the log at a moment begins with the log at each earlier one, and no reader takes answers back
    pub grows : (origin : Origin (Signals C)) (past more : Run) → (us : List client.Update) × (log_during origin (past ++ more) ≡ log_during origin past ++ us)
    pub rises : (origin : Origin (Signals C)) (past more : Run) (r : ℕ) → answers_during origin past r ≤ answers_during origin (past ++ more) r
    -- at each moment of a true run the words tell what is so
    pub told : (origin : Origin (Signals C)) (past rest : Run) → IsRunOf origin (past ++ rest) → IsTold origin past (replay origin.words past)
    -- from the moment on at which `reached` told of n updates, the log has them
    pub reached : (origin : Origin (Signals C)) (past rest : Run) (r n : ℕ) → IsRunOf origin (past ++ rest) → HasReached origin past r n → n ≤ length (log_during origin past)
    -- where `answered` loads k, the first k answers of that reader have places not above what the writer has done by then
    pub answered : (origin : Origin (Signals C)) (past rest : Run) (r k : ℕ) → r < readers origin → let run = past ++ (0, asks (answered_word_of origin r) r k) ∷ rest in
        IsRunOf origin run → AreBelow origin past run r k (account 0 past)

  -- the log that the writer's account gives, and how many answers a pass's account gives
  abbrev pub writer_log : Token (Signals C) → List client.Update
  writer_log t = log_by client (base_of (origin t)) (origin t) (did t)

  abbrev pub pass_answers : Token (Signals C) → ℕ
  pass_answers t = answers_by client (base_of (origin t)) (origin t) (did t)

  -- In every true run, at each moment by which the token has made these steps, and maybe more, P holds of the run so far and of the run
  abbrev pub SinceStep : Token (Signals C) → (Run → Run → Type 0) → Type 0
  SinceStep t P = (past rest : Run) (more : List Entry) → IsRunOf (origin t) (past ++ rest) → account (number t) past ≡ did t ++ more → P past (past ++ rest)

  -- from then on the log has at least n updates
  abbrev pub HasSeen : Token (Signals C) → ℕ → Type 0
  HasSeen t n = SinceStep t (λ past run. n ≤ length (log_during (origin t) past))

  -- by then the reader r has given its first k answers, and they have places not above what these entries of the writer's did
  abbrev pub HasBeenTold : Token (Signals C) → ℕ → ℕ → List Entry → Type 0
  HasBeenTold t r k es = SinceStep t (λ past run. AreBelow (origin t) past run r k es)
