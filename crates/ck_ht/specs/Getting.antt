-- Looks that are made again until one answers.
use Rattle.std.specs.Prelude.{◌≡◌, ℕ, ◌+◌, List, [], ◌∷◌, length}
use Rattle.ck_run.specs.Run.{Run}
use Rattle.ck_epoch.specs.State.{Origin, Token}
use Rattle.ck_signal.specs.declared.signals.Signals.{Signals}
use Rattle.ck_history.specs.declared.log.Look.{Look}
use Rattle.ck_history.specs.declared.log.Look.TheVariants.{Again}
use Rattle.ck_htlaw.specs.declared.client.HtClient.{HtClient}
use Rattle.ck_htlaw.specs.Known.{knows}
use Rattle.ck_htlaw.specs.Law.{IsTableRun, retries_of}
use Rattle.ck_htlaw.specs.Reached.{with_signals}
use Rattle.ck_htread.specs.Answered.{StandTogether}
use Rattle.ck_htread.specs.Reading.{Looks}

module _ (o : Origin (Signals HtClient)) where
  -- Looks at the key, each of which was to be made again, left the token so: one after the other, these tokens
  abbrev pub Repeats : ℕ → Token (Signals HtClient) → List (Token (Signals HtClient)) → Token (Signals HtClient) → Type 0
  Repeats key t [] u = u ≡ t
  Repeats key t (v ∷ vs) u = ((before : ℕ) × (after : ℕ) × Looks with_signals o key t (Again before after) v) × Repeats key v vs u

  -- and then one that answers
  pub record Gets (key : ℕ) (t : Token (Signals HtClient)) (result : Look) (u : Token (Signals HtClient)) : Type 0 where
    pub tokens : List (Token (Signals HtClient))
    pub last : Token (Signals HtClient)
    pub repeats : Repeats key t tokens last
    pub looks : Looks with_signals o key last result u
    -- it has met so many that were to be made again
    pub retries : retries_of (knows with_signals o u).local ≡ retries_of (knows with_signals o t).local + length tokens
    -- where no other token's step is among its steps, the first look answers
    pub once : (past run : Run) → IsTableRun with_signals o run → StandTogether t u past run → tokens ≡ []
