-- The tokens that a domain begins with, and what is known when it is closed.
use Rattle.std.specs.Prelude.{◌≡◌, ℕ, ◌+◌, List, drop, All}
use Rattle.ck_run.specs.Run.{Run, replay, account}
use Rattle.ck_run.specs.Rule.{IsRun}
use Rattle.ck_run.specs.Tokens.{Table, did, number, origin}
use Rattle.ck_run.specs.Ends.{EachFrom, fresh}
use Rattle.ck_epoch.specs.declared.about.About.{About}
use Rattle.ck_epoch.specs.State.{Origin, Token, IsOpening, base_of}
use Rattle.ck_epoch.specs.Client.{Client, IsClientOpening, program}
use Rattle.ck_epoch.specs.Epochs.{IsSafe, KeepsEpochs}
use Rattle.ck_epoch.specs.Ends.{Pass}

module _ {C : Type 0} where
  -- how a table of these words begins
  abbrev pub opened : C → ℕ → List ℕ → Origin C
  opened client records words = record { words = words; tokens = records + 1; config = record { client = client; records = records } }

  -- the words at opening are those of the epochs, and behind them the client's
  abbrev pub AreOpening : Client C → Origin C → Type 0
  AreOpening client origin = IsOpening origin × IsClientOpening client origin

  -- passes that made no step, whose tokens are numbered from n, in order
  abbrev pub AreFreshPasses : Table (About C) → ℕ → List (Pass C) → Type 0
  AreFreshPasses table = EachFrom (λ n p. p ≡ record { token = fresh table n; calls = 0; tally = 0 })

  -- The accounts of the writer and of these passes are the parts of one true run of the domain's calls, which is safe. It leaves these words
  -- of the client's
  pub record IsClosedDomain (client : Client C) (w : Token C) (ps : List (Pass C)) (words : List ℕ) : Type 0 where
    pub run : Run
    pub is_run : IsRun (program client) (origin w) run
    pub writer : account (number w) run ≡ did w
    pub passes : All (λ (p : Pass C). (origin p.token ≡ origin w) × (account (number p.token) run ≡ did p.token)) ps
    pub leaves : words ≡ drop (base_of (origin w)) (replay (origin w).words run)
    pub safe : IsSafe (origin w) run
    pub epochs : KeepsEpochs (origin w) run
