-- The answers of a reader in a run, and their places among the edits.
use Rattle.std.specs.Prelude.{◌≡◌, ℕ, suc, List}
use mathlib.Core.Option.{some}
use lib.ListN.{get_elem?}
use Rattle.ck_run.specs.Run.{Run}
use Rattle.ck_history.specs.Lists.{committed_after}
use Rattle.ck_epoch.specs.State.{Origin}
use Rattle.ck_events.specs.Answered.{IsAnsweredCall, ArePlaces}
use Rattle.ck_arraylaw.specs.Array.{no_read}
use Rattle.ck_arraylaw.specs.Client.{answers_of}
use Rattle.ck_arraylaw.specs.Host.{Host}
use Rattle.ck_arraylaw.specs.Law.{IsArrayRun, local_in, edits_in, linearized, read_stage_of}

module _ {D : Type 0} (host : Host D) (origin : Origin D) where
  -- the lists that the reader r answered in this run
  abbrev pub answers_in : Run → ℕ → List (List ℕ)
  answers_in run r = answers_of (local_in host origin run (suc r))

  -- it is between two calls
  abbrev pub IsOut : ℕ → Run → Type 0
  IsOut r run = read_stage_of (local_in host origin run (suc r)) ≡ no_read

  -- The reader r gave its answer with the number i, from 0, by this `all` of the run
  abbrev pub IsAnsweredAll : Run → ℕ → ℕ → List ℕ → Type 0
  IsAnsweredAll run r i members = IsAnsweredCall (suc r) (IsOut r) (λ past. answers_in past r) run i members

  -- and p edits had taken place at its first step
  pub record HasPlace (run : Run) (r i : ℕ) (members : List ℕ) (p : ℕ) : Type 0 where
    pub answered : IsAnsweredAll run r i members
    pub is : linearized host origin answered.past ≡ p

  -- The places of the answers of the reader r. Each is that of the first step of its `all`, a moment at which the list was committed, and so the
  -- answer is the list that is committed after so many of the edits that have taken place
  pub record HavePlaces (run : Run) (r : ℕ) (places : ℕ → ℕ) : Type 0 where
    pub are : ArePlaces (suc r) (IsOut r) (λ past. answers_in past r) (linearized host origin) (HasPlace run r) run places
    pub gave : (i : ℕ) (members : List ℕ) → get_elem? (answers_in run r) i ≡ some members → members ≡ committed_after (edits_in host origin run) (places i)

  -- In every true run the answers of each reader have places
  abbrev pub PlacesLaw : Type 0
  PlacesLaw = (run : Run) (r : ℕ) → IsArrayRun host origin run → (places : ℕ → ℕ) × HavePlaces run r places
