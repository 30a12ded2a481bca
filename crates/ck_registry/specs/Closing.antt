-- The visitors that a registry begins with, and what is known when it is closed.
use Rattle.std.specs.Prelude.{◌≡◌, ℕ, ◌<◌, List, All}
use mathlib.Core.Option.{some}
use lib.ListN.{get_elem?}
use Rattle.ck_run.specs.Run.{Run, account}
use Rattle.ck_run.specs.Rule.{IsRun}
use Rattle.ck_run.specs.Machine.{follows_of}
use Rattle.ck_run.specs.Tokens.{Table, did, number, origin}
use Rattle.ck_run.specs.Ends.{EachFrom, fresh}
use Rattle.ck_registry.specs.State.{Origin, registry}
use Rattle.ck_registry.specs.Epochs.{IsRegistryRun}
use Rattle.ck_registry.specs.Ends.{Visitor}

-- how a table of these words begins
abbrev pub opened : ℕ → ℕ → List ℕ → Origin
opened records visitors words = record { words = words; tokens = visitors; config = records }

-- visitors that made no step, whose tokens are numbered from n, in order, each with so much room
abbrev pub AreFreshVisitors : Table ℕ → ℕ → ℕ → List Visitor → Type 0
AreFreshVisitors table room = EachFrom (λ n v. v ≡ record { token = fresh table n; calls = 0; room = room })

-- each visitor of the registry is among these, so that no member is left
abbrev pub AreAllVisitors : Table ℕ → List Visitor → Type 0
AreAllVisitors table vs = (n : ℕ) → n < table.origin.tokens → (k : ℕ) × (v : Visitor) × (get_elem? vs k ≡ some v) × (number v.token ≡ n)

-- The accounts of these visitors are the parts of one true run of the calls of a registry, which is lawful
pub record IsClosedRegistry (table : Table ℕ) (vs : List Visitor) : Type 0 where
  pub run : Run
  pub is_run : IsRun (follows_of registry) table.origin run
  pub visitors : All (λ (v : Visitor). (origin v.token ≡ table.origin) × (account (number v.token) run ≡ did v.token)) vs
  pub lawful : IsRegistryRun table.origin run
