-- The tokens of a registry between two of their calls.
use Rattle.std.specs.Prelude.{◌≡◌, ℕ, ◌<◌, ◌≤◌, List, []}
use Rattle.ck_run.specs.Rule.{IsPart}
use Rattle.ck_run.specs.Machine.{follows_of}
use Rattle.ck_run.specs.Tokens.{table, number, origin}
use Rattle.ck_epoch.specs.declared.item.Item.{Item}
use Rattle.ck_epoch.specs.State.{queue, at_depth, depth_of}
use Rattle.ck_epoch.specs.Lists.{AreListsOf}
use Rattle.ck_registry.specs.State.{Origin, Token, Activity, away, resting, ready, IsOpening, records_of, registry, state}
use Rattle.ck_registry.specs.Deferred.{Deferred, IsLeftOf}

-- What contracts see of a visitor: its token, how many counted calls were made with it, and how many items it has room for
pub record Visitor : Type 0 where
  pub token : Token
  pub calls : ℕ
  pub room : ℕ

-- and of a member: also the items that were dispatched and wait
pub record Member : Type 0 where
  pub token : Token
  pub calls : ℕ
  pub waiting : List Item
  pub room : ℕ

-- the account of the token is a part of a true run of the calls of a registry
abbrev pub IsRegistryToken : Token → Type 0
IsRegistryToken t = IsPart (follows_of registry) (origin t) t.view.own

-- the record that a member holds, and how many nested sections of it are open
abbrev pub rec_of : Token → ℕ
rec_of t = (state t).rec

abbrev pub depth : Token → ℕ
depth t = depth_of (state t).section

-- a member between two calls
abbrev pub IsIdle : Activity → Type 0
IsIdle resting = Unit {0}
IsIdle (ready e) = Unit {0}
IsIdle a = ⊥

-- A visitor without a record has nothing pending, and nothing of it waits
pub record IsVisitor (t : Token) (d : Deferred) : Type 0 where
  pub part : IsRegistryToken t
  pub low : number t < (origin t).tokens
  pub stands : (state t).activity ≡ away
  pub none : (state t).pending ≡ []
  pub pending : AreListsOf d.lists []
  pub empty : d.waiting ≡ []
  pub waits : IsLeftOf d.waiting (queue (state t).dispatched)

-- The token of a member that holds this record, in which so many nested sections are open
pub record IsHolder (t : Token) (rec depth : ℕ) : Type 0 where
  pub part : IsRegistryToken t
  pub low : number t < (origin t).tokens
  pub stands : IsIdle (state t).activity
  pub held : (state t).rec ≡ rec
  pub record_low : rec < records_of (origin t)
  pub section : (g : ℕ) × ((state t).section ≡ at_depth depth g)

-- what is pending, and what waits, is as the account of the token tells it
pub record AreDeferred (t : Token) (d : Deferred) : Type 0 where
  pub pending : AreListsOf d.lists (queue (state t).pending)
  pub waits : IsLeftOf d.waiting (queue (state t).dispatched)

-- steps that leave the items
abbrev pub IsSameItems : Token → Token → Type 0
IsSameItems t u = ((state u).pending ≡ (state t).pending) × ((state u).dispatched ≡ (state t).dispatched)

-- what a registry keeps of how it began
pub record IsRegistry (origin : Origin) (records : ℕ) : Type 0 where
  pub opening : IsOpening origin
  pub told : origin.config ≡ records
  pub few : records ≤ 64
  pub some_tokens : 1 ≤ origin.tokens

-- a call leaves a member these
abbrev pub IsSameMember : Member → Member → Type 0
IsSameMember m n = (table n.token ≡ table m.token) × (number n.token ≡ number m.token) × (rec_of n.token ≡ rec_of m.token) × (n.room ≡ m.room)
