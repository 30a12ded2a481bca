-- What holds at every moment of a true run, as each step keeps it: the five parts of the epochs, and what they need beside them.
use Rattle.std.specs.Prelude.{◌≡◌, ℕ, zero, suc, ◌+◌, ◌^◌, ◌<◌, ◌≤◌, None, List, length, slice_index, All}
use Rattle.ck_run.specs.declared.account.Entry.{Entry}
use Rattle.ck_run.specs.Run.{Run, account, index_in}
use Rattle.ck_epoch.specs.State.{active_word, epoch_word, Stage, inside, Retirement}
use Rattle.ck_epoch.specs.Epochs.{IsRetired}
use Rattle.ck_epoch.specs.Held.{IsOfPass, active_of, IsTimely, IsAtGlobal}
use Rattle.ck_registry.specs.State.{state_word, Activity, passing, checking, ready, TokenState, IsMember, Holds}
use Rattle.ck_registry.specs.Epochs.{IsSectionOpen, HasPassed}

-- of a record: its state is 0 or 1, and a record that is free isn't active
pub record IsSound (global state active own : ℕ) : Type 0 where
  pub behind : own ≤ global
  pub low : state ≤ 1
  pub idle : state ≡ 0 → active ≡ 0

-- of a member and the words of its record
pub record IsMemberHeld (records global state active own rec : ℕ) (section : Stage) : Type 0 where
  pub low : rec < records
  pub held : state ≡ 1
  pub counted : active ≡ active_of section
  pub timely : IsTimely global own section

-- a scan's epoch is at most the global one, which others may have moved on
abbrev pub IsMemberScan : ℕ → ℕ → Activity → Type 0
IsMemberScan records global (passing e rec busy) = (4 ≤ e) × (e ≤ global) × (rec < records)
IsMemberScan records global (checking e rec busy) = (4 ≤ e) × (e ≤ global) × (rec < records)
IsMemberScan records global (ready e) = (4 ≤ e) × (e ≤ global)
IsMemberScan records global a = Unit {0}

-- an item that is pending
abbrev pub IsPendingItem : ℕ → List Entry → Retirement → Type 0
IsPendingItem global entries k = IsRetired entries k × (k.retired.epoch ≤ global)

-- of a visitor, its account and the words of its record
pub record IsVisitorHeld (records global state active own : ℕ) (entries : List Entry) (t : TokenState) : Type 0 where
  pub steps : t.steps ≡ length entries
  pub few : t.calls ≤ 2 ^ 40
  pub reading : IsOfPass t.section
  pub member : IsMember t.activity → IsMemberHeld records global state active own t.rec t.section
  pub scan : IsMemberScan records global t.activity
  pub pending : All (IsPendingItem global entries) t.pending
  pub dispatched : All (IsRetired entries) t.dispatched

-- a scan that has found each record that it passed inactive, this one among them
abbrev pub IsQuietScan : Activity → ℕ → Type 0
IsQuietScan (passing e rec None) r = r < rec
IsQuietScan (checking e rec None) r = r < rec
IsQuietScan a r = ⊥

-- What guards an open section of the record r with the epoch g against a visitor. `older` tells of which of its entries the section is older
pub record IsSectionGuarded (older : ℕ → Type 0) (r g : ℕ) (t : TokenState) : Type 0 where
  -- an item that was retired since it opened has at least its epoch
  pub pending : All (λ (k : Retirement). older k.number → g ≤ k.retired.epoch) t.pending
  -- an item that was dispatched was retired before it opened
  pub dispatched : All (λ (k : Retirement). ¬ older k.number) t.dispatched
  -- where its record was found inactive, it opened after the last retirement, whatever the global epoch is now
  pub quiet : IsQuietScan t.activity r → All (λ (k : Retirement). ¬ older k.number) t.pending

-- The visitor holds the record and is within a section
pub record IsWithinSection (t : TokenState) (r : ℕ) : Type 0 where
  pub holds : Holds t r
  pub depth : ℕ
  pub epoch : ℕ
  pub section : t.section ≡ inside depth epoch

-- the calls that the visitors below this number made
abbrev pub calls_below : ℕ → (ℕ → TokenState) → ℕ
calls_below zero at = 0
calls_below (suc n) at = calls_below n at + (at n).calls

-- A registry at the end of a run
pub record AreMembersHeld (records tokens : ℕ) (run : Run) (words : List ℕ) (at : ℕ → TokenState) : Type 0 where
  pub some_records : 1 ≤ records
  pub wide : state_word records records ≤ length words
  pub late : 4 ≤ slice_index words 0
  pub few : tokens ≤ 64
  pub bounded : slice_index words 0 ≤ 4 + calls_below tokens at
  pub numbered : (n : ℕ) → (at n).number ≡ n
  pub sound : (r : ℕ) → r < records → IsSound (slice_index words 0) (slice_index words (state_word records r)) (slice_index words (active_word r)) (slice_index words (epoch_word r))
  pub each : (n : ℕ) → IsVisitorHeld records (slice_index words 0) (slice_index words (state_word records (at n).rec)) (slice_index words (active_word (at n).rec)) (slice_index words (epoch_word (at n).rec)) (account n run) (at n)
  pub alone : (n m : ℕ) → IsMember (at n).activity → IsMember (at m).activity → (at n).rec ≡ (at m).rec → n ≡ m
  pub found : (m n : ℕ) → IsMember (at n).activity → HasPassed (at m).activity (slice_index words 0) (at n).rec → IsAtGlobal (slice_index words 0) (at n).section
  pub open_in : (r o : ℕ) → r < records → IsSectionOpen run r o → (n : ℕ) × IsWithinSection (at n) r
  pub guarded : (m r o : ℕ) → r < records → IsSectionOpen run r o → IsSectionGuarded (λ i. o < index_in run m i) r (slice_index words (epoch_word r)) (at m)
