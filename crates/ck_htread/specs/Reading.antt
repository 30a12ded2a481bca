-- A pass within a look and between two, in a domain whose client holds the table; and what a look loads and answers.
use Rattle.std.specs.Prelude.{◌≡◌, ℕ, suc, ◌^◌, ◌≤◌, cond, ◌==◌, Option, Some, None, List, [], ◌∷◌, ◌++◌, map, length}
use Rattle.ck_run.specs.declared.account.Step.TheVariants.{Load}
use Rattle.ck_run.specs.declared.account.Entry.{Entry}
use Rattle.ck_run.specs.Run.{call, further}
use Rattle.ck_run.specs.Tokens.{adding}
use Rattle.ck_epoch.specs.State.{Origin, Token}
use Rattle.ck_epoch.specs.Ends.{Pass}
use Rattle.ck_history.specs.declared.log.Look.{Look}
use Rattle.ck_history.specs.declared.log.Look.TheVariants.{Found, Absent, Again}
use Rattle.ck_slots.specs.Slots.{Order}
use Rattle.ck_htlaw.specs.Calls.{look}
use Rattle.ck_htlaw.specs.Client.{Answers, hash_of}
use Rattle.ck_htlaw.specs.Host.{Host, lies}
use Rattle.ck_htlaw.specs.Known.{IsRoot, knows}
use Rattle.ck_htlaw.specs.Law.{retries_of}
use Rattle.ck_htlaw.specs.Layout.{log_of, counters_of}
use Rattle.ck_htlaw.specs.Look.{LookState, no_look, at_version, at_state, at_low, at_high, at_value, checking_value, checking_absence, after_state, after_high}
use Rattle.ck_htlaw.specs.Table.{Layout, ReaderState, reader, MayLookStep}
use Rattle.ck_htread.specs.declared.search.Search.{Search}
use Rattle.ck_htread.specs.declared.search.Finding.{Finding}
use Rattle.ck_htread.specs.Scan.{SlotContent, Tells, state_after_slot, Finds, state_after_scan, slot_loads, scan_loads}

-- the answer of a look by what it found
abbrev pub look_result : Option ℕ → Look
look_result (Some value) = Found value
look_result None = Absent

-- what a look adds to the answered ones
abbrev pub answered_by : ℕ → Look → List (ℕ × Option ℕ)
answered_by key (Found value) = (key, Some value) ∷ []
answered_by key Absent = (key, None) ∷ []
answered_by key (Again before after) = []

-- and to those that are to be made again
abbrev pub retries_by : Look → ℕ
retries_by (Again before after) = 1
retries_by result = 0

-- a look in this state goes on at this word
abbrev pub IsDueAt : Layout → ℕ → LookState → ℕ → Type 0
IsDueAt l root look_state word = (n : ℕ) → MayLookStep l root look_state (Load word n)

abbrev pub IsInLook : LookState → Type 0
IsInLook no_look = ⊥
IsInLook look_state = Unit {0}

-- where a look goes on after a load
abbrev pub state_then : Order → LookState → ℕ → LookState
state_then o (at_version k) x = at_state k x 0
state_then o (at_state k c i) x = after_state o k c i x
state_then o (at_low k c i) x = at_high k c i x
state_then o (at_high k c i y) x = after_high o k c i y x
state_then o (at_value k c i) x = checking_value k c x
state_then o look_state x = no_look

-- what a reader's looks came to: the answered ones, and how many were to be made again
pub record LookTotals : Type 0 where
  pub looks : List (ℕ × Option ℕ)
  pub retries : ℕ

abbrev pub totals_of : Answers → LookTotals
totals_of a = record { looks = a.looks; retries = retries_of a.local }

-- after a look that loaded these numbers of the counter
abbrev pub totals_after_look : ℕ → ℕ → ℕ → Option ℕ → LookTotals → LookTotals
totals_after_look key before after found t = record { looks = t.looks ++ cond (before == after) ((key, found) ∷ []) []; retries = cond (before == after) t.retries (suc t.retries) }

-- after a load
abbrev pub totals_after_load : LookTotals → LookState → ℕ → LookTotals
totals_after_load t (checking_value k c y) x = totals_after_look k c x (Some y) t
totals_after_load t (checking_absence k c) x = totals_after_look k c x None t
totals_after_load t look_state x = t

module _ {D : Type 0} (host : Host D) (o : Origin D) where
  -- The pass is in this state of a look at the region of this root, and its looks came to this
  pub record IsInState (root : ℕ) (look_state : LookState) (totals : LookTotals) (t : Token D) : Type 0 where
    pub local : (knows host o t).local ≡ reader record { root = root; look_state = look_state; retries = totals.retries }
    pub looks : (knows host o t).looks ≡ totals.looks

  -- The pass is between two looks, and its tally is the number of those that it answered
  pub record IsBetweenLooks (p : Pass D) : Type 0 where
    pub reader_state : ReaderState
    pub local : (knows host o p.token).local ≡ reader reader_state
    pub outside : reader_state.look_state ≡ no_look
    pub tally : p.tally ≡ length (knows host o p.token).looks
    pub few : p.tally ≤ p.calls

  -- a look goes by a root that it loaded, and by its key's hash
  pub record IsSearch (s : Search) : Type 0 where
    pub root : IsRoot (counters_of (host.part o.config.client)) s.root
    pub hash : s.hash ≡ hash_of (host.part o.config.client) s.key

  -- What was loaded of the slot at step i, and where that leaves the pass
  pub record LoadsSlot (s : Search) (i : ℕ) (totals : LookTotals) (t : Token D) (finding : Finding) (u : Token D) : Type 0 where
    pub slot : SlotContent
    pub tells : Tells ((lies host o).order s.root) s.key slot finding
    pub steps : u ≡ adding t (map further (slot_loads (lies host o) s.root s.key i slot))
    pub at : IsInState s.root (state_after_slot ((lies host o).order s.root) s.key s.counter i finding) totals u

  -- and of the slots up to the end of the scan
  pub record LoadsSlots (s : Search) (totals : LookTotals) (t : Token D) (found : Option ℕ) (u : Token D) : Type 0 where
    pub slots : List SlotContent
    pub finds : Finds ((lies host o).order s.root) s.key slots found
    pub few : length slots ≤ 2 ^ log_of s.root
    pub steps : u ≡ adding t (map further (scan_loads (lies host o) s.root s.key 0 slots))
    pub at : IsInState s.root (state_after_scan ((lies host o).order s.root) s.key s.counter found) totals u

  -- The entries of a look: it loads the root, the counter of that region, slots in the key's order, and the counter again
  abbrev pub look_entries : ℕ → ℕ → ℕ → List SlotContent → ℕ → List Entry
  look_entries key root before slots after =
      call look (key ∷ []) (Load (lies host o).base root ∷ Load ((lies host o).counter root) before ∷ (scan_loads (lies host o) root key 0 slots ++ Load ((lies host o).counter root) after ∷ []))

  -- What a look loaded, and where that leaves the pass
  pub record LoadsLook (key : ℕ) (t : Token D) (before after : ℕ) (found : Option ℕ) (u : Token D) : Type 0 where
    pub root : ℕ
    pub slots : List SlotContent
    pub finds : Finds ((lies host o).order root) key slots found
    pub steps : u ≡ adding t (look_entries key root before slots after)
    pub at : IsInState root no_look (totals_after_look key before after found (totals_of (knows host o t))) u
    -- a counter never falls
    pub risen : before ≤ after

  -- The steps of a look, by its answer. Where the counter stands it answers by the slots
  pub record Looks (key : ℕ) (t : Token D) (result : Look) (u : Token D) : Type 0 where
    pub root : ℕ
    pub before : ℕ
    pub slots : List SlotContent
    pub after : ℕ
    pub found : Option ℕ
    pub finds : Finds ((lies host o).order root) key slots found
    pub steps : u ≡ adding t (look_entries key root before slots after)
    pub is : result ≡ cond (before == after) (look_result found) (Again before after)
