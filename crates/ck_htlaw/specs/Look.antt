-- A reader's look at the slots of one map, and what holds of it while the counter stands.
use Rattle.std.specs.Prelude.{◌≡◌, ◌≢◌, ℕ, suc, ◌<◌, ◌≤◌, ◌⊎◌, cond, ◌==◌}
use Rattle.ck_slots.specs.Slots.{Order, SlotsView, Holds}
use Rattle.ck_htlaw.specs.Stages.{Stage, twice, IsApart, Maps}

-- Where a reader stands within a look of the key k, with the counter c that it loaded, at step i of k's order
pub data LookState : Type 0 where
  no_look : LookState
  at_version : ℕ → LookState
  -- about to load the state; loaded 1; loaded the low word too
  at_state : ℕ → ℕ → ℕ → LookState
  at_low : ℕ → ℕ → ℕ → LookState
  at_high : ℕ → ℕ → ℕ → ℕ → LookState
  -- both words are the key's; loaded the value
  at_value : ℕ → ℕ → ℕ → LookState
  checking_value : ℕ → ℕ → ℕ → LookState
  -- met an empty slot, or passed all
  checking_absence : ℕ → ℕ → LookState

-- the map gave x for the key at a moment since the root was loaded
pub record IsSince (maps : Maps) (r q k x : ℕ) : Type 0 where
  pub place : ℕ
  pub low : r ≤ place
  pub high : place ≤ q
  pub gave : maps place k ≡ x

-- between the first copy's coming and the second raise, for a look that began before
abbrev pub IsHalf : Order → Stage → ℕ → ℕ → ℕ → ℕ → Type 0
IsHalf o (twice from w) r q k i = (w.key ≡ k) × (i ≤ o.step k from) × (r < q)
IsHalf o g r q k i = ⊥

-- The key was absent, or all of it is still ahead, or its later copy is
abbrev pub IsAhead : Order → SlotsView → Maps → ℕ → Stage → ℕ → ℕ → ℕ → Type 0
IsAhead o v maps q g r k i = IsSince maps r q k 0 ⊎ (((s : ℕ) → Holds o v k s → i ≤ o.step k s) ⊎ IsHalf o g r q k i)

-- The slot isn't empty and isn't being filled, so its key's words stand
pub record IsStable (v : SlotsView) (g : Stage) (s : ℕ) : Type 0 where
  pub state : v.state s ≢ 0
  pub apart : IsApart g s

-- where the slot has the key's words, its value is one that the key had
abbrev pub IsJustified : Order → SlotsView → Maps → ℕ → ℕ → ℕ → ℕ → Type 0
IsJustified o v maps q r k s = v.low s ≡ o.low_of k → v.high s ≡ o.high_of k → IsSince maps r q k (suc (v.value s))

pub record IsReadingSlot (o : Order) (v : SlotsView) (maps : Maps) (q : ℕ) (g : Stage) (r k i : ℕ) : Type 0 where
  pub ahead : IsAhead o v maps q g r k i
  pub stable : IsStable v g (o.probe k i)
  pub justified : IsJustified o v maps q r k (o.probe k i)

pub record IsReadingValue (o : Order) (v : SlotsView) (maps : Maps) (q : ℕ) (g : Stage) (r k s : ℕ) : Type 0 where
  pub stable : IsStable v g s
  pub is_low : v.low s ≡ o.low_of k
  pub is_high : v.high s ≡ o.high_of k
  pub justified : IsSince maps r q k (suc (v.value s))

-- while the counter stands
abbrev pub Facts : Order → SlotsView → Maps → ℕ → Stage → ℕ → LookState → Type 0
Facts o v maps q g r (at_state k c i) = IsAhead o v maps q g r k i
Facts o v maps q g r (at_low k c i) = IsReadingSlot o v maps q g r k i
Facts o v maps q g r (at_high k c i l) = IsReadingSlot o v maps q g r k i × (l ≡ v.low (o.probe k i))
Facts o v maps q g r (at_value k c i) = IsReadingValue o v maps q g r k (o.probe k i)
Facts o v maps q g r (checking_value k c x) = IsSince maps r q k (suc x)
Facts o v maps q g r (checking_absence k c) = IsSince maps r q k 0
Facts o v maps q g r look_state = Unit {0}

-- the counter that was loaded, or else the present one
abbrev pub counted : ℕ → LookState → ℕ
counted now (at_state k c i) = c
counted now (at_low k c i) = c
counted now (at_high k c i l) = c
counted now (at_value k c i) = c
counted now (checking_value k c x) = c
counted now (checking_absence k c) = c
counted now look_state = now

abbrev pub IsWithin : Order → LookState → Type 0
IsWithin o (at_state k c i) = i < o.slots
IsWithin o (at_low k c i) = i < o.slots
IsWithin o (at_high k c i l) = i < o.slots
IsWithin o (at_value k c i) = i < o.slots
IsWithin o look_state = Unit {0}

-- What holds of a reader, of the map after q updates and the counter as it stands
pub record LookInvariant (o : Order) (v : SlotsView) (maps : Maps) (q : ℕ) (g : Stage) (now r : ℕ) (look_state : LookState) : Type 0 where
  pub since : r ≤ q
  pub risen : counted now look_state ≤ now
  pub within : IsWithin o look_state
  pub facts : counted now look_state ≡ now → Facts o v maps q g r look_state

-- The steps of a look: what the reader goes on to
abbrev pub passed : Order → ℕ → ℕ → ℕ → LookState
passed o k c i = cond (suc i == o.slots) (checking_absence k c) (at_state k c (suc i))

abbrev pub after_state : Order → ℕ → ℕ → ℕ → ℕ → LookState
after_state o k c i x = cond (x == 0) (checking_absence k c) (cond (x == 1) (at_low k c i) (passed o k c i))

abbrev pub after_high : Order → ℕ → ℕ → ℕ → ℕ → ℕ → LookState
after_high o k c i l x = cond (l == o.low_of k) (cond (x == o.high_of k) (at_value k c i) (passed o k c i)) (passed o k c i)
