-- The slots of one map as numbers, the writer's work on them, and what holds of both at each moment of a run.
use Rattle.ck_slots.specs.Slots.{Order, SlotsView, Holds}
use Rattle.std.specs.Prelude.{◌≡◌, ◌≢◌, ℕ, zero, suc, ◌<◌, ◌≤◌, ◌⊎◌, List, Bool, cond, ◌==◌, ◌&&◌}

-- what an update stores, and where
pub record Insertion : Type 0 where
  pub key : ℕ
  pub number : ℕ
  pub to : ℕ

-- a fresh key into an empty slot or a tombstone, or a present one from a slot further on
pub data Target : Type 0 where
  empty : Target
  reuse : Target
  move : ℕ → Target

-- Where the writer stands within an update
pub data Stage : Type 0 where
  idle : Stage
  -- raised the counter; then stored the value, the low word, the high word
  with_bump : Target → Insertion → Stage
  with_value : Target → Insertion → Stage
  with_low : Target → Insertion → Stage
  with_high : Target → Insertion → Stage
  -- the key stands twice, before and after the second raise
  twice : ℕ → Insertion → Stage
  before_tombstone : ℕ → Insertion → Stage
  -- stored the tombstone of a removal
  with_tombstone : Stage
  -- within a call that rebuilds: so many slots of the new region are cleared; the pairs of so many old slots are copied, and one more is on its way; the new region is published and the call goes on
  clearing : List ℕ → ℕ → ℕ → Stage
  copying : List ℕ → ℕ → ℕ → Stage → Stage
  -- the old region is to be retired, and then the call goes on, or ends
  retiring : ℕ → List ℕ → Stage
  retiring_at_end : ℕ → Stage
  after_rebuild : List ℕ → Stage

-- the slot is the later copy of a key that is being moved
abbrev pub IsOld : Stage → ℕ → ℕ → Type 0
IsOld (twice from w) k s = (w.key ≡ k) × (from ≡ s)
IsOld (before_tombstone from w) k s = (w.key ≡ k) × (from ≡ s)
IsOld g k s = ⊥

-- the slot isn't one that is being filled
abbrev pub IsApart : Stage → ℕ → Type 0
IsApart (with_bump c w) s = w.to ≢ s
IsApart (with_value c w) s = w.to ≢ s
IsApart (with_low c w) s = w.to ≢ s
IsApart (with_high c w) s = w.to ≢ s
IsApart g s = Unit {0}

-- A fresh key goes into a slot of this state, which is the first of its kind on the way
pub record IsFresh (o : Order) (v : SlotsView) (m : ℕ → ℕ) (w : Insertion) (x : ℕ) : Type 0 where
  pub inside : w.to < o.slots
  pub room : v.state w.to ≡ x
  pub absent : m w.key ≡ 0
  pub before : (t : ℕ) → t < o.slots → o.step w.key t < o.step w.key w.to → v.state t ≢ 0

pub record IsMove (o : Order) (v : SlotsView) (from : ℕ) (w : Insertion) : Type 0 where
  pub inside : w.to < o.slots
  pub room : v.state w.to ≡ 2
  pub stands : Holds o v w.key from
  pub before : o.step w.key w.to < o.step w.key from

abbrev pub IsPlanned : Order → SlotsView → (ℕ → ℕ) → Target → Insertion → Type 0
IsPlanned o v m empty w = IsFresh o v m w 0 × ((e : ℕ) × (e < o.slots) × (e ≢ w.to) × (v.state e ≡ 0))
IsPlanned o v m reuse w = IsFresh o v m w 2
IsPlanned o v m (move from) w = IsMove o v from w

-- The map after p updates gives 0 for a key that is absent, and otherwise 1 more than its value
abbrev pub Maps : Type 0
Maps = ℕ → ℕ → ℕ

-- the key stands twice, and the later copy has the value that it had before this update
pub record IsTwice (o : Order) (v : SlotsView) (maps : Maps) (q from : ℕ) (w : Insertion) : Type 0 where
  pub first : Holds o v w.key w.to
  pub second : Holds o v w.key from
  pub before : o.step w.key w.to < o.step w.key from
  pub last : ℕ
  pub is_last : suc last ≡ q
  pub had : maps last w.key ≡ suc (v.value from)

-- what the writer knows of the words within an update
abbrev pub Knows : Order → SlotsView → Maps → ℕ → Stage → Type 0
Knows o v maps q (with_bump c w) = IsPlanned o v (maps q) c w
Knows o v maps q (with_value c w) = IsPlanned o v (maps q) c w × (v.value w.to ≡ w.number)
Knows o v maps q (with_low c w) = IsPlanned o v (maps q) c w × (v.value w.to ≡ w.number) × (v.low w.to ≡ o.low_of w.key)
Knows o v maps q (with_high c w) = IsPlanned o v (maps q) c w × (v.value w.to ≡ w.number) × (v.low w.to ≡ o.low_of w.key) × (v.high w.to ≡ o.high_of w.key)
Knows o v maps q (twice from w) = IsTwice o v maps q from w
Knows o v maps q (before_tombstone from w) = IsTwice o v maps q from w
Knows o v maps q g = Unit {0}

-- The words stand for the map after q updates
pub record IsMap (o : Order) (v : SlotsView) (maps : Maps) (q : ℕ) (g : Stage) : Type 0 where
  -- some slot is empty
  pub hole : (e : ℕ) × (e < o.slots) × (v.state e ≡ 0)
  -- no slot on the way to a key is empty
  pub way : (k s t : ℕ) → Holds o v k s → t < o.slots → o.step k t < o.step k s → v.state t ≢ 0
  -- what stands is in the map, but for the later copy of a key that is being moved
  pub present : (k s : ℕ) → Holds o v k s → IsOld g k s ⊎ (maps q k ≡ suc (v.value s))
  -- what is in the map stands
  pub some_slot : (k x : ℕ) → maps q k ≡ suc x → (s : ℕ) × Holds o v k s × (IsOld g k s → ⊥)
  pub once : (k s t : ℕ) → Holds o v k s → Holds o v k t → (s ≡ t) ⊎ (IsOld g k s ⊎ IsOld g k t)
  -- a full slot holds a key
  pub keyed : (s : ℕ) → s < o.slots → v.state s ≡ 1 → (k : ℕ) × Holds o v k s
  -- a slot is empty, full or a tombstone
  pub states : (s : ℕ) → s < o.slots → v.state s ≤ 2
  pub knows : Knows o v maps q g

-- the word of one slot is another now
pub record IsPut (f h : ℕ → ℕ) (s x : ℕ) : Type 0 where
  pub here : h s ≡ x
  pub others : (t : ℕ) → t ≢ s → h t ≡ f t

-- the map is the one before, but for one key
pub record IsStep (maps maps' : Maps) (q k x : ℕ) : Type 0 where
  pub same : (p j : ℕ) → p ≤ q → maps' p j ≡ maps p j
  pub here : maps' (suc q) k ≡ x
  pub others : (j : ℕ) → j ≢ k → maps' (suc q) j ≡ maps q j

abbrev pub holds_test : Order → SlotsView → ℕ → ℕ → Bool
holds_test o v k s = (v.state s == 1) && ((v.low s == o.low_of k) && (v.high s == o.high_of k))

-- the map of the pairs that stand in the slots below j
abbrev pub parts : Order → SlotsView → Maps
parts o v zero k = 0
parts o v (suc j) k = cond (holds_test o v k j) (suc (v.value j)) (parts o v j k)

abbrev pub NoneFull : SlotsView → ℕ → ℕ → Type 0
NoneFull v j i = (s : ℕ) → j ≤ s → s < i → v.state s ≢ 1
