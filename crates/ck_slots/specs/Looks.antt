-- A reader that goes through the slots of a map, in a key's order, while the writer stores: what is known of the key from what it has passed.
use Rattle.std.specs.Prelude.{◌≡◌, ℕ, suc, ◌<◌, ◌≤◌, ◌⊎◌, Option, Some, None}
use Rattle.ck_slots.specs.Slots.{Order, SlotsView, Holds}
use Rattle.ck_slots.specs.Standing.{Copies, single, double, Pairs}
use Rattle.ck_slots.specs.Holding.{IsHeld}
use Rattle.ck_slots.specs.Changes.{IsUpdate}

-- the map after each number of updates
abbrev pub History : Type 0
History = ℕ → Pairs

-- one update more, which gives k the value x, or none
pub record GrowsBy (h h' : History) (q k : ℕ) (x : Option ℕ) : Type 0 where
  pub same : (p j : ℕ) → p ≤ q → h' p j ≡ h p j
  pub update : IsUpdate (h q) (h' (suc q)) k x

-- A key is moved to an earlier slot: the key, the slot that it is moved to and the one that it is moved from, before the raise of the
-- counter and after it
pub data Moving : Type 0 where
  unmoved : Moving
  half : ℕ → ℕ → ℕ → Moving
  raised : ℕ → ℕ → ℕ → Moving

abbrev pub copies_in : Moving → Copies
copies_in unmoved = single
copies_in (half k to from) = double k to from
copies_in (raised k to from) = double k to from

-- the later copy has the value that the key had before the last update
pub record HadBefore (v : SlotsView) (h : History) (q k from : ℕ) : Type 0 where
  pub last : ℕ
  pub is_last : suc last ≡ q
  pub had : h last k ≡ Some (v.value from)

abbrev pub KnowsMove : SlotsView → History → ℕ → Moving → Type 0
KnowsMove v h q unmoved = Unit {0}
KnowsMove v h q (half k to from) = HadBefore v h q k from
KnowsMove v h q (raised k to from) = HadBefore v h q k from

-- the slots stand for the map after q updates
pub record StandAt (o : Order) (v : SlotsView) (h : History) (q : ℕ) (g : Moving) : Type 0 where
  pub held : IsHeld o v (copies_in g) (h q)
  pub knows : KnowsMove v h q g

-- the map gave x for k after at least r and at most q updates
pub record HeldWithin (h : History) (r q k : ℕ) (x : Option ℕ) : Type 0 where
  pub place : ℕ
  pub low : r ≤ place
  pub high : place ≤ q
  pub gave : h place k ≡ x

-- the key's first copy came since the look began, and the later one is still ahead
abbrev pub IsHalfMoved : Order → Moving → ℕ → ℕ → ℕ → ℕ → Type 0
IsHalfMoved o (half key to from) r q k i = (key ≡ k) × (i ≤ o.step k from) × (r < q)
IsHalfMoved o g r q k i = ⊥

-- The look of k has passed the steps before i: k was absent, or all of it is still ahead, or its later copy is
abbrev pub IsUnpassed : Order → SlotsView → History → ℕ → Moving → ℕ → ℕ → ℕ → Type 0
IsUnpassed o v h q g r k i = HeldWithin h r q k None ⊎ (((s : ℕ) → Holds o v k s → i ≤ o.step k s) ⊎ IsHalfMoved o g r q k i)

-- k was absent, or all of it is at steps below b
abbrev pub IsBounded : Order → SlotsView → History → ℕ → ℕ → ℕ → ℕ → Type 0
IsBounded o v h q r k b = HeldWithin h r q k None ⊎ ((s : ℕ) → Holds o v k s → o.step k s < b)

-- What a step of the writer keeps of a look of k that began after r updates
pub record KeepsLooks (o : Order) (v v' : SlotsView) (h h' : History) (q q' : ℕ) (g g' : Moving) (r k : ℕ) : Type 0 where
  pub held : (x : Option ℕ) → HeldWithin h r q k x → HeldWithin h' r q' k x
  pub unpassed : (i : ℕ) → IsUnpassed o v h q g r k i → IsUnpassed o v' h' q' g' r k i
  pub bounded : (b : ℕ) → IsBounded o v h q r k b → IsBounded o v' h' q' r k b

-- What a step of the writer does to slots that stand for a map, and to every look
pub record Steps (o : Order) (v v' : SlotsView) (h h' : History) (q q' : ℕ) (g g' : Moving) : Type 0 where
  pub stand : StandAt o v' h' q' g'
  pub keeps : (r k : ℕ) → r ≤ q → KeepsLooks o v v' h h' q q' g g' r k
