-- The tree over an arena of buddies, as the list of its nodes' halvings. 26 stands for a node that is out, and 25 for one with nothing free.
use Rattle.std.specs.Prelude.{◌≡◌, ◌≢◌, ℕ, zero, suc, ◌+◌, ◌*◌, ◌/◌, ◌<◌, ◌≤◌, ◌↔◌, ◌⊎◌, List, length, slice_index, min, nat_eq, if◌then◌else◌}

-- the halvings of a node that isn't out, from those of its halves: 0 where both are free whole
abbrev pub joined_halvings : ℕ → ℕ → ℕ
joined_halvings left right = if nat_eq (left + right) 0 then 0 else min (min left right) 24 + 1

-- a node's halvings are those of its halves joined, or the node is out and both its halves are as if free; a leaf is free or out
pub record IsConsistentAt (halvings : List ℕ) (i : ℕ) : Type 0 where
  pub out : 2 * i + 1 < length halvings → slice_index halvings i ≡ 26 → (slice_index halvings (2 * i) ≡ 0) × (slice_index halvings (2 * i + 1) ≡ 0)
  pub joined : 2 * i + 1 < length halvings → slice_index halvings i ≢ 26 → slice_index halvings i ≡ joined_halvings (slice_index halvings (2 * i)) (slice_index halvings (2 * i + 1))
  pub leaf : length halvings ≤ 2 * i + 1 → slice_index halvings i ≢ 0 → slice_index halvings i ≡ 26

-- each node but one, if it is a node, is consistent
abbrev pub IsConsistentBut : List ℕ → ℕ → Type 0
IsConsistentBut halvings but = (i : ℕ) → 1 ≤ i → i < length halvings → i ≢ but → IsConsistentAt halvings i

-- each node is consistent
abbrev pub IsConsistent : List ℕ → Type 0
IsConsistent halvings = (i : ℕ) → 1 ≤ i → i < length halvings → IsConsistentAt halvings i

-- the node that stands a number of levels above a node
abbrev pub ancestor : ℕ → ℕ → ℕ
ancestor zero i = i
ancestor (suc up) i = ancestor up (i / 2)

-- neither the node nor any above it is out
abbrev pub NoneOutFrom : List ℕ → ℕ → Type 0
NoneOutFrom halvings i = (up : ℕ) → 1 ≤ ancestor up i → slice_index halvings (ancestor up i) ≢ 26

-- the same nodes are out
abbrev pub SameOut : List ℕ → List ℕ → Type 0
SameOut old new = (i : ℕ) → (slice_index new i ≡ 26) ↔ (slice_index old i ≡ 26)

-- the node is out now, and else the same nodes are
pub record TakesOut (old new : List ℕ) (node : ℕ) : Type 0 where
  pub now : (i : ℕ) → slice_index new i ≡ 26 → (i ≡ node) ⊎ (slice_index old i ≡ 26)
  pub was : (i : ℕ) → (i ≡ node) ⊎ (slice_index old i ≡ 26) → slice_index new i ≡ 26

-- the node isn't out now, and else the same nodes are
pub record PutsBack (old new : List ℕ) (node : ℕ) : Type 0 where
  pub now : (i : ℕ) → slice_index new i ≡ 26 → (i ≢ node) × (slice_index old i ≡ 26)
  pub was : (i : ℕ) → i ≢ node → slice_index old i ≡ 26 → slice_index new i ≡ 26
