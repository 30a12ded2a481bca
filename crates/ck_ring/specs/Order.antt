-- The order of a ring: what holds at each moment of each true run of its calls.
use Rattle.std.specs.Prelude.{◌≡◌, ℕ, ◌+◌, ◌-◌, ◌<◌, ◌≤◌, List, ◌++◌, length, slice_index}
use mathlib.Core.Option.{some}
use lib.ListN.{get_elem?}
use Rattle.ck_run.specs.Run.{Run, replay, account}
use Rattle.ck_run.specs.Rule.{IsRun}
use Rattle.ck_run.specs.Machine.{Claim, follows_of}
use Rattle.ck_ring.specs.declared.layout.TheConstants.{HEAD, TAIL, MOST_SENT}
use Rattle.ck_ring.specs.State.{Origin, TokenState, ring, state_at, size_of, slot}
use Rattle.ck_ring.specs.Ring.{TookPosition, Ascends, Rises, pending, IsInSlot, KnowsHead, IsRingOf}

-- The words and the tokens of a ring, at a moment of a true run, are in ring order: the tail counts what was sent, and the head doesn't
-- pass it. `sent` are the values that the producer sent by then, and `at` is what each token did by then
pub record IsRingOrder (size : ℕ) (words sent : List ℕ) (at : ℕ → TokenState) : Type 0 where
  pub tail : slice_index words TAIL ≡ length sent
  pub head : slice_index words HEAD ≤ length sent
  -- there are never more items in the ring than its size less one, with the value that is to be sent next where the producer found room
  pub room : slice_index words TAIL + pending (at 0).stage ≤ slice_index words HEAD + (size - 1)
  -- the same by the head that the producer loaded last
  pub checked : slice_index words TAIL + pending (at 0).stage ≤ (at 0).seen + (size - 1)
  pub bounded : slice_index words TAIL ≤ MOST_SENT
  -- no token, the producer too, has loaded or found a head above the head
  pub seen_last : (at 0).seen ≤ slice_index words HEAD
  pub seen : (n k x : ℕ) → get_elem? (at n).heads k ≡ some x → x ≤ slice_index words HEAD
  -- the values from the head to below the tail lie in their places
  pub left : (i x : ℕ) → slice_index words HEAD ≤ i → get_elem? sent i ≡ some x → slice_index words (slot size i) ≡ x
  -- a value that the producer stored and hasn't sent yet lies in its place
  pub placed : IsInSlot size words (length sent) (at 0).stage
  -- what a consumer aims at is below the tail, and is the value that was sent there as long as the head stands there
  pub aims : (n : ℕ) → 0 < n → KnowsHead (slice_index words HEAD) sent (at n).stage
  -- each position below the head was taken, by one consumer, with the value that was sent there, and no other position was
  pub taken : (i : ℕ) → i < slice_index words HEAD → (n : ℕ) × (0 < n) × TookPosition (at n) i
  pub once : (n m i : ℕ) → 0 < n → 0 < m → TookPosition (at n) i → TookPosition (at m) i → n ≡ m
  pub values : (n k i x : ℕ) → 0 < n → get_elem? (at n).took k ≡ some (i, x) → (i < slice_index words HEAD) × (get_elem? sent i ≡ some x)
  -- a consumer's positions ascend, and the heads that a token loads or finds never fall
  pub ascends : (n : ℕ) → 0 < n → Ascends (at n).took
  pub rises : (n : ℕ) → Rises (at n).heads

-- The law of a ring: at each moment of each true run of its calls, the words and the tokens are in ring order. A moment is the part of
-- the run that is past
abbrev pub RingOrder : Type 0
RingOrder = (origin : Origin) (past rest : Run) → IsRun (follows_of ring) origin (past ++ rest)
    → IsRingOrder (size_of origin) (replay origin.words past) (state_at origin 0 (account 0 past)).sent (λ n. state_at origin n (account n past))

-- what each step keeps, from which the order follows
abbrev pub ring_invariant : Claim (Unit {0})
ring_invariant = record { State = TokenState; machine = ring; Holds = λ origin past. IsRingOf (size_of origin) }
