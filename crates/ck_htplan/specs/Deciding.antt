-- What an update does to a map of open addressing, and what it answers, by the plan on its slots, whatever the words of the slots are.
use Rattle.std.specs.Prelude.{◌≡◌, ℕ, zero, suc, ◌+◌, ◌*◌, ◌<◌, nat_le, nat_lt, cond, ◌==◌, Option, Some, None}
use Rattle.std.specs.Ordering.{nat_cmp}
use Rattle.ck_history.specs.Map.{Map, find, step}
use Rattle.ck_history.specs.declared.update.Update.{Update}
use Rattle.ck_history.specs.declared.update.Update.TheVariants.{Set, Put, Del, Tidy}
use Rattle.ck_history.specs.declared.update.Reply.{Reply}
use Rattle.ck_history.specs.declared.update.Reply.TheVariants.{Fresh, Was, Has, Missing, Tidied, Full}
use Rattle.ck_slots.specs.Slots.{Order, SlotsView, Holds}
use Rattle.ck_slots.specs.Standing.{Pairs}
use Rattle.ck_slots.specs.Changes.{IsUpdate}
use Rattle.ck_slots.specs.Keeping.{MayTakeKey}
use Rattle.ck_slots.specs.Counting.{count, rebuilt_log}
use Rattle.ck_htplan.specs.declared.cases.Plan.{Plan}
use Rattle.ck_htplan.specs.declared.cases.Plan.TheVariants.{Empty, Reuse, Stand, Move}
use Rattle.ck_htplan.specs.Planning.{plan_of}

pub data Decision : Type 0 where
  -- a fresh key goes into this slot
  adds : ℕ → Decision
  -- another value of a key that stands in this slot, there; or in an earlier one, to which the key moves: to, from
  replaces : ℕ → Decision
  moves : ℕ → ℕ → Decision
  removes : ℕ → Decision
  -- nothing is stored
  stays : Decision
  -- the map is rebuilt to this logarithm of slots, and then decided again
  rebuilds : ℕ → Decision

-- the first full slot from j on, of n slots
abbrev pub next_full : (ℕ → ℕ) → ℕ → ℕ → Option ℕ
next_full state zero j = None
next_full state (suc n) j = cond (state j == 1) (Some j) (next_full state n (suc j))

-- at most so many keys, in a map of 2 ^ c slots
module _ (most c : ℕ) (o : Order) (v : SlotsView) where
  abbrev pub keys : ℕ
  keys = count v.state 1 o.slots

  abbrev pub tombstones : ℕ
  tombstones = count v.state 2 o.slots

  abbrev pub into_empty : ℕ → Decision
  into_empty at = cond (nat_le (4 * (keys + tombstones + 1)) (3 * o.slots)) (adds at) (rebuilds (rebuilt_log c keys))

  abbrev pub with_room : Decision → Decision
  with_room d = cond (nat_lt keys most) d stays

  abbrev pub to_set : Plan → Decision
  to_set (Empty at) = with_room (into_empty at)
  to_set (Reuse at) = with_room (adds at)
  to_set (Stand at) = replaces at
  to_set (Move to from) = moves to from

  abbrev pub to_put : Plan → Decision
  to_put (Empty at) = with_room (into_empty at)
  to_put (Reuse at) = with_room (adds at)
  to_put plan = stays

  abbrev pub to_remove : Plan → Decision
  to_remove (Stand at) = removes at
  to_remove (Move to from) = removes from
  to_remove plan = stays

  abbrev pub decide : Update ℕ → Decision
  decide (Set key value) = to_set (plan_of o v key)
  decide (Put key value) = to_put (plan_of o v key)
  decide (Del key) = to_remove (plan_of o v key)
  decide Tidy = cond (tombstones == 0) stays (rebuilds c)

  abbrev pub added : Reply
  added = cond (nat_lt keys most) Fresh Full

  abbrev pub set_reply : Plan → Reply
  set_reply (Stand at) = Was (v.value at)
  set_reply (Move to from) = Was (v.value from)
  set_reply plan = added

  abbrev pub put_reply : Plan → Reply
  put_reply (Stand at) = Has (v.value at)
  put_reply (Move to from) = Has (v.value from)
  put_reply plan = added

  abbrev pub remove_reply : Plan → Reply
  remove_reply (Stand at) = Was (v.value at)
  remove_reply (Move to from) = Was (v.value from)
  remove_reply plan = Missing

  abbrev pub reply : Update ℕ → Reply
  reply (Set key value) = set_reply (plan_of o v key)
  reply (Put key value) = put_reply (plan_of o v key)
  reply (Del key) = remove_reply (plan_of o v key)
  reply Tidy = Tidied

-- the key of an update, and the value that it stores
abbrev pub key_of : Update ℕ → ℕ
key_of (Set key value) = key
key_of (Put key value) = key
key_of (Del key) = key
key_of Tidy = 0

abbrev pub value_of : Update ℕ → ℕ
value_of (Set key value) = value
value_of (Put key value) = value
value_of update = 0

-- The decision on an update of the key k can be carried out, on slots that stand for the map m
module _ (o : Order) (v : SlotsView) (m : Pairs) (k : ℕ) where
  abbrev pub IsDecided : Decision → Type 0
  IsDecided (adds s) = MayTakeKey o v k s × (m k ≡ None)
  IsDecided (replaces s) = Holds o v k s
  IsDecided (moves to from) = MayTakeKey o v k to × Holds o v k from × (o.step k to < o.step k from)
  IsDecided (removes s) = Holds o v k s
  IsDecided stays = Unit {0}
  IsDecided (rebuilds c) = Unit {0}

-- What the decision makes of the map m of at most so many pairs is what the update makes of it. After a rebuild it is decided again
module _ (most : ℕ) (m : Map ℕ) (u : Update ℕ) where
  -- the map after the update is m, but that it gives the key x, or none
  abbrev pub Changes : Option ℕ → Type 0
  Changes x = IsUpdate (find nat_cmp m) (find nat_cmp (step nat_cmp most m u).0) (key_of u) x

  abbrev pub DoesAsUpdate : Decision → Type 0
  DoesAsUpdate (adds s) = Changes (Some (value_of u))
  DoesAsUpdate (replaces s) = Changes (Some (value_of u))
  DoesAsUpdate (moves to from) = Changes (Some (value_of u))
  DoesAsUpdate (removes s) = Changes None
  DoesAsUpdate stays = (k : ℕ) → find nat_cmp (step nat_cmp most m u).0 k ≡ find nat_cmp m k
  DoesAsUpdate (rebuilds c) = Unit {0}
