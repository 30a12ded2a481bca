-- The plan says what is so.
use Rattle.std.proofs.Common.{◌≡◌, ◌≢◌, ℕ, zero, suc, ◌<◌, refl}
use Rattle.ck_slots.specs.Slots.{Order, SlotsView, Holds}
use Rattle.ck_htlaw.specs.Stages.{empty, reuse, move, idle, IsPlanned, Maps, IsMap}
use Rattle.ck_htplan.specs.declared.cases.Plan.TheVariants.{Empty, Reuse, Move}
use Rattle.ck_htplan.proofs.Says.{Says}

-- and is the plan of an update of the map
module _ (o : Order) (v : SlotsView) (maps : Maps) (q : ℕ) (h : IsMap o v maps q idle) (k n : ℕ) where
  pub missing : ((t : ℕ) → Holds o v k t → ⊥) → maps q k ≡ 0
  missing none = go (maps q k) refl
    where
      go : (x : ℕ) → maps q k ≡ x → maps q k ≡ 0
      go zero e = e
      go (suc x) e = let y = h.some_slot k x e in absurd (none y.0 y.1)

  pub plans_empty : (s : ℕ) → Says o v k (Empty s) → ((e : ℕ) × (e < o.slots) × (e ≢ s) × (v.state e ≡ 0)) → IsPlanned o v (maps q) empty record { key = k; number = n; to = s }
  plans_empty s x e = (record { inside = x.0; room = x.1; absent = missing x.3; before = x.2 }, e)

  pub plans_reuse : (s : ℕ) → Says o v k (Reuse s) → IsPlanned o v (maps q) reuse record { key = k; number = n; to = s }
  plans_reuse s x = record { inside = x.0; room = x.1; absent = missing x.3; before = x.2 }

  pub plans_move : (t s : ℕ) → Says o v k (Move t s) → IsPlanned o v (maps q) (move s) record { key = k; number = n; to = t }
  plans_move t s x = record { inside = x.0; room = x.1; stands = x.2; before = x.3 }
