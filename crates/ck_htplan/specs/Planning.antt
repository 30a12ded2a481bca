-- The plan of an update as a function of the slots, along the probe order of its key. ck_htplan says which plan is right.
use Rattle.std.specs.Prelude.{ℕ, zero, suc, cond, ◌==◌}
use Rattle.ck_slots.specs.Slots.{Order, SlotsView}
use Rattle.ck_slots.specs.Keeping.{holds_test}
use Rattle.ck_htplan.specs.declared.cases.Plan.{Plan}
use Rattle.ck_htplan.specs.declared.cases.Plan.TheVariants.{Empty, Reuse, Stand, Move}

-- by the first tombstone on the way: 0 where there is none, else 1 more than its slot
abbrev pub fresh_plan : ℕ → ℕ → Plan
fresh_plan zero s = Empty s
fresh_plan (suc t) s = Reuse t

abbrev pub met_plan : ℕ → ℕ → Plan
met_plan zero s = Stand s
met_plan (suc t) s = Move t s

abbrev pub first_tombstone : ℕ → ℕ → ℕ
first_tombstone zero s = suc s
first_tombstone (suc t) s = suc t

-- n steps from step i on
abbrev pub walk : Order → SlotsView → ℕ → ℕ → ℕ → ℕ → Plan
walk o v k zero i tomb = fresh_plan tomb 0
walk o v k (suc n) i tomb = cond (v.state (o.probe k i) == 0) (fresh_plan tomb (o.probe k i)) (cond (holds_test o v k (o.probe k i)) (met_plan tomb (o.probe k i))
    (walk o v k n (suc i) (cond (v.state (o.probe k i) == 2) (first_tombstone tomb (o.probe k i)) tomb)))

abbrev pub plan_of : Order → SlotsView → ℕ → Plan
plan_of o v k = walk o v k o.slots 0 0
