-- The search for the first empty slot of a key's order.
use Rattle.std.proofs.Common.{◌≡◌, ◌≢◌, ℕ, ◌+◌, ◌<◌, sym, ap, ◌∙◌, subst, arith}
use mathlib.Core.Logic.{dite}
use native.Mathlib.Decide.{ℕ_discrete}
use Rattle.ck_slots.specs.Slots.{Order, IsOrder, SlotsView, IsFirst, HasState}

-- no slot of the steps below i is empty
abbrev pub NoneEmpty : Order → SlotsView → ℕ → ℕ → Type 0
NoneEmpty o v k i = (t : ℕ) → t < o.slots → o.step k t < i → v.state t ≢ 0

pub none_passed : (o : Order) (v : SlotsView) (k : ℕ) → NoneEmpty o v k 0
none_passed o v k t few low = absurd (omega arith)

module _ (o : Order) (ok : IsOrder o) (v : SlotsView) (k i at : ℕ) (inside : i < o.slots) (is : at ≡ o.probe k i) (passed : NoneEmpty o v k i) where
  step_at : o.step k at ≡ i
  step_at = ap (o.step k) is ∙ ok.step_probe k i inside

  pub pass_full : v.state at ≢ 0 → NoneEmpty o v k (i + 1)
  pass_full full t few low = dite (ℕ_discrete (o.step k t) i)
      (λ (e : o.step k t ≡ i). λ z. full (ap v.state (is ∙ (ap (o.probe k) (sym e) ∙ ok.probe_step k t few)) ∙ z))
      (λ (n : o.step k t ≢ i). passed t few (omega arith))

  pub found_empty : v.state at ≡ 0 → IsFirst o k (HasState v 0) at
  found_empty empty = record { inside = subst (λ (s : ℕ). s < o.slots) (sym is) (ok.within k i inside); here = empty; none_before = λ t b z. (let e = b.earlier in let s = step_at in passed t b.inside (omega arith) z) }

-- some slot is empty, so not all are passed
pub all_passed : (o : Order) → IsOrder o → (v : SlotsView) (k : ℕ) → ((s : ℕ) × (s < o.slots) × (v.state s ≡ 0)) → NoneEmpty o v k o.slots → ⊥
all_passed o ok v k hole passed = passed hole.0 hole.1 (ok.step_within k hole.0 hole.1) hole.2
