-- Pieces of the arena are regions, and pieces that do not overlap share no word and no counter.
use Rattle.std.proofs.Common.{◌≡◌, ℕ, zero, suc, ◌+◌, ◌-◌, ◌*◌, ◌/◌, ◌^◌, ◌<◌, ◌≤◌, ⊎_elim, inl, inr, arith}
use Rattle.ck_slots.specs.Slots.{Order}
use Rattle.ck_htplan.specs.Region.{order_of}
use Rattle.ck_htplan.proofs.Orders.{order_is, four}
use Rattle.ck_epoch.specs.declared.item.Item.{Item}
use Rattle.ck_reclaim.specs.Pieces.{AreApart}
use Rattle.ck_htlaw.specs.Layout.{arena, table_words, at_of, log_of, layout, IsPiece, region_item, IsTableItem}
use Rattle.ck_htlaw.specs.Invariant.{IsRegion, IsDisjoint}

quarter : (s t i j x : ℕ) → i < 4 → j < 4 → x + 4 * s + i ≡ x + 4 * t + j → (s ≡ t) × (i ≡ j)
quarter s t i j x a b e = (omega arith, omega arith)

counter_low : (n counters : ℕ) → n < 32 * counters → n / 32 < counters
counter_low n counters h = omega arith

pub some_power : (c : ℕ) → 0 < 2 ^ c
some_power zero = omega arith
some_power (suc c) = let h = some_power c in omega arith

module _ (floor base counters : ℕ) (hash : ℕ → ℕ) where
  abbrev orders : ℕ → Order
  orders c = order_of c hash

  pub region : (size root : ℕ) → IsPiece counters root → base + table_words counters ≤ size → IsRegion (layout floor base counters orders) size root
  region size root p fits = let low = p.low in let high = p.high in let some = some_power (log_of root) in
      record {
        ok = order_is (log_of root) hash p.some_lines;
        some_slot = some;
        inside = λ s i b bi. omega arith;
        counter_inside = let z = counter_low (at_of root - arena counters) counters (omega arith) in omega arith;
        once = λ s i t j bi bj e. quarter s t i j (base + at_of root) bi bj e;
        counter_low = let z = counter_low (at_of root - arena counters) counters (omega arith) in omega arith;
        slots_high = λ s i b bi. omega arith;
        off_root = λ s i b bi. omega arith;
        counter_off_root = omega arith;
        own = λ s i b bi. (omega arith, omega arith);
        counter_own = let z = counter_low (at_of root - arena counters) counters (omega arith) in (omega arith, omega arith);
      }

  pub disjoint : (place a b : ℕ) → IsPiece counters a → IsPiece counters b → AreApart (region_item place a) (region_item place b) → IsDisjoint (layout floor base counters orders) a b
  disjoint place a b p q apart = let la = p.low in let lb = q.low in let aa = p.aligned in let ab = q.aligned in let sa = some_power (log_of a) in let sb = some_power (log_of b) in let wa = four (log_of a) in let wb = four (log_of b) in record {
    slots = λ s i t j bs bt bi bj. ⊎_elim (λ (z : place + at_of a + 2 ^ (log_of a + 2) ≤ place + at_of b). λ e. absurd (omega arith)) (λ (z : place + at_of b + 2 ^ (log_of b + 2) ≤ place + at_of a). λ e. absurd (omega arith)) apart;
    counters = λ e. ⊎_elim (λ (z : place + at_of a + 2 ^ (log_of a + 2) ≤ place + at_of b). absurd (omega arith)) (λ (z : place + at_of b + 2 ^ (log_of b + 2) ≤ place + at_of a). absurd (omega arith)) apart;
  }

pub apart_back : (i j : Item) → AreApart i j → AreApart j i
apart_back i j h = ⊎_elim (λ (z : i.at + 2 ^ i.log ≤ j.at). inr z) (λ (z : j.at + 2 ^ j.log ≤ i.at). inl z) h

-- a region lies within the table's words
pub item_inside : (counters place root : ℕ) → IsPiece counters root → IsTableItem counters place (region_item place root)
item_inside counters place root p = let low = p.low in let high = p.high in let some = some_power (log_of root) in (omega arith, omega arith)
