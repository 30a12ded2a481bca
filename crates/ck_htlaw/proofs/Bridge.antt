-- The table's slots and looks in the form that ck_slots has for every map of open addressing: what of the table's theory is that, and what is its own.
use Rattle.std.proofs.Common.{◌≡◌, ℕ, zero, suc, ◌≤◌, ◌⊎◌, ⊎_elim, inl, inr, refl, sym, ap, subst}
use Rattle.std.specs.Prelude.{Some, None}
use Rattle.ck_slots.specs.Slots.{Order, SlotsView, Holds}
use Rattle.ck_slots.specs.Holding.{IsHeld}
use Rattle.ck_slots.specs.Looks.{History, Moving, unmoved, half, raised, copies_in, StandAt, KnowsMove, HeldWithin as IsSinceOf, IsUnpassed as IsAheadOf, IsHalfMoved as IsHalfOf}
use Rattle.ck_htlaw.specs.Stages.{Stage, twice, before_tombstone, Maps, Knows, IsMap}
use Rattle.ck_htlaw.specs.Look.{IsSince, IsHalf, IsAhead}
use Rattle.ck_htlaw.specs.Law.{copies_of}
use Rattle.ck_htlaw.proofs.Lives.{opt}
use Rattle.ck_htlaw.proofs.Standing.{is_held, opt_some}

abbrev pub history : Maps → History
history maps = λ p k. opt (maps p k)

abbrev pub moving_of : Stage → Moving
moving_of (twice from w) = half w.key w.to from
moving_of (before_tombstone from w) = raised w.key w.to from
moving_of g = unmoved

same_copies : (g : Stage) → copies_in (moving_of g) ≡ copies_of g
same_copies (twice from w) = refl
same_copies (before_tombstone from w) = refl
same_copies g = refl

opt_none : (n : ℕ) → opt n ≡ None → n ≡ 0
opt_none zero e = refl
opt_none (suc n) e = absurd (let z : Some n ≡ None = e in cc)

module _ (o : Order) (v : SlotsView) (maps : Maps) (q : ℕ) where
  knows : (g : Stage) → Knows o v maps q g → KnowsMove v (history maps) q (moving_of g)
  knows (twice from w) k = record { last = k.last; is_last = k.is_last; had = ap opt k.had }
  knows (before_tombstone from w) k = record { last = k.last; is_last = k.is_last; had = ap opt k.had }
  knows g k = tt

  pub stands : (g : Stage) → IsMap o v maps q g → StandAt o v (history maps) q (moving_of g)
  stands g h = record { held = subst (λ c. IsHeld o v c (λ k. opt (maps q k))) (sym (same_copies g)) (is_held o v maps q g h); knows = knows g h.knows }

  module _ (r k : ℕ) where
    pub since_is : (x : ℕ) → IsSince maps r q k x → IsSinceOf (history maps) r q k (opt x)
    since_is x s = record { place = s.place; low = s.low; high = s.high; gave = ap opt s.gave }

    pub since_found : (x : ℕ) → IsSinceOf (history maps) r q k (Some x) → IsSince maps r q k (suc x)
    since_found x s = record { place = s.place; low = s.low; high = s.high; gave = opt_some (maps s.place k) x s.gave }

    pub since_absent : IsSinceOf (history maps) r q k None → IsSince maps r q k 0
    since_absent s = record { place = s.place; low = s.low; high = s.high; gave = opt_none (maps s.place k) s.gave }

    half_is : (g : Stage) (i : ℕ) → IsHalf o g r q k i → IsHalfOf o (moving_of g) r q k i
    half_is (twice from w) i h = h
    half_is g i h = absurd h

    half_back : (g : Stage) (i : ℕ) → IsHalfOf o (moving_of g) r q k i → IsHalf o g r q k i
    half_back (twice from w) i h = h
    half_back (before_tombstone from w) i h = absurd h
    half_back g i h = absurd h

    pub ahead_is : (g : Stage) (i : ℕ) → IsAhead o v maps q g r k i → IsAheadOf o v (history maps) q (moving_of g) r k i
    ahead_is g i = ⊎_elim (λ (a : IsSince maps r q k 0). inl (since_is 0 a)) (λ (a : ((s : ℕ) → Holds o v k s → i ≤ o.step k s) ⊎ IsHalf o g r q k i). inr (⊎_elim (λ (b : (s : ℕ) → Holds o v k s → i ≤ o.step k s). inl b) (λ (b : IsHalf o g r q k i). inr (half_is g i b)) a))

    pub ahead_back : (g : Stage) (i : ℕ) → IsAheadOf o v (history maps) q (moving_of g) r k i → IsAhead o v maps q g r k i
    ahead_back g i = ⊎_elim (λ (a : IsSinceOf (history maps) r q k None). inl (since_absent a)) (λ (a : ((s : ℕ) → Holds o v k s → i ≤ o.step k s) ⊎ IsHalfOf o (moving_of g) r q k i). inr (⊎_elim (λ (b : (s : ℕ) → Holds o v k s → i ≤ o.step k s). inl b) (λ (b : IsHalfOf o (moving_of g) r q k i). inr (half_back g i b)) a))
