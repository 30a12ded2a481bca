-- What a region stands for, in the words of a reader.
use Rattle.std.proofs.Common.{◌≡◌, ℕ, zero, suc, ⊎_elim, inl, inr, sym, refl, ap, subst}
use Rattle.std.specs.Prelude.{Some, None}
use Rattle.ck_slots.specs.Slots.{Order, SlotsView}
use Rattle.ck_slots.specs.Standing.{StandFor}
use Rattle.ck_slots.specs.Holding.{IsOld as IsLater, AreCopies, IsHeld}
use Rattle.ck_slots.proofs.Forms.{held_stands}
use Rattle.ck_htlaw.specs.Stages.{Stage, twice, before_tombstone, IsOld, Maps, Knows, IsMap}
use Rattle.ck_htlaw.specs.Law.{copies_of}
use Rattle.ck_htlaw.proofs.Lives.{opt}

old_is : (g : Stage) (k s : ℕ) → IsOld g k s ≡ IsLater (copies_of g) k s
old_is (twice from w) k s = refl
old_is (before_tombstone from w) k s = refl
old_is g k s = refl

pub opt_some : (n x : ℕ) → opt n ≡ Some x → n ≡ suc x
opt_some zero x e = absurd (let z : None ≡ Some x = e in cc)
opt_some (suc n) x e = let z : Some n ≡ Some x = e in let same : n ≡ x = cc in ap suc same

module _ (o : Order) (v : SlotsView) (maps : Maps) (q : ℕ) where
  copied : (g : Stage) → Knows o v maps q g → AreCopies o v (copies_of g)
  copied (twice from w) k = (k.first, k.second, k.before)
  copied (before_tombstone from w) k = (k.first, k.second, k.before)
  copied g k = tt

  pub is_held : (g : Stage) → IsMap o v maps q g → IsHeld o v (copies_of g) (λ k. opt (maps q k))
  is_held g h = record {
    hole = h.hole;
    way = λ k s t x b. h.way k s t x b.inside b.earlier;
    present = λ k s x. ⊎_elim (λ (u : IsOld g k s). inl (subst (λ (T : Type 0). T) (old_is g k s) u)) (λ (u : maps q k ≡ suc (v.value s)). inr (ap opt u)) (h.present k s x);
    stands = λ k x e. let y = h.some_slot k x (opt_some (maps q k) x e) in (y.0, y.1, λ u. y.2 (subst (λ (T : Type 0). T) (sym (old_is g k y.0)) u));
    once = λ k s t x y. ⊎_elim (λ (u : s ≡ t). inl u) (λ u. inr (⊎_elim (λ (z : IsOld g k s). inl (subst (λ (T : Type 0). T) (old_is g k s) z)) (λ (z : IsOld g k t). inr (subst (λ (T : Type 0). T) (old_is g k t) z)) u)) (h.once k s t x y);
    copied = copied g h.knows;
  }

  pub stood : (g : Stage) → IsMap o v maps q g → StandFor o v (copies_of g) (λ k. opt (maps q k))
  stood g h = held_stands o v (λ k. opt (maps q k)) (copies_of g) (is_held g h)
