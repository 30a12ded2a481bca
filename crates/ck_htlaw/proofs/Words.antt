-- What a store of one word does to the slots of a region.
use Rattle.std.proofs.Common.{◌≡◌, ◌≢◌, ℕ, ◌+◌, ◌<◌, ◌≤◌, refl, sym, ap, ◌∙◌, subst, arith, Bool, true, false, cond, ltb, List, length, set, get_or, get_or-set_other, get_or-set_same, length-set}
use Rattle.std.proofs.lemmas.Bool.Decides.{nat_tests}
use Rattle.ck_htlaw.specs.Stages.{IsPut}
use Rattle.ck_htlaw.specs.Table.{Layout, column, view, count}
use mathlib.Core.Logic.{dite}
use native.Mathlib.Decide.{ℕ_discrete}
use Rattle.ck_htlaw.specs.Invariant.{IsDisjoint, IsRegion, IsOwn}

below_true : (s n : ℕ) → s < n → ltb s n ≡ true
below_true s n h = grind (arith, nat_tests)

true_below : (s n : ℕ) → ltb s n ≡ true → s < n
true_below s n h = grind (arith, nat_tests)

-- where both agree in case the slot is one of the region
pub if_inside : (s n x y : ℕ) → (s < n → x ≡ y) → cond (ltb s n) x 0 ≡ cond (ltb s n) y 0
if_inside s n x y h = go (ltb s n) refl
  where
    go : (b : Bool) → ltb s n ≡ b → cond b x 0 ≡ cond b y 0
    go true e = h (true_below s n e)
    go false e = refl

module _ (l : Layout) (ws : List ℕ) (root : ℕ) where
  pub column_far : (a x i : ℕ) → ((t : ℕ) → t < (l.order root).slots → l.word root t i ≢ a) → column l (set ws a x) root i ≡ column l ws root i
  column_far a x i far = λ z t. if_inside t (l.order root).slots (get_or (set ws a x) (l.word root t i) 0) (get_or ws (l.word root t i) 0) (λ b. get_or-set_other ws a (l.word root t i) x 0 (far t b)) z

  pub column_is : (s i : ℕ) → s < (l.order root).slots → column l ws root i s ≡ get_or ws (l.word root s i) 0
  column_is s i h = ap (λ (b : Bool). cond b (get_or ws (l.word root s i) 0) 0) (below_true s (l.order root).slots h)

  pub view_far : (a x : ℕ) → ((t i : ℕ) → t < (l.order root).slots → i < 4 → l.word root t i ≢ a) → view l (set ws a x) root ≡ view l ws root
  view_far a x far = λ z. record {
    state = column_far a x 0 (λ t b. far t 0 b (omega arith)) z;
    low = column_far a x 1 (λ t b. far t 1 b (omega arith)) z;
    high = column_far a x 2 (λ t b. far t 2 b (omega arith)) z;
    value = column_far a x 3 (λ t b. far t 3 b (omega arith)) z;
  }

  module _ (r : IsRegion l (length ws) root) (s x : ℕ) (inside : s < (l.order root).slots) where
    column_other : (j i : ℕ) → j < 4 → i < 4 → i ≢ j → column l (set ws (l.word root s j) x) root i ≡ column l ws root i
    column_other j i bj bi ne = column_far (l.word root s j) x i (λ t b e. ne (r.once t i s j bi bj e).1)

    pub column_put : (j : ℕ) → j < 4 → IsPut (column l ws root j) (column l (set ws (l.word root s j) x) root j) s x
    column_put j bj = record {
      here = ap (λ (b : Bool). cond b (get_or (set ws (l.word root s j) x) (l.word root s j) 0) 0) (below_true s (l.order root).slots inside) ∙ get_or-set_same ws (l.word root s j) x 0 (r.inside s j inside bj);
      others = λ t n. if_inside t (l.order root).slots (get_or (set ws (l.word root s j) x) (l.word root t j) 0) (get_or ws (l.word root t j) 0)
          (λ b. get_or-set_other ws (l.word root s j) (l.word root t j) x 0 (λ e. n (r.once t j s j bj bj e).0));
    }

    pub view_state : record (view l ws root) { state = column l (set ws (l.word root s 0) x) root 0 } ≡ view l (set ws (l.word root s 0) x) root
    view_state = sym (λ z. record { state = column l (set ws (l.word root s 0) x) root 0; low = column_other 0 1 (omega arith) (omega arith) (λ e. absurd (omega arith)) z; high = column_other 0 2 (omega arith) (omega arith) (λ e. absurd (omega arith)) z; value = column_other 0 3 (omega arith) (omega arith) (λ e. absurd (omega arith)) z })

    pub view_low : record (view l ws root) { low = column l (set ws (l.word root s 1) x) root 1 } ≡ view l (set ws (l.word root s 1) x) root
    view_low = sym (λ z. record { state = column_other 1 0 (omega arith) (omega arith) (λ e. absurd (omega arith)) z; low = column l (set ws (l.word root s 1) x) root 1; high = column_other 1 2 (omega arith) (omega arith) (λ e. absurd (omega arith)) z; value = column_other 1 3 (omega arith) (omega arith) (λ e. absurd (omega arith)) z })

    pub view_high : record (view l ws root) { high = column l (set ws (l.word root s 2) x) root 2 } ≡ view l (set ws (l.word root s 2) x) root
    view_high = sym (λ z. record { state = column_other 2 0 (omega arith) (omega arith) (λ e. absurd (omega arith)) z; low = column_other 2 1 (omega arith) (omega arith) (λ e. absurd (omega arith)) z; high = column l (set ws (l.word root s 2) x) root 2; value = column_other 2 3 (omega arith) (omega arith) (λ e. absurd (omega arith)) z })

    pub view_value : record (view l ws root) { value = column l (set ws (l.word root s 3) x) root 3 } ≡ view l (set ws (l.word root s 3) x) root
    view_value = sym (λ z. record { state = column_other 3 0 (omega arith) (omega arith) (λ e. absurd (omega arith)) z; low = column_other 3 1 (omega arith) (omega arith) (λ e. absurd (omega arith)) z; high = column_other 3 2 (omega arith) (omega arith) (λ e. absurd (omega arith)) z; value = column l (set ws (l.word root s 3) x) root 3 })

    pub count_stays : (j other : ℕ) → j < 4 → l.counter other < l.slots_from → count l (set ws (l.word root s j) x) other ≡ count l ws other
    count_stays j other b low = get_or-set_other ws (l.word root s j) (l.counter other) x 0 (λ e. let z = r.slots_high s j inside b in absurd (omega arith))

    pub root_stays : (j : ℕ) → j < 4 → get_or (set ws (l.word root s j) x) l.base 0 ≡ get_or ws l.base 0
    root_stays j b = get_or-set_other ws (l.word root s j) l.base x 0 (λ e. r.off_root s j inside b (sym e))

  -- a region that shares no word with that of the store
  pub view_apart : (a s j x : ℕ) → IsDisjoint l root a → s < (l.order a).slots → j < 4 → view l (set ws (l.word a s j) x) root ≡ view l ws root
  view_apart a s j x d inside bj = view_far (l.word a s j) x (λ t i bt bi. d.slots t i s j bt inside bi bj)

  pub view_counter : (other x : ℕ) → l.counter other < l.slots_from → IsRegion l (length ws) root → view l (set ws (l.counter other) x) root ≡ view l ws root
  view_counter other x low r = view_far (l.counter other) x (λ t i bt bi e. let z = r.slots_high t i bt bi in absurd (omega arith))

-- what agrees on the table's words does so after a store
pub agree_set : (l : Layout) (ws words : List ℕ) → ((i : ℕ) → IsOwn l i → get_or ws i 0 ≡ get_or words i 0) → length words ≡ length ws → l.base + l.size ≤ length ws → (a x i : ℕ) → IsOwn l i → get_or (set ws a x) i 0 ≡ get_or (set words a x) i 0
agree_set l ws words same long fits a x i own = let b = own.1 in dite (ℕ_discrete i a)
    (λ (e : i ≡ a). subst (λ (z : ℕ). get_or (set ws a x) z 0 ≡ get_or (set words a x) z 0) (sym e) (get_or-set_same ws a x 0 (omega arith) ∙ sym (get_or-set_same words a x 0 (omega arith))))
    (λ (n : i ≢ a). get_or-set_other ws a i x 0 n ∙ (same i own ∙ sym (get_or-set_other words a i x 0 n)))

pub long_set : (ws words : List ℕ) (a x : ℕ) → length words ≡ length ws → length (set words a x) ≡ length (set ws a x)
long_set ws words a x e = length-set words a x ∙ (e ∙ sym (length-set ws a x))
