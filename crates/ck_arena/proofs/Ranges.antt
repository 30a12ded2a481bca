-- The ranges of an arena: where none is free all are in use, and where one piece alone is out not all are.
use Rattle.std.proofs.Common.{◌≡◌, ℕ, ◌+◌, ◌-◌, ◌*◌, ◌^◌, ◌<◌, ◌≤◌, ⊎_elim, inl, inr, List, [], refl, sym, ap, ◌∙◌, subst, pow-add, arith}
use Rattle.std.specs.List.{Contains}
use Rattle.std.proofs.lemmas.Bool.{cases_lt}
use Rattle.std.proofs.Math.Nat.{pow-le-pow_right}
use Rattle.ck_words.specs.Buddies.{Arena, Piece, piece, ArePiecesApart, PieceCovers}
use Rattle.ck_epoch.specs.declared.item.Item.{Item}
use Rattle.ck_epoch.specs.declared.item.Retired.{Retired}
use Rattle.ck_arena.specs.Arena.{AreAllInUse, HasNoneFree, IsKept}

none_in : (k : Retired) → Contains {X = Retired} [] k → ⊥
none_in k h = absurd (let z = h.1 in omega arith)

-- a multiple below another is one less
below_multiple : (m c a : ℕ) → m * a < c * a → (m + 1) * a ≤ c * a
below_multiple m c a h = ⊎_elim (λ (l : m < c). grind arith) (λ (l : c ≤ m). absurd (let z : c * a ≤ m * a = grind arith in omega arith)) (cases_lt m c)

module _ (IsItem : Item → Type 0) (place : ℕ) (present : Piece) (a : Arena) where
  -- with nothing but the present piece out, and room for two ranges of its length and of this one
  pub one_free : (log most : ℕ) → ArePiecesApart a → IsKept IsItem place present [] a → log ≤ most → present.log ≤ most → most < a.log_len → HasNoneFree a log → ⊥
  one_free log most apart kept le less two none =
      let placed = apart.placed present kept.current in
      let at = placed.1.1 in
      let m = at.0 in
      let wide : 2 ^ most ≡ 2 ^ (most - present.log) * 2 ^ present.log = split most present.log less in
      let mine : 2 ^ most ≡ 2 ^ (most - log) * 2 ^ log = split most log le in
      let whole : 2 ^ (most + 1) ≤ 2 ^ a.log_len = pow-le-pow_right {n = 2} (omega arith) {i = most + 1} {j = a.log_len} (omega arith) in
      let twice : 2 ^ (most + 1) ≡ 2 ^ most * 2 = pow-add 2 most 1 in
      let short : 2 ^ log ≤ 2 ^ most = pow-le-pow_right {n = 2} (omega arith) {i = log} {j = most} le in
      ⊎_elim
      (λ (l : present.at < a.first + 2 ^ most).
      let end = below_multiple m (2 ^ (most - present.log)) (2 ^ present.log) (omega arith) in
      let shifted : (m + 1) * 2 ^ present.log ≡ m * 2 ^ present.log + 2 ^ present.log = grind arith in
      meets (a.first + 2 ^ (most - log) * 2 ^ log) (2 ^ (most - log), (refl, omega arith)) (λ w from to. omega arith))
      (λ (l : a.first + 2 ^ most ≤ present.at). meets (a.first + 0 * 2 ^ log) (0, (refl, omega arith)) (λ w from to. omega arith))
      (cases_lt present.at (a.first + 2 ^ most))
    where
      split : (n k : ℕ) → k ≤ n → 2 ^ n ≡ 2 ^ (n - k) * 2 ^ k
      split n k h = ap (λ (j : ℕ). 2 ^ j) (let z : n ≡ n - k + k = omega arith in z) ∙ pow-add 2 (n - k) k

      meets : (x : ℕ) → (k : ℕ) × ((x ≡ a.first + k * 2 ^ log) × (x + 2 ^ log ≤ a.first + 2 ^ a.log_len)) → ((w : ℕ) → PieceCovers (piece x log) w → PieceCovers present w → ⊥) → ⊥
      meets x aligned off =
          let out = none x aligned in
          let covers = subst (λ (q : Piece). PieceCovers q out.0) (⊎_elim (λ e. e) (λ k. absurd (none_in k.0 k.1)) (kept.only out.1.1.0 out.1.1.1.0)) out.1.1.1.1 in
          off out.0 out.1.0 covers

  -- where none is free each range has a word of the present piece or of an item that isn't given back
  pub in_use : (first words : ℕ) (items : List Retired) (log : ℕ) → a.first ≡ first → 2 ^ a.log_len ≡ words → IsKept IsItem place present items a → HasNoneFree a log → AreAllInUse first words place present items log
  in_use first words items log begins long kept none k fits =
      let shift : (k + 1) * 2 ^ log ≡ k * 2 ^ log + 2 ^ log = grind arith in
      let at : first + k * 2 ^ log ≡ a.first + k * 2 ^ log = ap (λ (x : ℕ). x + k * 2 ^ log) (sym begins) in
      let out = none (first + k * 2 ^ log) (k, (at, omega arith)) in
      ⊎_elim (λ e. inl (out.0, out.1.0, subst (λ (q : Piece). PieceCovers q out.0) e out.1.1.1.1)) (λ r. inr (r.0, r.1, (out.0, out.1.0, subst (λ (q : Piece). PieceCovers q out.0) (sym r.2) out.1.1.1.1))) (kept.only out.1.1.0 out.1.1.1.0)
