-- No more pieces can be out than the arena has of the shortest length.
use Rattle.std.proofs.Common.{◌≡◌, ◌≢◌, ℕ, ◌+◌, ◌-◌, ◌*◌, ◌/◌, ◌^◌, ◌<◌, ◌≤◌, ⊎_elim, Bool, true, false, ◌==◌, eqb, eqb-true, List, [], ◌∷◌, length, map, refl, sym, ap, ◌∙◌, subst, pow-add, arith}
use Rattle.std.specs.Prelude.{All}
use Rattle.std.specs.List.{IsDistinct, AllByRecursion, list_any}
use Rattle.std.proofs.lemmas.Bool.{cases_lt}
use Rattle.std.proofs.Math.Nat.{mul-div_cancel_left}
use Rattle.std.proofs.lemmas.List.{length-map}
use Rattle.std.proofs.lemmas.List.Elements.{All-head, All-tail, All-weaker}
use Rattle.std.proofs.lemmas.Map.Keys.{IsDistinct-cons}
use Rattle.std.proofs.lemmas.Map.Steps.{length-le_from_distinct_below}
use Rattle.std.proofs.lemmas.Nat.{pow_pos}
use Rattle.ck_words.specs.Buddies.{Arena, Piece, IsPieceOut, ArePiecesApart}
use Rattle.ck_words.proofs.Members.{either}
use Rattle.ck_epoch.specs.declared.item.Item.{Item}
use Rattle.ck_epoch.specs.declared.item.Retired.{Retired}
use Rattle.ck_arena.specs.Arena.{retired_piece, AreItems, AreOnce, IsKept}

-- a multiple of a long piece's length is one of the shortest's
multiples : (least m c : ℕ) → least ≤ c → m * 2 ^ c ≡ 2 ^ least * (m * 2 ^ (c - least))
multiples least m c h = ap (λ (j : ℕ). m * 2 ^ j) (let z : c ≡ c - least + least = omega arith in z) ∙ (ap (λ (j : ℕ). m * j) (pow-add 2 (c - least) least) ∙ shift m (2 ^ (c - least)) (2 ^ least))
  where
    shift : (k j i : ℕ) → k * (j * i) ≡ i * (k * j)
    shift k j i = grind arith

module _ (IsItem : Item → Type 0) (place : ℕ) (present : Piece) (a : Arena) (apart : ArePiecesApart a) where
  -- how many words the shortest piece has, and how many such pieces the arena has
  abbrev unit : ℕ
  unit = 2 ^ a.log_min

  abbrev n : ℕ
  n = 2 ^ (a.log_len - a.log_min)

  -- the number of the shortest piece that a piece begins with
  abbrev line : Piece → ℕ
  line p = (p.at - a.first) / unit

  at_line : (p : Piece) → IsPieceOut a p → (p.at ≡ a.first + unit * line p) × (line p < n)
  at_line p out =
      let placed = apart.placed p out in
      let aligned = placed.1.1 in let m = aligned.0 in
      let q = m * 2 ^ (p.log - a.log_min) in
      let whole = multiples a.log_min m p.log placed.0 in
      let begins : p.at - a.first ≡ unit * q = (let at = aligned.1.0 in omega arith) in
      let number : line p ≡ q = ap (λ (k : ℕ). k / unit) begins ∙ mul-div_cancel_left q (pow_pos a.log_min) in
      let one = pow_split (p.log) placed.0 in let all = pow_split a.log_len (let less = placed.0 in let more = placed.1.0 in omega arith) in
      let high = aligned.1.1 in
      let at : p.at ≡ a.first + unit * q = (let at = aligned.1.0 in omega arith) in
      let some = pow_pos (p.log - a.log_min) in
      (at ∙ ap (λ (k : ℕ). a.first + unit * k) (sym number), subst (λ (k : ℕ). k < n) (sym number) (fits q (2 ^ (p.log - a.log_min)) n unit (pow_pos a.log_min) some (omega arith)))
    where
      pow_split : (c : ℕ) → a.log_min ≤ c → 2 ^ c ≡ unit * 2 ^ (c - a.log_min)
      pow_split c h = ap (λ (j : ℕ). 2 ^ j) (let z : c ≡ a.log_min + (c - a.log_min) = omega arith in z) ∙ pow-add 2 a.log_min (c - a.log_min)

      fits : (q j n u : ℕ) → 0 < u → 0 < j → u * q + u * j ≤ u * n → q < n
      fits q j n u some one h = ⊎_elim (λ l. l) (λ (l : n ≤ q). absurd (let z : u * n ≤ u * q = grind arith in let y : 0 < u * j = grind arith in omega arith)) (cases_lt q n)

  same_line : (p q : Piece) → IsPieceOut a p → IsPieceOut a q → line p ≡ line q → p ≡ q
  same_line p q out_p out_q e =
      let same : p.at ≡ q.at = (at_line p out_p).0 ∙ (ap (λ (k : ℕ). a.first + unit * k) e ∙ sym (at_line q out_q).0) in let some_p = pow_pos p.log in let some_q = pow_pos q.log in
      apart.one p.at p q out_p out_q (omega arith, omega arith) (omega arith, omega arith)

  other_line : (p q : Piece) → IsPieceOut a p → IsPieceOut a q → p ≢ q → (line p == line q) ≡ false
  other_line p q out_p out_q n = by (line p == line q) refl
    where
      by : (b : Bool) → (line p == line q) ≡ b → (line p == line q) ≡ false
      by true test = absurd (n (same_line p q out_p out_q (eqb-true (line p) (line q) test)))
      by false test = test

  abbrev Out : Retired → Type 0
  Out k = IsItem k.item → IsPieceOut a (retired_piece place k) × (retired_piece place k ≢ present)

  abbrev lines_of : List Retired → List ℕ
  lines_of items = map (λ (k : Retired). line (retired_piece place k)) items

  all_other : (p : Piece) → IsPieceOut a p → (items : List Retired) → AreItems IsItem items → All Out items → All (λ (k : Retired). IsItem k.item → p ≢ retired_piece place k) items → AllByRecursion (λ y. (line p == y) ≡ false) (lines_of items)
  all_other p is [] own out differ = tt
  all_other p is (k ∷ ks) own out differ =
      let mine = All-head (λ (j : Retired). IsItem j.item) k ks own in (
        other_line p (retired_piece place k) is (All-head Out k ks out mine).0 (All-head (λ (j : Retired). IsItem j.item → p ≢ retired_piece place j) k ks differ mine),
        all_other p is ks (All-tail (λ (j : Retired). IsItem j.item) k ks own) (All-tail Out k ks out) (All-tail (λ (j : Retired). IsItem j.item → p ≢ retired_piece place j) k ks differ),
      )

  -- no two of them begin with the same one
  all_distinct : (items : List Retired) → AreItems IsItem items → All Out items → AreOnce IsItem place items → IsDistinct eqb (lines_of items)
  unfolding IsDistinct
  all_distinct [] own out once = tt
  all_distinct (k ∷ ks) own out once =
      let mine = All-head (λ (j : Retired). IsItem j.item) k ks own in let p = retired_piece place k in
      let own' = All-tail (λ (j : Retired). IsItem j.item) k ks own in let out' = All-tail Out k ks out in
      IsDistinct-cons eqb (line p) (lines_of ks)
      (all_other p (All-head Out k ks out mine).0 ks own' out' (All-weaker (λ (j : Retired). IsItem k.item → IsItem j.item → p ≢ retired_piece place j) (λ (j : Retired). IsItem j.item → p ≢ retired_piece place j) (λ j d other. d mine other) ks once.0))
      (all_distinct ks own' out' once.1)

  below_all : (items : List Retired) → AreItems IsItem items → All Out items → (q : ℕ) → list_any (eqb q) (lines_of items) ≡ true → q < n
  below_all [] own out q h = absurd cc
  below_all (k ∷ ks) own out q h =
      let mine = All-head (λ (j : Retired). IsItem j.item) k ks own in let p = retired_piece place k in
      ⊎_elim (λ e. subst (λ (x : ℕ). x < n) (sym (eqb-true q (line p) e)) (at_line p (All-head Out k ks out mine).0).1)
      (λ rest. below_all ks (All-tail (λ (j : Retired). IsItem j.item) k ks own) (All-tail Out k ks out) q rest)
      (either (eqb q (line p)) (list_any (eqb q) (lines_of ks)) h)

  -- with the present piece they are at most as many as the arena has of the shortest
  pub few_out : (items : List Retired) → AreItems IsItem items → IsKept IsItem place present items a → length items + 1 ≤ n
  few_out items own kept =
      let p = present in
      let Other : Retired → Type 0 = λ (j : Retired). IsItem j.item → p ≢ retired_piece place j in
      let others = all_other p kept.current items own kept.retired (All-weaker Out Other (λ j o mine e. (o mine).1 (sym e)) items kept.retired) in
      let distinct = IsDistinct-cons eqb (line p) (lines_of items) others (all_distinct items own kept.retired kept.once) in
      let long = length-le_from_distinct_below (line p ∷ lines_of items) n distinct
      (λ q h. ⊎_elim (λ e. subst (λ (x : ℕ). x < n) (sym (eqb-true q (line p) e)) (at_line p kept.current).1) (λ rest. below_all items own kept.retired q rest) (either (eqb q (line p)) (list_any (eqb q) (lines_of items)) h)) in
      let many = length-map items (λ (k : Retired). line (retired_piece place k)) in
      omega arith
