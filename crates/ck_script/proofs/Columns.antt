-- Rows that are kept in columns.
use Rattle.std.specs.Prelude.{nat_le, slice_get, Some, Result, Ok, Err, OnOk, OnErr}
use Rattle.std.proofs.Common.{◌≡◌, ◌⊎◌, ℕ, zero, suc, ◌+◌, ◌-◌, ◌<◌, ◌≤◌, ◌^◌, ◌%◌, nat_lt, inl, inr, true, false, if◌then◌else◌, List, [], ◌∷◌, ◌++◌, length, get_or, refl, ap, arith, ◌∙◌, sym, subst}
use Rattle.std.proofs.lemmas.Bool.{cases_lt}
use Rattle.std.proofs.lemmas.Bool.Decides.{nat_tests}
use Rattle.std.proofs.lemmas.List.{length_push}
use Rattle.std.proofs.lemmas.Option.{slice_get_within, slice_get-get_or, get_or_from_slice_get}
use Rattle.std.proofs.lemmas.Grind.{elements}
use Rattle.ck_script.specs.declared.rows.Row.{Row}
use Rattle.ck_script.specs.Columns.{ahead_after, ahead_at, AreJumps, AreMore, kind_of, number_in, row_at, rows_of, AreWithin, AreRowsKept}

le_true : (a b : ℕ) → a ≤ b → nat_le a b ≡ true
le_true a b le = grind (arith, nat_tests)

le_false : (a b : ℕ) → b < a → nat_le a b ≡ false
le_false a b lt = grind (arith, nat_tests)

lt_true : (a b : ℕ) → a < b → nat_lt a b ≡ true
lt_true a b lt = grind (arith, nat_tests)

lt_false : (a b : ℕ) → b ≤ a → nat_lt a b ≡ false
lt_false a b le = grind (arith, nat_tests)

-- after no jump that is reached the number is that of before
pub ahead_none : (d : ℕ) (jumps : List (ℕ × ℕ)) (i : ℕ) → ((j : ℕ) (x : ℕ × ℕ) → slice_get jumps j ≡ Some x → i < x.0) → ahead_after d jumps i ≡ d
ahead_none d [] i above = refl
ahead_none d (j ∷ jumps) i above = ap (λ b. if b then ahead_after j.1 jumps i else d) (le_false j.0 i (above 0 j refl))

-- the number is that of the last jump that is reached
pub ahead_last : (d : ℕ) (jumps : List (ℕ × ℕ)) (i k : ℕ) (last : ℕ × ℕ) → slice_get jumps k ≡ Some last
    → ((j : ℕ) (x : ℕ × ℕ) → j ≤ k → slice_get jumps j ≡ Some x → x.0 ≤ i) → ((j : ℕ) (x : ℕ × ℕ) → k < j → slice_get jumps j ≡ Some x → i < x.0)
    → ahead_after d jumps i ≡ last.1
ahead_last d [] i k last is below above = absurd (omega (arith, slice_get_within [] k last is))
ahead_last d (j ∷ jumps) i zero last is below above =
    let here : j ≡ last = cc in
    ap (λ b. if b then ahead_after j.1 jumps i else d) (le_true j.0 i (below 0 j (omega arith) refl))
    ∙ (ahead_none j.1 jumps i (λ n x at. above (suc n) x (omega arith) at) ∙ ap (λ (y : ℕ × ℕ). y.1) here)
ahead_last d (j ∷ jumps) i (suc k) last is below above =
    ap (λ b. if b then ahead_after j.1 jumps i else d) (le_true j.0 i (below 0 j (omega arith) refl))
    ∙ ahead_last j.1 jumps i k last is (λ n x le at. below (suc n) x (omega arith) at) (λ n x lt at. above (suc n) x (omega arith) at)

-- a jump at a later place changes nothing before it
ahead_before : (d : ℕ) (jumps : List (ℕ × ℕ)) (i : ℕ) (new : ℕ × ℕ) → i < new.0 → ahead_after d (jumps ++ new ∷ []) i ≡ ahead_after d jumps i
ahead_before d [] i new lt = ap (λ b. if b then new.1 else d) (le_false new.0 i lt)
ahead_before d (j ∷ jumps) i new lt = ap (λ n. if nat_le j.0 i then n else d) (ahead_before j.1 jumps i new lt)

-- a jump that no other is after counts from its place on
ahead_from : (d : ℕ) (jumps : List (ℕ × ℕ)) (i : ℕ) (new : ℕ × ℕ) → ((j : ℕ) (x : ℕ × ℕ) → slice_get jumps j ≡ Some x → x.0 ≤ i) → new.0 ≤ i → ahead_after d (jumps ++ new ∷ []) i ≡ new.1
ahead_from d [] i new reached le = ap (λ b. if b then new.1 else d) (le_true new.0 i le)
ahead_from d (j ∷ jumps) i new reached le =
    ap (λ b. if b then ahead_after j.1 (jumps ++ new ∷ []) i else d) (le_true j.0 i (reached 0 j refl)) ∙ ahead_from j.1 jumps i new (λ n x at. reached (suc n) x at) le

-- an element of a list with one more at its end
get_push : {X : Type 0} (xs : List X) (y : X) (j : ℕ) (x : X) → slice_get (xs ++ y ∷ []) j ≡ Some x → (slice_get xs j ≡ Some x) ⊎ ((j ≡ length xs) × (x ≡ y))
get_push [] y zero x is = let e : y ≡ x = cc in inr (refl, sym e)
get_push [] y (suc j) x is = absurd (omega (arith, slice_get_within [] j x is))
get_push (z ∷ xs) y zero x is = inl is
get_push (z ∷ xs) y (suc j) x is = elim (get_push xs y j x is) [ inl at ↦ inl at | inr last ↦ inr (ap suc last.0, last.1) ]

-- one more jump, at the place of the next row
pub jumps_push : (jumps : List (ℕ × ℕ)) (ahead place now : ℕ) → AreJumps jumps ahead place → AreJumps (jumps ++ (place, now) ∷ []) now place
jumps_push jumps ahead place now h = record {
  ascending = λ a b x y le at at'. elim (get_push jumps (place, now) b y at') [
    | inl old' ↦ elim (get_push jumps (place, now) a x at) [ inl old ↦ h.ascending a b x y le old old' | inr new ↦ absurd (omega (arith, new.0, slice_get_within jumps b y old')) ]
    | inr new' ↦ elim (get_push jumps (place, now) a x at) [ inl old ↦ subst (λ (z : ℕ × ℕ). x.0 ≤ z.0) (sym new'.1) (h.reached a x old) | inr new ↦ let e : x.0 ≡ y.0 = ap (λ (z : ℕ × ℕ). z.0) (new.1 ∙ sym new'.1) in omega (arith, e) ]
  ];
  reached = λ j x at. elim (get_push jumps (place, now) j x at) [ inl old ↦ h.reached j x old | inr new ↦ let e : x.0 ≡ place = ap (λ (z : ℕ × ℕ). z.0) new.1 in omega (arith, e) ];
  last = λ i le. ahead_from 1 jumps i (place, now) (λ j x at. omega (arith, h.reached j x at)) le;
}

pub jumps_before : (jumps : List (ℕ × ℕ)) (place now : ℕ) (i : ℕ) → i < place → ahead_at (jumps ++ (place, now) ∷ []) i ≡ ahead_at jumps i
jumps_before jumps place now i lt = ahead_before 1 jumps i (place, now) lt

-- a number that isn't wide
pub narrow_kind : (kind : ℕ) → kind < 128 → kind_of kind ≡ kind
narrow_kind kind lt = ap (λ b. if b then kind else kind - 128) (lt_true kind 128 lt)

pub narrow_number : (wides : List ℕ) (kind low : ℕ) → kind < 128 → number_in wides kind low ≡ low
narrow_number wides kind low lt = ap (λ b. if b then low else get_or wides low 0) (lt_true kind 128 lt)

pub wide_kind : (kind : ℕ) → kind_of (kind + 128) ≡ kind
wide_kind kind = let e : (kind + 128) - 128 ≡ kind = omega arith in ap (λ b. if b then kind + 128 else (kind + 128) - 128) (lt_false (kind + 128) 128 (omega arith)) ∙ e

pub wide_number : (wides : List ℕ) (kind low : ℕ) → 128 ≤ kind → number_in wides kind low ≡ get_or wides low 0
wide_number wides kind low le = ap (λ b. if b then low else get_or wides low 0) (lt_false kind 128 le)

-- a list with one more at its end
pub more_push : (old : List ℕ) (x : ℕ) → AreMore old (old ++ x ∷ [])
more_push old x = (omega (arith, length_push old x), λ p lt. grind (arith, elements, lt))

narrow_or_wide : (k : ℕ) → (k < 128) ⊎ (128 ≤ k)
narrow_or_wide k = cases_lt k 128

number_same : (wides wides' : List ℕ) (k low : ℕ) → AreMore wides wides' → (128 ≤ k → low < length wides) → number_in wides' k low ≡ number_in wides k low
number_same wides wides' k low more within = elim (narrow_or_wide k) [
  | inl lt ↦ narrow_number wides' k low lt ∙ sym (narrow_number wides k low lt)
  | inr le ↦ wide_number wides' k low le ∙ (more.1 low (within le) ∙ sym (wide_number wides k low le))
]

-- within a list the element is the same for each default
get_or_any : {X : Type 0} (xs : List X) (i : ℕ) (d e : X) → i < length xs → get_or xs i d ≡ get_or xs i e
get_or_any xs i d e lt = get_or_from_slice_get xs i (get_or xs i e) d (slice_get-get_or xs i e lt)

-- what is there once
some_same : {X : Type 0} (x y : X) → Some x ≡ Some y → x ≡ y
some_same x y e = cc

module _ {R : Type 0} where
  -- rows stay where wide numbers are added, and a jump at a place after them
  rows_same : (jumps jumps' : List (ℕ × ℕ)) (wides wides' : List ℕ) (i : ℕ) (kinds : List ℕ) (cells : List (ℕ × R))
      → ((j : ℕ) → j < i + length kinds → ahead_at jumps' j ≡ ahead_at jumps j) → AreMore wides wides'
      → AreWithin wides kinds cells → rows_of jumps' wides' i kinds cells ≡ rows_of jumps wides i kinds cells
  rows_same jumps jumps' wides wides' i [] cells aheads more within = refl
  rows_same jumps jumps' wides wides' i (k ∷ kinds) [] aheads more within = refl
  rows_same jumps jumps' wides wides' i (k ∷ kinds) (cell ∷ cells) aheads more within =
      let later = rows_same jumps jumps' wides wides' (i + 1) kinds cells (λ j lt. aheads j (omega arith)) more within.1 in
      let number : number_in wides' k cell.0 ≡ number_in wides k cell.0 = number_same wides wides' k cell.0 more within.0 in
      let ahead : ahead_at jumps' i ≡ ahead_at jumps i = aheads i (omega arith) in
      ap (λ a. record { line = (i + a) % 2 ^ 64; kind = kind_of k; number = number_in wides' k cell.0; rest = cell.1 } ∷ rows_of jumps' wides' (i + 1) kinds cells) ahead
      ∙ (ap (λ n. record { line = (i + ahead_at jumps i) % 2 ^ 64; kind = kind_of k; number = n; rest = cell.1 } ∷ rows_of jumps' wides' (i + 1) kinds cells) number
      ∙ ap (λ rows. row_at jumps wides i k cell ∷ rows) later)

  within_same : (wides wides' : List ℕ) (kinds : List ℕ) (cells : List (ℕ × R)) → length wides ≤ length wides' → AreWithin wides kinds cells → AreWithin wides' kinds cells
  within_same wides wides' [] cells le within = tt
  within_same wides wides' (k ∷ kinds) [] le within = tt
  within_same wides wides' (k ∷ kinds) (cell ∷ cells) le within = (λ wide. omega (arith, within.0 wide), within_same wides wides' kinds cells le within.1)

  within_push : (wides : List ℕ) (kinds : List ℕ) (cells : List (ℕ × R)) (k : ℕ) (cell : ℕ × R) → length kinds ≡ length cells → (128 ≤ k → cell.0 < length wides) → AreWithin wides kinds cells → AreWithin wides (kinds ++ k ∷ []) (cells ++ cell ∷ [])
  within_push wides [] [] k cell same new within = (new, tt)
  within_push wides [] (c ∷ cells) k cell same new within = absurd (omega (arith, same))
  within_push wides (j ∷ kinds) [] k cell same new within = absurd (omega (arith, same))
  within_push wides (j ∷ kinds) (c ∷ cells) k cell same new within = (within.0, within_push wides kinds cells k cell (omega (arith, same)) new within.1)

  rows_push : (jumps : List (ℕ × ℕ)) (wides : List ℕ) (i : ℕ) (kinds : List ℕ) (cells : List (ℕ × R)) (k : ℕ) (cell : ℕ × R) → length kinds ≡ length cells
      → rows_of jumps wides i (kinds ++ k ∷ []) (cells ++ cell ∷ []) ≡ rows_of jumps wides i kinds cells ++ row_at jumps wides (i + length kinds) k cell ∷ []
  rows_push jumps wides i [] [] k cell same = let place : i ≡ i + 0 = omega arith in ap (λ n. row_at jumps wides n k cell ∷ []) place
  rows_push jumps wides i [] (c ∷ cells) k cell same = absurd (omega (arith, same))
  rows_push jumps wides i (j ∷ kinds) [] k cell same = absurd (omega (arith, same))
  rows_push jumps wides i (j ∷ kinds) (c ∷ cells) k cell same =
      let place : (i + 1) + length kinds ≡ i + suc (length kinds) = omega arith in
      ap (λ rows. row_at jumps wides i j c ∷ rows) (rows_push jumps wides (i + 1) kinds cells k cell (omega (arith, same))
      ∙ ap (λ n. rows_of jumps wides (i + 1) kinds cells ++ row_at jumps wides n k cell ∷ []) place)

  -- the row at a place
  rows_get : (jumps : List (ℕ × ℕ)) (wides : List ℕ) (i n : ℕ) (kinds : List ℕ) (cells : List (ℕ × R)) (k : ℕ) (cell : ℕ × R) → slice_get kinds n ≡ Some k → slice_get cells n ≡ Some cell
      → slice_get (rows_of jumps wides i kinds cells) n ≡ Some (row_at jumps wides (i + n) k cell)
  rows_get jumps wides i n [] cells k cell at at' = absurd (omega (arith, slice_get_within [] n k at))
  rows_get jumps wides i n (j ∷ kinds) [] k cell at at' = absurd (omega (arith, slice_get_within [] n cell at'))
  rows_get jumps wides i zero (j ∷ kinds) (c ∷ cells) k cell at at' = let e : j ≡ k = cc in let e' : c ≡ cell = cc in let place : i ≡ i + 0 = omega arith in ap (λ x. Some (row_at jumps wides i x c)) e ∙ (ap (λ x. Some (row_at jumps wides i k x)) e' ∙ ap (λ n. Some (row_at jumps wides n k cell)) place)
  rows_get jumps wides i (suc n) (j ∷ kinds) (c ∷ cells) k cell at at' =
      let place : (i + 1) + n ≡ i + suc n = omega arith in
      rows_get jumps wides (i + 1) n kinds cells k cell at at' ∙ ap (λ m. Some (row_at jumps wides m k cell)) place

  within_get : (wides : List ℕ) (n : ℕ) (kinds : List ℕ) (cells : List (ℕ × R)) (k : ℕ) (cell : ℕ × R) → slice_get kinds n ≡ Some k → slice_get cells n ≡ Some cell → AreWithin wides kinds cells → 128 ≤ k → cell.0 < length wides
  within_get wides n [] cells k cell at at' within = absurd (omega (arith, slice_get_within [] n k at))
  within_get wides n (j ∷ kinds) [] k cell at at' within = absurd (omega (arith, slice_get_within [] n cell at'))
  within_get wides zero (j ∷ kinds) (c ∷ cells) k cell at at' within = let e : j ≡ k = cc in let e' : c ≡ cell = cc in λ wide. subst (λ (x : ℕ × R). x.0 < length wides) e' (within.0 (omega (arith, wide, e)))
  within_get wides (suc n) (j ∷ kinds) (c ∷ cells) k cell at at' within = within_get wides n kinds cells k cell at at' within.1

  pub rows_long : (jumps : List (ℕ × ℕ)) (wides : List ℕ) (i : ℕ) (kinds : List ℕ) (cells : List (ℕ × R)) → length kinds ≡ length cells → length (rows_of jumps wides i kinds cells) ≡ length kinds
  rows_long jumps wides i [] cells same = refl
  rows_long jumps wides i (k ∷ kinds) [] same = absurd (omega (arith, same))
  rows_long jumps wides i (k ∷ kinds) (c ∷ cells) same = ap suc (rows_long jumps wides (i + 1) kinds cells (omega (arith, same)))

  -- what is kept stays, with other jumps for further rows and with more wide numbers
  module _ (jumps jumps' : List (ℕ × ℕ)) (wides wides' : List ℕ) (ahead ahead' : ℕ) (kinds : List ℕ) (cells : List (ℕ × R)) (h : AreRowsKept jumps wides ahead kinds cells)
      (n : ℕ) (end : n ≡ length kinds) (jumped : AreJumps jumps' ahead' n) (before : (i : ℕ) → i < n → ahead_at jumps' i ≡ ahead_at jumps i) (more : AreMore wides wides') where
    pub kept_still : AreRowsKept jumps' wides' ahead' kinds cells
    kept_still = record { same = h.same; within = within_same wides wides' kinds cells more.0 h.within; jumped = subst (AreJumps jumps' ahead') end jumped }

    pub rows_still : rows_of jumps' wides' 0 kinds cells ≡ rows_of jumps wides 0 kinds cells
    rows_still = rows_same jumps jumps' wides wides' 0 kinds cells (λ i lt. before i (omega (arith, end))) more h.within

    -- and one more row
    module _ (k : ℕ) (cell : ℕ × R) (new : 128 ≤ k → cell.0 < length wides') where
      kept_more : AreRowsKept jumps' wides' ahead' (kinds ++ k ∷ []) (cells ++ cell ∷ [])
      kept_more = record {
        same = length_push kinds k ∙ (ap (λ m. m + 1) h.same ∙ sym (length_push cells cell));
        within = within_push wides' kinds cells k cell h.same new (within_same wides wides' kinds cells more.0 h.within);
        jumped = record {
          ascending = jumped.ascending;
          reached = λ j x at. omega (arith, jumped.reached j x at, length_push kinds k, end);
          last = λ i le. jumped.last i (omega (arith, le, length_push kinds k, end));
        };
      }

      rows_more : (row : Row R) → (n + ahead') % 2 ^ 64 ≡ row.line → kind_of k ≡ row.kind → number_in wides' k cell.0 ≡ row.number → cell.1 ≡ row.rest
          → rows_of jumps' wides' 0 (kinds ++ k ∷ []) (cells ++ cell ∷ []) ≡ rows_of jumps wides 0 kinds cells ++ row ∷ []
      rows_more row line kind number rest =
          let lines : (length kinds + ahead_at jumps' (length kinds)) % 2 ^ 64 ≡ row.line =
          ap (λ a. (length kinds + a) % 2 ^ 64) (jumped.last (length kinds) (omega (arith, end))) ∙ (ap (λ m. (m + ahead') % 2 ^ 64) (sym end) ∙ line) in
          let is : row_at jumps' wides' (length kinds) k cell ≡ row =
          ap (λ x. record { line = x; kind = kind_of k; number = number_in wides' k cell.0; rest = cell.1 }) lines
          ∙ (ap (λ x. record { line = row.line; kind = x; number = number_in wides' k cell.0; rest = cell.1 }) kind
          ∙ (ap (λ x. record { line = row.line; kind = row.kind; number = x; rest = cell.1 }) number
          ∙ ap (λ x. record { line = row.line; kind = row.kind; number = row.number; rest = x }) rest)) in
          let place : 0 + length kinds ≡ length kinds = omega arith in
          rows_push jumps' wides' 0 kinds cells k cell h.same ∙ (ap (λ m. rows_of jumps' wides' 0 kinds cells ++ row_at jumps' wides' m k cell ∷ []) place
          ∙ (ap (λ rows. rows ++ row_at jumps' wides' (length kinds) k cell ∷ []) rows_still ∙ ap (λ r. rows_of jumps wides 0 kinds cells ++ r ∷ []) is))

      -- where both columns have one more, or neither has
      pub kept_after : {E : Type 0} (r : Result (Unit {0}) E) (kinds' : List ℕ) (cells' : List (ℕ × R)) → OnOk r ((kinds' ≡ kinds ++ k ∷ []) × (cells' ≡ cells ++ cell ∷ [])) → OnErr r ((kinds' ≡ kinds) × (cells' ≡ cells))
          → AreRowsKept jumps' wides' ahead' kinds' cells'
      kept_after (Ok u) kinds' cells' ok err = subst (λ ks. AreRowsKept jumps' wides' ahead' ks cells') (sym ok.0) (subst (AreRowsKept jumps' wides' ahead' (kinds ++ k ∷ [])) (sym ok.1) kept_more)
      kept_after (Err e) kinds' cells' ok err = subst (λ ks. AreRowsKept jumps' wides' ahead' ks cells') (sym err.0) (subst (AreRowsKept jumps' wides' ahead' kinds) (sym err.1) kept_still)

      rows_after : (kinds' : List ℕ) (cells' : List (ℕ × R)) (row : Row R) → (n + ahead') % 2 ^ 64 ≡ row.line → kind_of k ≡ row.kind → number_in wides' k cell.0 ≡ row.number → cell.1 ≡ row.rest
          → (kinds' ≡ kinds ++ k ∷ []) × (cells' ≡ cells ++ cell ∷ []) → rows_of jumps' wides' 0 kinds' cells' ≡ rows_of jumps wides 0 kinds cells ++ row ∷ []
      rows_after kinds' cells' row line kind number rest both =
          ap (λ ks. rows_of jumps' wides' 0 ks cells') both.0 ∙ (ap (rows_of jumps' wides' 0 (kinds ++ k ∷ [])) both.1 ∙ rows_more row line kind number rest)

      pub rows_ok : {E : Type 0} (r : Result (Unit {0}) E) (kinds' : List ℕ) (cells' : List (ℕ × R)) (row : Row R) (old : List (Row R)) → (n + ahead') % 2 ^ 64 ≡ row.line → kind_of k ≡ row.kind → number_in wides' k cell.0 ≡ row.number → cell.1 ≡ row.rest
          → rows_of jumps wides 0 kinds cells ≡ old → OnOk r ((kinds' ≡ kinds ++ k ∷ []) × (cells' ≡ cells ++ cell ∷ [])) → OnOk r (rows_of jumps' wides' 0 kinds' cells' ≡ old ++ row ∷ [])
      rows_ok (Ok u) kinds' cells' row old line kind number rest view both = rows_after kinds' cells' row line kind number rest both ∙ ap (λ rows. rows ++ row ∷ []) view
      rows_ok (Err e) kinds' cells' row old line kind number rest view both = tt

    pub rows_err : {E : Type 0} (r : Result (Unit {0}) E) (kinds' : List ℕ) (cells' : List (ℕ × R)) (old : List (Row R)) → rows_of jumps wides 0 kinds cells ≡ old → OnErr r ((kinds' ≡ kinds) × (cells' ≡ cells)) → OnErr r (rows_of jumps' wides' 0 kinds' cells' ≡ old)
    rows_err (Ok u) kinds' cells' old view both = tt
    rows_err (Err e) kinds' cells' old view both =
        ap (λ ks. rows_of jumps' wides' 0 ks cells') both.0 ∙ (ap (rows_of jumps' wides' 0 kinds) both.1 ∙ (rows_still ∙ view))

  -- what is read of the row at a place
  module _ (jumps : List (ℕ × ℕ)) (wides : List ℕ) (ahead : ℕ) (kinds : List ℕ) (cells : List (ℕ × R)) (h : AreRowsKept jumps wides ahead kinds cells) (n k : ℕ) (cell : ℕ × R)
      (at : slice_get kinds n ≡ Some k) (at' : slice_get cells n ≡ Some cell) where
    pub place_within : 128 ≤ k → cell.0 < length wides
    place_within = within_get wides n kinds cells k cell at at' h.within

    pub row_is : (row : Row R) → slice_get (rows_of jumps wides 0 kinds cells) n ≡ Some row → row_at jumps wides n k cell ≡ row
    row_is row is =
        let place : 0 + n ≡ n = omega arith in
        some_same (row_at jumps wides n k cell) row (ap (λ m. Some (row_at jumps wides m k cell)) (sym place) ∙ (sym (rows_get jumps wides 0 n kinds cells k cell at at') ∙ is))

    -- its parts, where its number isn't wide, and where it is
    pub narrow_parts : (row : Row R) → slice_get (rows_of jumps wides 0 kinds cells) n ≡ Some row → k < 128 → ◌≡◌ {A = ℕ × ℕ × R} (k, cell.0, cell.1) (row.kind, row.number, row.rest)
    narrow_parts row is lt =
        ap (λ j. (j, cell.0, cell.1)) (sym (narrow_kind k lt)) ∙ (ap (λ m. (kind_of k, m, cell.1)) (sym (narrow_number wides k cell.0 lt)) ∙ ap (λ (r : Row R). (r.kind, r.number, r.rest)) (row_is row is))

    pub wide_parts : (row : Row R) (number : ℕ) → slice_get (rows_of jumps wides 0 kinds cells) n ≡ Some row → 128 ≤ k → number ≡ get_or wides cell.0 number → ◌≡◌ {A = ℕ × ℕ × R} (k - 128, number, cell.1) (row.kind, row.number, row.rest)
    wide_parts row number is le found =
        let kind : k - 128 ≡ kind_of k = sym (ap (λ b. if b then k else k - 128) (lt_false k 128 le)) in
        let same : number ≡ number_in wides k cell.0 = found ∙ (get_or_any wides cell.0 number 0 (place_within le) ∙ sym (wide_number wides k cell.0 le)) in
        ap (λ j. (j, number, cell.1)) kind ∙ (ap (λ m. (kind_of k, m, cell.1)) same ∙ ap (λ (r : Row R). (r.kind, r.number, r.rest)) (row_is row is))

  -- the line of the row at a place
  pub line_is : (jumps : List (ℕ × ℕ)) (wides : List ℕ) (i n : ℕ) (kinds : List ℕ) (cells : List (ℕ × R)) (row : Row R) → slice_get (rows_of jumps wides i kinds cells) n ≡ Some row → ((i + n) + ahead_at jumps (i + n)) % 2 ^ 64 ≡ row.line
  line_is jumps wides i n [] cells row is = absurd (omega (arith, slice_get_within [] n row is))
  line_is jumps wides i n (k ∷ kinds) [] row is = absurd (omega (arith, slice_get_within [] n row is))
  line_is jumps wides i zero (k ∷ kinds) (cell ∷ cells) row is =
      let place : i + 0 ≡ i = omega arith in
      ap (λ m. (m + ahead_at jumps m) % 2 ^ 64) place ∙ ap (λ (r : Row R). r.line) (some_same (row_at jumps wides i k cell) row is)
  line_is jumps wides i (suc n) (k ∷ kinds) (cell ∷ cells) row is =
      let place : i + suc n ≡ (i + 1) + n = omega arith in
      ap (λ m. (m + ahead_at jumps m) % 2 ^ 64) place ∙ line_is jumps wides (i + 1) n kinds cells row is

-- a fact that holds holds also where there is an error
pub err_always : {T E P : Type 0} (r : Result T E) → P → OnErr r P
err_always (Ok x) p = tt
err_always (Err e) p = p
