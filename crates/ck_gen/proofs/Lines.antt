-- Texts that are made line by line.
use Rattle.std.proofs.Common.{◌≡◌, ℕ, suc, ◌+◌, ◌-◌, ◌<◌, List, [], ◌∷◌, ◌++◌, map, flat_map, refl, ap, sym, subst, ◌∙◌, append_assoc, append-nil, arith}
use Rattle.std.specs.List.{range_with_len}
use Rattle.ck_text.specs.Words.{line}

-- `out` came about from `x` by one line after another, of these words
abbrev pub IsMade : List ℕ → List (List (List ℕ)) → List ℕ → Type 0
IsMade x [] out = out ≡ x
IsMade x (w ∷ ws) out = (y : List ℕ) × (y ≡ x ++ line w) × IsMade y ws out

pub made_of_lines : (ws : List (List (List ℕ))) (x out : List ℕ) → IsMade x ws out → out ≡ x ++ flat_map line ws
made_of_lines [] x out is = is ∙ sym (append-nil x)
made_of_lines (w ∷ ws) x out (y, is, more) = made_of_lines ws y out more ∙ ap (λ (z : List ℕ). z ++ flat_map line ws) is ∙ append_assoc x (line w) (flat_map line ws)

module _ {X : Type 0} (line_of : X → List ℕ) (drawn : ℕ → X) where
  -- the lines with the numbers from i + 1 to n
  abbrev lines_after : ℕ → ℕ → List ℕ
  lines_after i n = flat_map line_of (map drawn (range_with_len (i + 1) (n - i)))

  first_of_them : (i n : ℕ) → i < n → lines_after i n ≡ line_of (drawn (i + 1)) ++ lines_after (i + 1) n
  first_of_them i n less = let e : suc (n - (i + 1)) ≡ n - i = omega arith in
      subst (λ (m : ℕ). flat_map line_of (map drawn (range_with_len (i + 1) m)) ≡ line_of (drawn (i + 1)) ++ lines_after (i + 1) n) e refl

  -- one line more, and the others still make the file whole
  pub whole_next : (i n : ℕ) (out out' file : List ℕ) → i < n → out' ≡ out ++ line_of (drawn (i + 1)) → out ++ lines_after i n ≡ file → out' ++ lines_after (i + 1) n ≡ file
  whole_next i n out out' file less made whole =
      ap (λ (z : List ℕ). z ++ lines_after (i + 1) n) made ∙ append_assoc out (line_of (drawn (i + 1))) (lines_after (i + 1) n)
      ∙ ap (λ (z : List ℕ). out ++ z) (sym (first_of_them i n less)) ∙ whole
