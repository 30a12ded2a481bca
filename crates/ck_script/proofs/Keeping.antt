-- Lines that are kept in rows.
use Rattle.std.specs.Prelude.{slice_get, Some}
use Rattle.std.proofs.Common.{◌≡◌, ℕ, zero, suc, ◌<◌, List, [], ◌∷◌, length, refl, ap, subst, sym, ◌∙◌, arith}
use Rattle.std.proofs.lemmas.Option.{slice_get_within}
use Rattle.ck_script.specs.declared.line.Numbered.{Numbered}
use Rattle.ck_script.specs.declared.rows.Row.{Row}
use Rattle.ck_script.specs.Script.{said_of}
use Rattle.ck_script.specs.Compact.{Listed, line_at, lines_in}

-- what stands at a place
there : {X : Type 0} (xs : List X) (i : ℕ) → i < length xs → (x : X) × (slice_get xs i ≡ Some x)
there [] i lt = absurd (omega arith)
there (x ∷ xs) zero lt = (x, refl)
there (x ∷ xs) (suc i) lt = there xs i (omega arith)

module _ {L R : Type 0} (line_of : ℕ → ℕ → R → L) (rows : List (Row R)) (lines : Listed L) (is : ◌≡◌ {A = Listed L} (record { items = lines_in line_of rows }) lines) where
  items_are : lines_in line_of rows ≡ lines.items
  items_are = ap (λ (l : Listed L). l.items) is

  long : (xs : List (Row R)) → length (lines_in line_of xs) ≡ length xs
  long [] = refl
  long (x ∷ xs) = ap suc (long xs)

  -- the row of a line
  pub row_there : (i : ℕ) → i < length lines.items → (row : Row R) × (slice_get rows i ≡ Some row)
  row_there i lt = there rows i (omega (arith, lt, ap length items_are, long rows))

  -- what a row says
  module _ (i : ℕ) (row : Row R) (at : slice_get rows i ≡ Some row) (parts : ℕ × ℕ × R) (same : parts ≡ (row.kind, row.number, row.rest)) where
    says : line_of parts.0 parts.1 parts.2 ≡ line_of row.kind row.number row.rest
    says = ap (λ (p : ℕ × ℕ × R). line_of p.0 p.1 p.2) same

    pub line_there : (line : ℕ) (what : L) → line ≡ row.line → what ≡ line_of parts.0 parts.1 parts.2 → slice_get lines.items i ≡ Some (record { line = line; what = what })
    line_there line what number spoken =
        ap (λ (ls : List (Numbered L)). slice_get ls i) (sym items_are) ∙ (mapped rows i at
        ∙ (ap (λ n. Some (record { line = n; what = line_of row.kind row.number row.rest })) (sym number) ∙ ap (λ w. Some (record { line = line; what = w })) (sym (spoken ∙ says))))
      where
        mapped : (xs : List (Row R)) (n : ℕ) → slice_get xs n ≡ Some row → slice_get (lines_in line_of xs) n ≡ Some (line_at line_of row)
        mapped [] n e = absurd (omega (arith, slice_get_within [] n row e))
        mapped (x ∷ xs) zero e = let same : x ≡ row = cc in ap (λ r. Some (line_at line_of r)) same
        mapped (x ∷ xs) (suc n) e = mapped xs n e

    pub what_there : (what : L) → what ≡ line_of parts.0 parts.1 parts.2 → slice_get (said_of lines.items) i ≡ Some what
    what_there what spoken =
        ap (λ (ls : List (Numbered L)). slice_get (said_of ls) i) (sym items_are) ∙ (mapped rows i at ∙ ap Some (sym (spoken ∙ says)))
      where
        mapped : (xs : List (Row R)) (n : ℕ) → slice_get xs n ≡ Some row → slice_get (said_of (lines_in line_of xs)) n ≡ Some (line_of row.kind row.number row.rest)
        mapped [] n e = absurd (omega (arith, slice_get_within [] n row e))
        mapped (x ∷ xs) zero e = let same : x ≡ row = cc in ap (λ (r : Row R). Some (line_of r.kind r.number r.rest)) same
        mapped (x ∷ xs) (suc n) e = mapped xs n e

    pub kept_there : (IsKept : ℕ → ℕ → R → Type 0) → IsKept row.kind row.number row.rest → IsKept parts.0 parts.1 parts.2
    kept_there IsKept kept = subst (λ (p : ℕ × ℕ × R). IsKept p.0 p.1 p.2) (sym same) kept
