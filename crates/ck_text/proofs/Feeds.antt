-- The lines of a text with their line feeds.
use Rattle.std.proofs.Common.{◌≡◌, ℕ, ◌<◌, List, [], ◌∷◌, ◌++◌, length, refl, ap, arith, sym, ◌∙◌, append_assoc}
use Rattle.std.specs.List.{join_with_byte}
use Rattle.std.proofs.lemmas.List.Splits.{join_with_byte-slice_split}
use Rattle.ck_text.specs.Lines.{parts, with_feeds, lines_with_feeds}
use Rattle.ck_text.proofs.Cutting.{Lacks, parts_first, parts_some}

feeds_more : (w : List ℕ) (ps : List (List ℕ)) → 0 < length ps → with_feeds (w ∷ ps) ≡ (w ++ 10 ∷ []) ∷ with_feeds ps
feeds_more w [] some = absurd (omega arith)
feeds_more w (p ∷ ps) some = refl

-- a line with its line feed, and the rest
pub lines_with_feeds_first : (w rest : List ℕ) → Lacks 10 w → lines_with_feeds (w ++ 10 ∷ rest) ≡ (w ++ 10 ∷ []) ∷ lines_with_feeds rest
lines_with_feeds_first w rest h = ap with_feeds (parts_first 10 w rest h) ∙ feeds_more w (parts 10 rest) (parts_some 10 rest)

-- the same, where the text was cut
pub lines_with_feeds_cut : (bytes w rest : List ℕ) → parts 10 bytes ≡ w ∷ parts 10 rest → lines_with_feeds bytes ≡ (w ++ 10 ∷ []) ∷ lines_with_feeds rest
lines_with_feeds_cut bytes w rest e = ap with_feeds e ∙ feeds_more w (parts 10 rest) (parts_some 10 rest)

join_more : (w : List ℕ) (ps : List (List ℕ)) → 0 < length ps → join_with_byte 10 (w ∷ ps) ≡ w ++ 10 ∷ join_with_byte 10 ps
join_more w [] some = absurd (omega arith)
join_more w (p ∷ ps) some = refl

-- a text is its first line and the rest
pub cut_here : (bytes w rest : List ℕ) → parts 10 bytes ≡ w ∷ parts 10 rest → bytes ≡ (w ++ 10 ∷ []) ++ rest
cut_here bytes w rest e =
    sym (join_with_byte-slice_split 10 bytes) ∙ (ap (join_with_byte 10) e ∙ (join_more w (parts 10 rest) (parts_some 10 rest) ∙ (ap (λ r. w ++ 10 ∷ r) (join_with_byte-slice_split 10 rest) ∙ sym (append_assoc w (10 ∷ []) rest))))

-- a text that is one part has no line feed at its end
pub not_fed : (bytes w : List ℕ) → parts 10 bytes ≡ bytes ∷ [] → Lacks 10 w → bytes ≡ w ++ 10 ∷ [] → ⊥
not_fed bytes w one h e =
    let two : parts 10 bytes ≡ w ∷ [] ∷ [] = ap (parts 10) e ∙ parts_first 10 w [] h in
    omega (arith, ap length (sym one ∙ two))

-- bytes with no line feed are one line
pub lines_with_feeds_alone : (bytes : List ℕ) → parts 10 bytes ≡ bytes ∷ [] → 0 < length bytes → lines_with_feeds bytes ≡ bytes ∷ []
lines_with_feeds_alone [] one some = absurd (omega arith)
lines_with_feeds_alone (b ∷ bytes) one some = ap with_feeds one

-- a last byte tells what is before it
pub same_before : (xs ys : List ℕ) (c : ℕ) → xs ++ c ∷ [] ≡ ys ++ c ∷ [] → xs ≡ ys
same_before [] [] c e = refl
same_before [] (y ∷ []) c e = absurd (omega (arith, ap length e))
same_before [] (y ∷ z ∷ ys) c e = absurd (omega (arith, ap length e))
same_before (x ∷ []) [] c e = absurd (omega (arith, ap length e))
same_before (x ∷ z ∷ xs) [] c e = absurd (omega (arith, ap length e))
same_before (x ∷ xs) (y ∷ ys) c e =
    let heads : x ≡ y = cc in
    let tails : xs ++ c ∷ [] ≡ ys ++ c ∷ [] = cc in
    let rest = same_before xs ys c tails in
    cc

-- a text with a byte has a line
pub some_lines : (bytes : List ℕ) → 0 < length bytes → (first : List ℕ) × (more : List (List ℕ)) × (lines_with_feeds bytes ≡ first ∷ more)
some_lines bytes some = of_parts (parts 10 bytes) refl
  where
    of_parts : (ps : List (List ℕ)) → parts 10 bytes ≡ ps → (first : List ℕ) × (more : List (List ℕ)) × (lines_with_feeds bytes ≡ first ∷ more)
    of_parts [] e = absurd (omega (arith, parts_some 10 bytes, ap length e))
    of_parts ([] ∷ []) e = absurd (omega (arith, ap length (sym (join_with_byte-slice_split 10 bytes) ∙ ap (join_with_byte 10) e)))
    of_parts ((b ∷ w) ∷ []) e = (b ∷ w, [], ap with_feeds e)
    of_parts (w ∷ v ∷ ps) e = (w ++ 10 ∷ [], with_feeds (v ∷ ps), ap with_feeds e)
