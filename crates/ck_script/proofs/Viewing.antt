-- Queries that are counted.
use Rattle.std.proofs.Common.{◌≡◌, ℕ, zero, suc, ◌+◌, ◌<◌, drop, List, [], ◌∷◌, ◌++◌, length, get_or, map, refl, ap, arith, ◌∙◌, sym, Some, append-nil}
use Rattle.std.specs.List.{slice_get}
use Rattle.std.specs.Option.{option_map}
use Rattle.std.proofs.lemmas.List.{length-map, length-append}
use Rattle.std.proofs.lemmas.Option.{slice_get-map, slice_get_read}
use Rattle.ck_script.specs.declared.line.Numbered.{Numbered}
use Rattle.ck_script.specs.declared.line.AskLine.{AskLine}
use Rattle.ck_script.specs.declared.check.RangeFault.{RangeFault}
use Rattle.ck_script.specs.Views.{query_line, query_lines, query_places}
use Rattle.ck_script.proofs.Standing.{drop_there}

-- what is found among the first is found among all
pub found_first : {X : Type 0} (xs ys : List X) (i : ℕ) (x : X) → slice_get xs i ≡ Some x → slice_get (xs ++ ys) i ≡ Some x
found_first [] ys i x is = absurd (cc)
found_first (y ∷ xs) ys zero x is = is
found_first (y ∷ xs) ys (suc i) x is = found_first xs ys i x is

-- past the first, the others are looked at
pub found_later : {X : Type 0} (xs ys : List X) (i j : ℕ) → j + length xs ≡ i → slice_get (xs ++ ys) i ≡ slice_get ys j
found_later [] ys i j is = let same : i ≡ j = omega (arith, is) in ap (slice_get ys) same
found_later (x ∷ xs) ys zero j is = absurd (omega (arith, is))
found_later (x ∷ xs) ys (suc i) j is = found_later xs ys i j (omega (arith, is))

-- where the lines of these numbers of file f stand
abbrev placed_in : ℕ → List ℕ → List RangeFault
placed_in f numbers = map {A = ℕ} {B = RangeFault} (λ line. record { file = f; line = line }) numbers

module _ {A : Type 0} where
  lines_next : (lines : List (Numbered (AskLine A))) (i : ℕ) (line : Numbered (AskLine A)) → slice_get lines i ≡ Some line → query_lines (drop i lines) ≡ query_lines (line ∷ []) ++ query_lines (drop (i + 1) lines)
  lines_next lines i line is =
      ap query_lines (drop_there lines i line is) ∙ ap (λ front. front ++ query_lines (drop (i + 1) lines)) (sym (append-nil (query_line line.line line.what)))

  -- the query is on this line
  pub found_here : (lines : List (Numbered (AskLine A))) (i left number : ℕ) (line : Numbered (AskLine A)) → slice_get lines i ≡ Some line → slice_get (query_lines (line ∷ [])) left ≡ Some number → slice_get (query_lines (drop i lines)) left ≡ Some number
  found_here lines i left number line is here =
      ap (λ ls. slice_get ls left) (lines_next lines i line is) ∙ found_first (query_lines (line ∷ [])) (query_lines (drop (i + 1) lines)) left number here

  -- it is on a later one
  pub found_after : (lines : List (Numbered (AskLine A))) (i left fewer : ℕ) (line : Numbered (AskLine A)) → slice_get lines i ≡ Some line → fewer + length (query_lines (line ∷ [])) ≡ left → slice_get (query_lines (drop i lines)) left ≡ slice_get (query_lines (drop (i + 1) lines)) fewer
  found_after lines i left fewer line is count =
      ap (λ ls. slice_get ls left) (lines_next lines i line is) ∙ found_later (query_lines (line ∷ [])) (query_lines (drop (i + 1) lines)) left fewer count

  pub counted_next : (lines : List (Numbered (AskLine A))) (i : ℕ) (line : Numbered (AskLine A)) → slice_get lines i ≡ Some line → length (query_lines (drop i lines)) ≡ length (query_lines (line ∷ [])) + length (query_lines (drop (i + 1) lines))
  counted_next lines i line is = ap length (lines_next lines i line is) ∙ length-append (query_lines (line ∷ [])) (query_lines (drop (i + 1) lines))

  -- files, however they are kept

  module _ {F : Type 0} (items : F → List (Numbered (AskLine A))) where
    files_next : (files : List F) (i f : ℕ) (file : F) → i < length files → file ≡ get_or files i file → query_places f (map items (drop i files)) ≡ placed_in f (query_lines (items file)) ++ query_places (f + 1) (map items (drop (i + 1) files))
    files_next files i f file lt is = ap (λ fs. query_places f (map items fs)) (drop_there files i file (slice_get_read files (length files) i file refl lt is))

    -- the query is in this file
    pub file_here : (files : List F) (i f left number : ℕ) (file : F) → i < length files → file ≡ get_or files i file → slice_get (query_lines (items file)) left ≡ Some number → slice_get (query_places f (map items (drop i files))) left ≡ Some (record { file = f; line = number })
    file_here files i f left number file lt is here =
        let placed : slice_get (placed_in f (query_lines (items file))) left ≡ Some (record { file = f; line = number }) =
        slice_get-map (λ line. record { file = f; line = line }) (query_lines (items file)) left ∙ ap (option_map (λ line. record { file = f; line = line })) here in
        ap (λ ls. slice_get ls left) (files_next files i f file lt is) ∙ found_first (placed_in f (query_lines (items file))) (query_places (f + 1) (map items (drop (i + 1) files))) left (record { file = f; line = number }) placed

    -- it is in a later one
    pub file_after : (files : List F) (i f left fewer : ℕ) (file : F) → i < length files → file ≡ get_or files i file → fewer + length (query_lines (items file)) ≡ left → slice_get (query_places f (map items (drop i files))) left ≡ slice_get (query_places (f + 1) (map items (drop (i + 1) files))) fewer
    file_after files i f left fewer file lt is count =
        ap (λ ls. slice_get ls left) (files_next files i f file lt is)
        ∙ found_later (placed_in f (query_lines (items file))) (query_places (f + 1) (map items (drop (i + 1) files))) left fewer (ap (λ n. fewer + n) (length-map (query_lines (items file)) (λ line. record { file = f; line = line })) ∙ count)
