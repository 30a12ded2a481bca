-- Queries with their answers, as they are paired and as they are printed.
use Rattle.std.proofs.Common.{◌≡◌, ℕ, ◌+◌, max, List, [], ◌∷◌, Option, refl, ap, ◌∙◌}
use Rattle.ck_script.specs.declared.line.AskLine.{AskLine}
use Rattle.ck_script.specs.declared.line.AskLine.TheVariants.{Ask, Wait}
use Rattle.ck_script.specs.Script.{HoldLine, queries, bounded, bounded_files}
use Rattle.ck_report.specs.declared.asked.Asked.{Asked}
use Rattle.ck_report.specs.Pairing.{asked_lines, asked_of_files}
use Rattle.ck_lookup.specs.Tables.{asked, all_asked}

-- they are paired as they are printed
asked_as : (count f i : ℕ) (hs : List HoldLine) (low : ℕ) (ls : List (AskLine ℕ)) (bs : List (Option ℕ)) → asked (bounded count hs f i (queries low ls)) bs ≡ asked_lines ls bs
asked_as count f i hs low [] bs = refl
asked_as count f i hs low (Ask k ∷ ls) [] = refl
asked_as count f i hs low (Ask k ∷ ls) (b ∷ bs) = ap (λ (l : List (Asked ℕ)). record { key = k; found = b } ∷ l) (asked_as count f (i + 1) hs low ls bs)
asked_as count f i hs low (Wait n ∷ ls) bs = asked_as count f i hs (max low n) ls bs

pub files_as : (count f : ℕ) (hs : List HoldLine) (files : List (List (AskLine ℕ))) (answers : List (List (Option ℕ))) → all_asked (bounded_files count hs f files) answers ≡ asked_of_files files answers
files_as count f hs [] answers = refl
files_as count f hs (ls ∷ files) [] = refl
files_as count f hs (ls ∷ files) (bs ∷ answers) =
    ap (λ (l : List (Asked ℕ)). l ∷ all_asked (bounded_files count hs (f + 1) files) answers) (asked_as count f 1 hs 0 ls bs)
    ∙ ap (λ (l : List (List (Asked ℕ))). asked_lines ls bs ∷ l) (files_as count (f + 1) hs files answers)
