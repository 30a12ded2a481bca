-- Lines that ask for what can't come.
use Rattle.std.proofs.Common.{◌≡◌, ℕ, suc, ◌+◌, ◌<◌, drop, List, [], ◌∷◌, length, get_or, map, max, refl, ap, ◌∙◌, sym, Some}
use Rattle.std.specs.List.{slice_get}
use Rattle.std.specs.Option.{option_map}
use Rattle.std.proofs.lemmas.Option.{slice_get-map, slice_get_read}
use Rattle.ck_script.specs.declared.line.Numbered.{Numbered}
use Rattle.ck_script.specs.declared.line.AskLine.{AskLine}
use Rattle.ck_script.specs.declared.line.AskLine.TheVariants.{Ask, Wait}
use Rattle.ck_script.specs.declared.line.UpLine.{UpLine}
use Rattle.ck_script.specs.Script.{said_of, updates, queries}
use Rattle.ck_script.specs.Checks.{query_file}
use Rattle.ck_script.proofs.Standing.{said_there}

-- the number of queries doesn't rest on the waits before them
pub queries_counted : {A : Type 0} (low : ℕ) (asks : List (AskLine A)) → length (queries low asks) ≡ length (queries 0 asks)
queries_counted low [] = refl
queries_counted low (Ask key ∷ more) = ap suc (queries_counted low more)
queries_counted low (Wait count ∷ more) = queries_counted (max low count) more ∙ sym (queries_counted (max 0 count) more)

-- the queries from a line on
pub queries_next : {A : Type 0} (lines : List (Numbered (AskLine A))) (i : ℕ) (said what : AskLine A) → slice_get (said_of lines) i ≡ Some said → said ≡ what → length (queries 0 (said_of (drop i lines))) ≡ length (queries 0 (what ∷ said_of (drop (i + 1) lines)))
queries_next lines i said what is same = ap (λ ws. length (queries 0 ws)) (said_there lines i said is ∙ ap (λ w. w ∷ said_of (drop (i + 1) lines)) same)

-- the updates from a line on
pub updates_next : {C : Type 0} (lines : List (Numbered (UpLine C))) (i : ℕ) (said what : UpLine C) → slice_get (said_of lines) i ≡ Some said → said ≡ what → length (updates (said_of (drop i lines))) ≡ length (updates (what ∷ said_of (drop (i + 1) lines)))
updates_next lines i said what is same = ap (λ ws. length (updates ws)) (said_there lines i said is ∙ ap (λ w. w ∷ said_of (drop (i + 1) lines)) same)

-- the query file that stands at a place
pub query_file_next : {A F : Type 0} (items : F → List (Numbered (AskLine A))) (files : List F) (i : ℕ) (file : F) → i < length files → file ≡ get_or files i file → query_file (suc i) (map said_of (map items files)) ≡ Some (said_of (items file))
query_file_next items files i file lt is =
    let here : slice_get files i ≡ Some file = slice_get_read files (length files) i file refl lt is in
    slice_get-map said_of (map items files) i ∙ ap (option_map said_of) (slice_get-map items files i ∙ ap (option_map items) here)
