-- The answers of a report, taken file by file.
use Rattle.std.specs.Prelude.{ℕ, ◌==◌, if◌then◌else◌, List, [], ◌∷◌, map}
use Rattle.std.specs.declared.vec.Vec.{Vec}
use Rattle.ck_history.specs.Legal.{Query}
use Rattle.ck_report.specs.declared.asked.Asked.{Asked}
use Rattle.ck_judge.specs.declared.bounds.Bounded.{Bounded}
use Rattle.ck_judge.specs.Bounds.{query_of}

-- the answers that a report names, as lists
abbrev pub as_lists : {K A : Type 0} → List (ℕ × Vec (Asked K) A) → List (ℕ × List (Asked K))
as_lists named = map (λ file. (file.0, file.1.items)) named

-- the queries of each file, with their bounds
abbrev pub as_queries : {K A : Type 0} → List (Vec (Bounded K) A) → List (List (Query K))
as_queries files = map (λ file. map query_of file.items) files

-- the answers of file f, where it is the first that is named or isn't named
abbrev pub next_answers : {K : Type 0} → ℕ → List (ℕ × List (Asked K)) → List (Asked K)
next_answers f [] = []
next_answers f (file ∷ more) = if file.0 == f then file.1 else []

-- the files after file f
abbrev pub later_files : {K : Type 0} → ℕ → List (ℕ × List (Asked K)) → List (ℕ × List (Asked K))
later_files f [] = []
later_files f (file ∷ more) = if file.0 == f then more else file ∷ more
