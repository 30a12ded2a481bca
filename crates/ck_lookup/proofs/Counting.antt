-- What files within the limits say is within the limits of a job.
use Rattle.std.proofs.Common.{◌≡◌, ℕ, ◌+◌, ◌≤◌, List, [], ◌∷◌, length, sum_by, inl, inr, refl, ap, arith}
use Rattle.std.proofs.lemmas.List.Sums.{sum_by-cons}
use Rattle.ck_script.specs.declared.line.Numbered.{Numbered}
use Rattle.ck_script.specs.declared.line.UpLine.{UpLine}
use Rattle.ck_script.specs.declared.line.AskLine.{AskLine}
use Rattle.ck_text.specs.Lines.{lines}
use Rattle.ck_script.specs.Grammar.{Say, FileSays}
use Rattle.ck_lookup.specs.Kinds.{Kind}
use Rattle.ck_script.specs.Script.{AsksSay}
use Rattle.ck_pool.specs.Served.{lines_of, line_total}
use Rattle.ck_lookup.specs.Limits.{AreWithin, line_count}

-- a file says no more lines than it has
said_short : {L : Type 0} (IsTaken : L → Type 0) (spelling : L → List (List ℕ)) (n : ℕ) (ls : List (List ℕ)) (said : List (Numbered L)) → Say IsTaken spelling n ls said → length said ≤ length ls
said_short IsTaken spelling n [] said none = let e = ap length none in omega arith
said_short IsTaken spelling n (line ∷ ls) said (inl (silent, later)) = let h = said_short IsTaken spelling (n + 1) ls said later in omega arith
said_short IsTaken spelling n (line ∷ ls) said (inr (what, more, is, says, later)) = let h = said_short IsTaken spelling (n + 1) ls more later in let e = ap length is in omega arith

module _ {C Q : Type 0} (kind : Kind C Q) where
  queries_short : (files : List (List ℕ)) (asks : List (List (Numbered (AskLine Q)))) → AsksSay kind.queries.is_line kind.queries.words files asks → (length asks ≡ length files) × (lines_of asks ≤ sum_by line_count files)
  queries_short [] [] said = (refl, omega arith)
  queries_short [] (a ∷ asks) said = absurd said
  queries_short (bytes ∷ files) [] said = absurd said
  queries_short (bytes ∷ files) (a ∷ asks) said =
      let one : length a ≤ line_count bytes = said_short kind.queries.is_line kind.queries.words 1 (lines bytes) a said.0 in
      let rest = queries_short files asks said.1 in
      let long = rest.0 in
      let short = rest.1 in
      let sum = sum_by-cons line_count bytes files in
      (omega arith, omega (arith, one, short, sum))

  pub job_short : (update_file : List ℕ) (query_files : List (List ℕ)) (ups : List (Numbered (UpLine C))) (asks : List (List (Numbered (AskLine Q)))) → AreWithin (update_file ∷ query_files) → FileSays kind.updates.is_line kind.updates.words update_file ups → AsksSay kind.queries.is_line kind.queries.words query_files asks
      → (length asks ≡ length query_files) × (line_total ups asks ≤ 4000000)
  job_short update_file query_files ups asks within ups_said asks_said =
      let one : length ups ≤ line_count update_file = said_short kind.updates.is_line kind.updates.words 1 (lines update_file) ups ups_said in
      let rest = queries_short query_files asks asks_said in
      let short = rest.1 in
      let sum = sum_by-cons line_count update_file query_files in
      let all = within.few_lines_in_all in
      (rest.0, omega (arith, one, short, sum, all))
