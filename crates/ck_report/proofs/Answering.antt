-- Queries beside their answers.
use Rattle.std.proofs.Common.{◌≡◌, ℕ, suc, ◌+◌, ◌<◌, List, [], ◌∷◌, ◌++◌, length, map, drop, get_or, Option, Some, Vec, refl, sym, ap, subst, ◌∙◌, append-nil, append_assoc, arith}
use Rattle.std.specs.declared.alloc.Global.{Global}
use Rattle.std.proofs.lemmas.List.{at_drop_more, drop_all}
use Rattle.std.specs.List.{slice_get}
use Rattle.ck_io.specs.Sink.{AppendsPrefix}
use Rattle.ck_script.specs.declared.line.Numbered.{Numbered}
use Rattle.ck_script.specs.declared.line.AskLine.{AskLine}
use Rattle.ck_script.specs.declared.line.AskLine.TheVariants.{Ask, Wait}
use Rattle.ck_script.specs.Script.{said_of}
use Rattle.ck_script.proofs.Standing.{said_there}
use Rattle.ck_report.specs.declared.asked.Asked.{Asked}
use Rattle.ck_report.specs.Text.{answer_lines, file_lines}
use Rattle.ck_report.specs.Numbered.{numbered, answer_line}
use Rattle.ck_report.specs.Streaming.{IsStreamed}
use Rattle.ck_report.specs.Pairing.{asked_lines, asked_of_files}
use Rattle.ck_report.proofs.Blocks.{answer_lines_are}
use Rattle.ck_report.proofs.Streaming.{streamed_as, streamed_stopped, streamed_failing}

module _ {K : Type 0} where
  -- with no answer left there is no pair
  asked_none : (ls : List (AskLine K)) → asked_lines ls [] ≡ []
  asked_none [] = refl
  asked_none (Ask k ∷ ls) = refl
  asked_none (Wait n ∷ ls) = asked_none ls

  -- a query with no answer left
  pub asked_end : (old : List (Asked K)) (k : K) (ls : List (AskLine K)) (bs : List (Option ℕ)) (i : ℕ) → i ≡ length bs → old ++ asked_lines ls (drop i bs) ≡ old ++ asked_lines (Ask k ∷ ls) (drop i bs)
  asked_end old k ls bs i e =
      let none : drop i bs ≡ [] = drop_all i bs (omega (arith, e)) in
      ap (λ (l : List (Option ℕ)). old ++ asked_lines ls l) none ∙ (ap (λ (l : List (Asked K)). old ++ l) (asked_none ls) ∙ sym (ap (λ (l : List (Option ℕ)). old ++ asked_lines (Ask k ∷ ls) l) none))

  -- a query and the next answer
  pub asked_next : (old : List (Asked K)) (k : K) (ls : List (AskLine K)) (bs : List (Option ℕ)) (i : ℕ) (b : Option ℕ) → i < length bs → b ≡ get_or bs i b
      → (old ++ record { key = k; found = b } ∷ []) ++ asked_lines ls (drop (i + 1) bs) ≡ old ++ asked_lines (Ask k ∷ ls) (drop i bs)
  asked_next old k ls bs i b lt e =
      let pair : Asked K = record { key = k; found = b } in
      let same : asked_lines (Ask k ∷ ls) (drop i bs) ≡ pair ∷ asked_lines ls (drop (i + 1) bs) =
      at_drop_more (asked_lines (Ask k ∷ ls)) bs i b lt ∙ ap (λ (x : Option ℕ). record { key = k; found = x } ∷ asked_lines ls (drop (i + 1) bs)) (sym e) in
      append_assoc old (pair ∷ []) (asked_lines ls (drop (i + 1) bs)) ∙ ap (λ (l : List (Asked K)). old ++ l) (sym same)

  -- one line more
  pub paired_more : (lines : List (Numbered (AskLine K))) (answers : List (Option ℕ)) (i next after : ℕ) (what : AskLine K) (old new whole : List (Asked K)) → slice_get (said_of lines) i ≡ Some what
      → ((later : List (AskLine K)) → new ++ asked_lines later (drop after answers) ≡ old ++ asked_lines (what ∷ later) (drop next answers))
      → old ++ asked_lines (said_of (drop i lines)) (drop next answers) ≡ whole → new ++ asked_lines (said_of (drop (i + 1) lines)) (drop after answers) ≡ whole
  paired_more lines answers i next after what old new whole is step before =
      step (said_of (drop (i + 1) lines)) ∙ (ap (λ (ls : List (AskLine K)). old ++ asked_lines ls (drop next answers)) (sym (said_there lines i what is)) ∙ before)

  -- files, however they are kept
  module _ {F : Type 0} (items : F → List (Numbered (AskLine K))) where
    abbrev pub paired : List F → List (Vec (Option ℕ) Global) → List (List (Asked K))
    paired asks answers = asked_of_files (map said_of (map items asks)) (map (λ file. file.items) answers)

    -- one file more
    pub paired_first : (asks : List F) (answers : List (Vec (Option ℕ) Global)) (i : ℕ) (file : F) (bs : Vec (Option ℕ) Global) → i < length asks → i < length answers → file ≡ get_or asks i file → bs ≡ get_or answers i bs
        → paired (drop i asks) (drop i answers) ≡ asked_lines (said_of (items file)) bs.items ∷ paired (drop (i + 1) asks) (drop (i + 1) answers)
    paired_first asks answers i file bs lt lt' e e' =
        at_drop_more (λ fs. paired fs (drop i answers)) asks i file lt ∙ (ap (λ (f : F). paired (f ∷ drop (i + 1) asks) (drop i answers)) (sym e)
        ∙ (at_drop_more (λ given. paired (file ∷ drop (i + 1) asks) given) answers i bs lt' ∙ ap (λ (b : Vec (Option ℕ) Global). paired (file ∷ drop (i + 1) asks) (b ∷ drop (i + 1) answers)) (sym e')))

numbered_append : {X : Type 0} (line_of : ℕ → X → List ℕ) (before : ℕ) (xs ys : List X) → numbered line_of before (xs ++ ys) ≡ numbered line_of before xs ++ numbered line_of (before + length xs) ys
numbered_append line_of before [] ys = let place : before ≡ before + 0 = omega arith in ap (λ n. numbered line_of n ys) place
numbered_append line_of before (x ∷ xs) ys =
    let place : before + 1 + length xs ≡ before + suc (length xs) = omega arith in
    ap (λ t. line_of (before + 1) x ++ t) (numbered_append line_of (before + 1) xs ys ∙ ap (λ n. numbered line_of (before + 1) xs ++ numbered line_of n ys) place)
    ∙ sym (append_assoc (line_of (before + 1) x) (numbered line_of (before + 1) xs) (numbered line_of (before + suc (length xs)) ys))

module _ {K : Type 0} (spelling : K → List ℕ) where
  -- a block of pairs was printed after a text
  pub pairs_printed : (f before : ℕ) (block later whole : List (Asked K)) (old new : List ℕ) → block ++ later ≡ whole → new ≡ old ++ numbered (answer_line spelling f) before block
      → old ++ numbered (answer_line spelling f) before whole ≡ new ++ numbered (answer_line spelling f) (before + length block) later
  pairs_printed f before block later whole old new is printed =
      let line = answer_line spelling f in
      ap (λ (w : List (Asked K)). old ++ numbered line before w) (sym is) ∙ (ap (λ t. old ++ t) (numbered_append line before block later)
      ∙ (sym (append_assoc old (numbered line before block) (numbered line (before + length block) later)) ∙ ap (λ t. t ++ numbered line (before + length block) later) (sym printed)))

  -- all pairs of a file were printed, or a put failed
  module _ (t u : Option (List ℕ)) (f : ℕ) (pairs : List (Asked K)) (old : List ℕ) where
    pub answers_whole : (last : List ℕ) (before : ℕ) (rest : List (AskLine K)) (left : List (Option ℕ)) → rest ≡ []
        → IsStreamed t u (old ++ numbered (answer_line spelling f) 0 pairs) (last ++ numbered (answer_line spelling f) before (asked_lines rest left)) → IsStreamed t u (old ++ answer_lines spelling f 1 pairs) last
    answers_whole last before rest left none goes =
        let ends = ap (λ (ls : List (AskLine K)). last ++ numbered (answer_line spelling f) before (asked_lines ls left)) none ∙ append-nil last in
        subst (λ w. IsStreamed t u (old ++ w) last) (answer_lines_are spelling f 0 pairs) (streamed_as t u (old ++ numbered (answer_line spelling f) 0 pairs) _ last goes ends)

    pub answers_stopped : (left : List ℕ) → IsStreamed t u (old ++ numbered (answer_line spelling f) 0 pairs) left → AppendsPrefix t u (old ++ answer_lines spelling f 1 pairs)
    answers_stopped left goes = subst (λ w. AppendsPrefix t u (old ++ w)) (answer_lines_are spelling f 0 pairs) (streamed_stopped t u (old ++ numbered (answer_line spelling f) 0 pairs) left goes)

    pub answers_failing : (v : Option (List ℕ)) (before rest : List ℕ) → IsStreamed t u (old ++ numbered (answer_line spelling f) 0 pairs) (before ++ rest) → AppendsPrefix u v before → AppendsPrefix t v (old ++ answer_lines spelling f 1 pairs)
    answers_failing v before rest goes failed = subst (λ w. AppendsPrefix t v (old ++ w)) (answer_lines_are spelling f 0 pairs) (streamed_failing t u v (old ++ numbered (answer_line spelling f) 0 pairs) before rest goes failed)

  -- the lines of one file more
  pub next_file : {F : Type 0} (items : F → List (Numbered (AskLine K))) (asks : List F) (answers : List (Vec (Option ℕ) Global)) (i : ℕ) (file : F) (bs : Vec (Option ℕ) Global) (buffer : List ℕ) → i < length asks → length asks ≡ length answers → file ≡ get_or asks i file → bs ≡ get_or answers i bs
      → buffer ++ file_lines spelling (i + 1) (paired items (drop i asks) (drop i answers)) ≡ (buffer ++ answer_lines spelling (i + 1) 1 (asked_lines (said_of (items file)) bs.items)) ++ file_lines spelling (i + 1 + 1) (paired items (drop (i + 1) asks) (drop (i + 1) answers))
  next_file items asks answers i file bs buffer lt long e e' =
      ap (λ (fs : List (List (Asked K))). buffer ++ file_lines spelling (i + 1) fs) (paired_first items asks answers i file bs lt (omega (arith, long)) e e')
      ∙ sym (append_assoc buffer (answer_lines spelling (i + 1) 1 (asked_lines (said_of (items file)) bs.items)) (file_lines spelling (i + 1 + 1) (paired items (drop (i + 1) asks) (drop (i + 1) answers))))
