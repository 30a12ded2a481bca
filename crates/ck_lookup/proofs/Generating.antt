-- From the generated files to the summary of their run.
use Rattle.std.proofs.Common.{◌≡◌, ℕ, ◌+◌, ◌≤◌, max, Bool, true, false, List, [], ◌∷◌, length, map, Option, None, Vec, refl, ap, sym, subst, ◌∙◌, arith}
use Rattle.std.specs.Prelude.{find, nat_lt, slice_index_or}
use Rattle.std.specs.Ordering.{nat_cmp}
use Rattle.std.specs.declared.alloc.Global.{Global}
use Rattle.std.proofs.lemmas.Bool.Decides.{nat_tests}
use Rattle.std.proofs.lemmas.List.{length-map}
use Rattle.std.proofs.lemmas.List.FromFn.{length-map-range_with_len}
use Rattle.ck_history.specs.Legal.{ArePlaced, AllLegal}
use Rattle.ck_history.specs.Map.{answer_after, replies}
use Rattle.ck_history.specs.declared.update.Reply.{Reply}
use Rattle.ck_history.specs.declared.update.Update.{Update}
use Rattle.ck_script.specs.declared.line.Numbered.{Numbered}
use Rattle.ck_script.specs.declared.line.UpLine.{UpLine}
use Rattle.ck_script.specs.declared.line.UpLine.TheVariants.{Call}
use Rattle.ck_script.specs.declared.line.AskLine.{AskLine}
use Rattle.ck_script.specs.declared.line.AskLine.TheVariants.{Ask}
use Rattle.ck_script.specs.Checks.{range_fault, is_hold_beyond, is_wait_beyond}
use Rattle.ck_script.specs.Script.{said_of, updates, holds, queries, bounded, Script, script_of, HoldLine}
use Rattle.ck_gen.specs.Generated.{generated_updates, generated_keys, lines_of_updates, lines_of_queries, numbered}
use Rattle.ck_gen.specs.Summaries.{summary_of, summary_lines}
use Rattle.ck_gen.proofs.Lawful.{said_numbered}
use Rattle.ck_pool.specs.declared.map_results.MapResults.{MapResults}
use Rattle.ck_pool.specs.Served.{line_total}
use Rattle.ck_pool.specs.Results.{job_script, AreMapResults}
use Rattle.ck_lookup.specs.Tables.{capacity}
use Rattle.ck_lookup.specs.Making.{made_text}

abbrev Ups : Type 0
Ups = List (Numbered (UpLine (Update ℕ)))

abbrev Asks : Type 0
Asks = List (List (Numbered (AskLine ℕ)))

-- lines that are all updates
updates_called : (us : List (Update ℕ)) → updates (map (λ u. Call u) us) ≡ us
updates_called [] = refl
updates_called (u ∷ us) = ap (λ xs. u ∷ xs) (updates_called us)

holds_called : (m : ℕ) (us : List (Update ℕ)) → holds m (map (λ u. Call u) us) ≡ []
holds_called m [] = refl
holds_called m (u ∷ us) = holds_called (m + 1) us

-- lines that are all queries
queries_asked : (low : ℕ) (ks : List ℕ) → queries low (map (λ k. Ask k) ks) ≡ map (λ k. (k, low)) ks
queries_asked low [] = refl
queries_asked low (k ∷ ks) = ap (λ qs. (k, low) ∷ qs) (queries_asked low ks)

-- answers are those of the map after all updates, where each query waits for them all
answered_last : (count : ℕ) (gives : ℕ → ℕ → Option ℕ) (f i : ℕ) (ks : List ℕ) (answers : List (Option ℕ)) (places : List ℕ) → ArePlaced count gives (bounded count [] f i (map (λ k. (k, count)) ks)) answers places → answers ≡ map (gives count) ks
answered_last count gives f i [] [] [] placed = refl
answered_last count gives f i [] [] (p ∷ ps) placed = absurd placed
answered_last count gives f i [] (a ∷ answers) ps placed = absurd placed
answered_last count gives f i (k ∷ ks) [] ps placed = absurd placed
answered_last count gives f i (k ∷ ks) (a ∷ answers) [] placed = absurd placed
answered_last count gives f i (k ∷ ks) (a ∷ answers) (p ∷ ps) placed =
    let from : count ≤ p = placed.0.from in
    let within : p ≤ count = placed.0.given.within in
    let last : p ≡ count = omega (arith, from, within) in
    let here : a ≡ gives count k = placed.0.given.right ∙ ap (λ q. gives q k) last in
    ap (λ b. b ∷ answers) here ∙ ap (λ bs. gives count k ∷ bs) (answered_last count gives f (i + 1) ks answers ps placed.1)

-- no line that is an update is beyond
none_held : (files : List (List (AskLine ℕ))) (n : ℕ) (us : List (Update ℕ)) → find (λ (l : Numbered (UpLine (Update ℕ))). is_hold_beyond files l.what) (numbered n (map (λ u. Call u) us)) ≡ None
none_held files n [] = refl
none_held files n (u ∷ us) = none_held files (n + 1) us

none_waits : (all n : ℕ) (ks : List ℕ) → find (λ (l : Numbered (AskLine ℕ)). is_wait_beyond all l.what) (numbered n (map (λ k. Ask k) ks)) ≡ None
none_waits all n [] = refl
none_waits all n (k ∷ ks) = none_waits all (n + 1) ks

not_below : (a b : ℕ) → b ≤ a → nat_lt a b ≡ false
not_below a b le = go (nat_lt a b) refl
  where
    go : (t : Bool) → nat_lt a b ≡ t → t ≡ false
    go false e = refl
    go true e = absurd (grind (arith, nat_tests))

length_numbered : {L : Type 0} (n : ℕ) (whats : List L) → length (numbered n whats) ≡ length whats
length_numbered n [] = refl
length_numbered n (what ∷ more) = let h = length_numbered (n + 1) more in omega arith

module _ (seed count : ℕ) where
  abbrev us : List (Update ℕ)
  us = generated_updates seed count

  abbrev ks : List ℕ
  ks = generated_keys seed count

  made_long : length us ≡ count
  made_long = length-map-range_with_len _ 1 count

  asked_long : length ks ≡ count
  asked_long = length-map-range_with_len _ 1 count

  -- what the generated lines ask for
  abbrev plain : Script ℕ
  plain = record { updates = us; files = bounded (length us) [] 1 1 (map (λ k. (k, length us)) ks) ∷ [] }

  waited : queries 0 (lines_of_queries seed count) ≡ map (λ k. (k, length us)) ks
  waited = queries_asked (max 0 count) ks ∙ ap (λ n. map (λ k. (k, n)) ks) (omega (arith, made_long))

  script_plain : script_of (lines_of_updates seed count) (lines_of_queries seed count ∷ []) ≡ plain
  script_plain =
      let ups : List (UpLine (Update ℕ)) = lines_of_updates seed count in
      let asks : List (AskLine ℕ) = lines_of_queries seed count in
      let by_updates : List (Update ℕ) → Script ℕ = λ xs. record { updates = xs; files = bounded (length xs) (holds 0 ups) 1 1 (queries 0 asks) ∷ [] } in
      let by_holds : List HoldLine → Script ℕ = λ hs. record { updates = us; files = bounded (length us) hs 1 1 (queries 0 asks) ∷ [] } in
      let by_queries : List (ℕ × ℕ) → Script ℕ = λ qs. record { updates = us; files = bounded (length us) [] 1 1 qs ∷ [] } in
      ap by_updates (updates_called us) ∙ (ap by_holds (holds_called 0 us) ∙ ap by_queries waited)

  module _ (ups : Ups) (asks : Asks) (ups_are : ups ≡ numbered 1 (lines_of_updates seed count)) (asks_are : asks ≡ numbered 1 (lines_of_queries seed count) ∷ []) where
    script_is : job_script ups asks ≡ plain
    script_is =
        let by_ups : Ups → Script ℕ = λ u. script_of (said_of u) (map said_of asks) in
        let by_asks : Asks → Script ℕ = λ fs. script_of (said_of (numbered 1 (lines_of_updates seed count))) (map said_of fs) in
        let by_said : List (UpLine (Update ℕ)) → Script ℕ = λ u. script_of u (said_of (numbered 1 (lines_of_queries seed count)) ∷ []) in
        let by_asked : List (AskLine ℕ) → Script ℕ = λ q. script_of (lines_of_updates seed count) (q ∷ []) in
        ap by_ups ups_are ∙ (ap by_asks asks_are ∙ (ap by_said (said_numbered 1 (lines_of_updates seed count)) ∙ (ap by_asked (said_numbered 1 (lines_of_queries seed count)) ∙ script_plain)))

    -- the job has few lines
    pub few_lines : count ≤ 999999 → line_total ups asks ≤ 4000000
    few_lines few = go asks asks_are
      where
        go : (files : Asks) → files ≡ numbered 1 (lines_of_queries seed count) ∷ [] → line_total ups files ≤ 4000000
        go [] e = absurd (cc)
        go (file ∷ []) e =
            let here : file ≡ numbered 1 (lines_of_queries seed count) = cc in
            let a = ap length ups_are ∙ (length_numbered 1 (lines_of_updates seed count) ∙ (length-map us (λ u. Call u) ∙ made_long)) in
            let b = ap length here ∙ length_numbered 1 (lines_of_queries seed count) in
            let d : length (map (λ k. Ask k) ks) ≡ count = length-map ks (λ k. Ask k) ∙ asked_long in
            omega (arith, a, b, d, few)
        go (file ∷ other ∷ files) e = absurd (cc)

    -- none is beyond what there is
    pub in_range : range_fault ups asks ≡ None
    in_range =
        ap (λ u. range_fault u asks) ups_are ∙ (ap (range_fault (numbered 1 (lines_of_updates seed count))) asks_are ∙ whole)
      where
        waits : length (updates (said_of (numbered 1 (lines_of_updates seed count)))) ≡ count
        waits = ap (λ u. length (updates u)) (said_numbered 1 (lines_of_updates seed count)) ∙ (ap length (updates_called us) ∙ made_long)

        whole : range_fault (numbered 1 (lines_of_updates seed count)) (numbered 1 (lines_of_queries seed count) ∷ []) ≡ None
        whole = rw (none_held (map said_of (numbered 1 (lines_of_queries seed count) ∷ [])) 1 us, waits, not_below count count (omega arith), none_waits (length (updates (said_of (numbered 1 (lines_of_updates seed count))))) 2 ks) refl

    module _ (x : MapResults) (answered : AreMapResults capacity (job_script ups asks) x) where
      -- the first of the lists of answers is there
      answers_are : (lists : List (List (Option ℕ))) → AllLegal (length us) (answer_after nat_cmp capacity us) plain.files lists → lists ≡ map (answer_after nat_cmp capacity us (length us)) ks ∷ []
      answers_are [] legal = absurd legal
      answers_are (a ∷ []) legal = ap (λ b. b ∷ []) (answered_last (length us) (answer_after nat_cmp capacity us) 1 1 ks a legal.0.places legal.0.placed)
      answers_are (a ∷ b ∷ lists) legal = absurd legal.1

      plainly : AreMapResults capacity plain x
      plainly = subst (λ s. AreMapResults capacity s x) script_is answered

      lists_are : map (λ file. file.items) x.answers.items ≡ map (answer_after nat_cmp capacity us (length us)) ks ∷ []
      lists_are = answers_are (map (λ file. file.items) x.answers.items) plainly.legal

      pub one_list : length x.answers.items ≡ 1
      one_list = sym (length-map x.answers.items (λ file. file.items)) ∙ ap length lists_are

      -- the text of what the job came to
      pub summary_is : (found : Vec (Option ℕ) Global) → found ≡ slice_index_or x.answers.items 0 found → summary_lines (summary_of x.replies.items found.items x.pairs.items) ≡ made_text seed count
      summary_is found is =
          let first : found.items ≡ map (answer_after nat_cmp capacity us (length us)) ks = at_first x.answers.items lists_are is in
          let by_replies : List Reply → List ℕ = λ rs. summary_lines (summary_of rs found.items x.pairs.items) in
          let by_found : List (Option ℕ) → List ℕ = λ found_at. summary_lines (summary_of (replies nat_cmp capacity us) found_at x.pairs.items) in
          let by_pairs : List (ℕ × ℕ) → List ℕ = λ ps. summary_lines (summary_of (replies nat_cmp capacity us) (map (answer_after nat_cmp capacity us (length us)) ks) ps) in
          ap by_replies plainly.replied ∙ (ap by_found first ∙ ap by_pairs plainly.final)
        where
          at_first : (lists : List (Vec (Option ℕ) Global)) → map (λ file. file.items) lists ≡ map (answer_after nat_cmp capacity us (length us)) ks ∷ [] → found ≡ slice_index_or lists 0 found → found.items ≡ map (answer_after nat_cmp capacity us (length us)) ks
          at_first [] e here = absurd (cc)
          at_first (v ∷ lists) e here =
              let head : v.items ≡ map (answer_after nat_cmp capacity us (length us)) ks = cc in
              ap (λ (w : Vec (Option ℕ) Global). w.items) here ∙ head
