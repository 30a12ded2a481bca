-- The answers of a report, taken file by file.
use Rattle.std.proofs.Common.{◌≡◌, ◌≢◌, ℕ, zero, suc, ◌+◌, ◌<◌, ◌≤◌, ◌==◌, Bool, true, false, cond, List, [], ◌∷◌, ◌++◌, length, take, refl, ap, sym, ◌∙◌, subst, arith, add-zero, ◌⊎◌, inl, inr, nat_le, length-take-le}
use Rattle.std.specs.declared.cmp.Ordering.{Ordering}
use Rattle.std.specs.Option.{unwrap_or}
use Rattle.std.proofs.lemmas.Bool.Decides.{nat_tests}
use Rattle.std.proofs.lemmas.Option.{slice_get_past}
use Rattle.ck_history.specs.declared.update.Update.{Update}
use Rattle.ck_history.specs.Legal.{Query}
use Rattle.ck_report.specs.declared.asked.Asked.{Asked}
use Rattle.ck_report.specs.Reports.{AreNamed}
use Rattle.ck_judge.specs.Verdict.{file_answers, file_queries, IsLegalFile, IsFirstWrong, AreLeast, AreLeastFrom, IsRightFile, HasAnswers, IsFirstWrongAnswer}
use Rattle.ck_judge.specs.Files.{next_answers, later_files}
use Rattle.ck_judge.proofs.Greedy.{legal_places}

same_number : (m n : ℕ) → (m == n) ≡ true → m ≡ n
same_number m n e = grind (arith, nat_tests)

pub same_itself : (m : ℕ) → (m == m) ≡ true
same_itself m = grind (arith, nat_tests)

-- one of two orders
pub le_or_gt : (m n : ℕ) → (m ≤ n) ⊎ (n < m)
le_or_gt m n = by_test (nat_le m n) refl
  where
    by_test : (b : Bool) → nat_le m n ≡ b → (m ≤ n) ⊎ (n < m)
    by_test true e = inl (grind (arith, nat_tests))
    by_test false e = inr (grind (arith, nat_tests))

other_number : (m n : ℕ) → (m == n) ≡ false → m ≢ n
other_number m n e = grind (arith, nat_tests)

pub not_number : (m n : ℕ) → m ≢ n → (m == n) ≡ false
not_number m n e = grind (arith, nat_tests)

module _ {K : Type 0} where
  -- a number below those that are named has no answers
  pub none_named : (f h : ℕ) (es : List (ℕ × List (Asked K))) → AreNamed h es → f < h → file_answers f es ≡ []
  none_named f h [] named lt = refl
  none_named f h (e ∷ es) named lt =
      ap (λ b. cond b e.1 (file_answers f es)) (not_number e.0 f (λ same. omega (arith, same, named.0))) ∙ none_named f (e.0 + 1) es named.2 (omega (arith, named.0))

  pub first_is : (f : ℕ) (es : List (ℕ × List (Asked K))) → AreNamed f es → file_answers f es ≡ next_answers f es
  first_is f [] named = refl
  first_is f (e ∷ es) named = ap (λ l. cond (e.0 == f) e.1 l) (none_named f (e.0 + 1) es named.2 (omega (arith, named.0)))

  pub past_named : (f : ℕ) (es : List (ℕ × List (Asked K))) → AreNamed f es → AreNamed (f + 1) (later_files f es)
  past_named f [] named = tt
  past_named f (e ∷ es) named = by_test (e.0 == f) refl
    where
      by_test : (b : Bool) → (e.0 == f) ≡ b → AreNamed (f + 1) (cond b es (e ∷ es))
      by_test true same = subst (λ n. AreNamed (n + 1) es) (same_number e.0 f same) named.2
      by_test false apart = let ne = other_number e.0 f apart in (omega (arith, ne, named.0), named.1, named.2)

  pub past_same : (f g : ℕ) (es : List (ℕ × List (Asked K))) → f < g → file_answers g (later_files f es) ≡ file_answers g es
  past_same f g [] lt = refl
  past_same f g (e ∷ es) lt = by_test (e.0 == f) refl
    where
      by_test : (b : Bool) → (e.0 == f) ≡ b → file_answers g (cond b es (e ∷ es)) ≡ file_answers g (e ∷ es)
      by_test true same = let is = same_number e.0 f same in sym (ap (λ b. cond b e.1 (file_answers g es)) (not_number e.0 g (λ eq. omega (arith, eq, is))))
      by_test false apart = refl

module _ {K : Type 0} (cmp : K → K → Ordering) (most : ℕ) (us : List (Update K)) where
  nothing_legal : IsLegalFile cmp most us [] []
  nothing_legal = legal_places cmp most us [] [] [] tt

  -- a file beyond the last has no queries
  pub beyond : (f : ℕ) (files : List (List (Query K))) → length files < f → file_queries f files ≡ []
  beyond zero files lt = absurd (omega arith)
  beyond (suc i) files lt = ap (λ o. unwrap_or o []) (slice_get_past files i (omega arith))

  -- so it is right where it has no answers
  pub right_beyond : (f : ℕ) (files : List (List (Query K))) (named : List (ℕ × List (Asked K))) → length files < f → file_answers f named ≡ [] → IsRightFile cmp most us files named f
  right_beyond f files named lt none =
      subst (λ qs. IsLegalFile cmp most us qs (file_answers f named)) (sym (beyond f files lt)) (subst (λ answers. IsLegalFile cmp most us [] answers) (sym none) nothing_legal)

  -- and else its first answer is surplus
  surplus : (answers : List (Asked K)) → 0 < length answers → IsFirstWrong cmp most us [] answers 1
  surplus [] pos = absurd (omega arith)
  surplus (a ∷ answers) pos = record {
    counted = omega arith;
    before = λ n lt. let zero_is : 0 ≡ n = omega arith in subst (λ k. IsLegalFile cmp most us (take k []) (take k (a ∷ answers))) zero_is nothing_legal;
    here = λ legal. legal.asked;
  }

  module _ (files : List (List (Query K))) (named : List (ℕ × List (Asked K))) where
    -- the files so far are right, and these are named after them
    pub record AreRightTo (i : ℕ) (left : List (ℕ × List (Asked K))) (least : List (List ℕ)) : Type 0 where
      pub ascend : AreNamed (i + 1) left
      pub later : (g : ℕ) → i < g → file_answers g left ≡ file_answers g named
      pub right : (g : ℕ) → 0 < g → g ≤ i → IsRightFile cmp most us files named g
      pub places : AreLeastFrom cmp most us 1 (take i files) named least

    -- none is left
    pub all_right : (least : List (List ℕ)) → AreRightTo (length files) [] least → HasAnswers cmp most us files named
    all_right least to f pos = elim (le_or_gt f (length files)) [
      | inl le ↦ to.right f pos le
      | inr gt ↦ right_beyond f files named gt (sym (to.later f gt))
    ]

    -- one is left, which is beyond the last
    pub first_beyond : (e : ℕ × List (Asked K)) (es : List (ℕ × List (Asked K))) (least : List (List ℕ)) → AreRightTo (length files) (e ∷ es) least → IsFirstWrongAnswer cmp most us files named e.0 1
    first_beyond e es least to =
        let gt : length files < e.0 = omega (arith, to.ascend.0) in
        let same : e.1 ≡ file_answers e.0 named = sym (ap (λ b. cond b e.1 (file_answers e.0 es)) (same_itself e.0)) ∙ to.later e.0 gt in
        record {
          counted = omega (arith, gt);
          before = λ g pos lt. elim (le_or_gt g (length files)) [
            | inl le ↦ to.right g pos le
            | inr more ↦ right_beyond g files named more (sym (to.later g more) ∙ none_named g e.0 (e ∷ es) (omega arith, to.ascend.1, to.ascend.2) lt)
          ];
          here = subst (λ qs. IsFirstWrong cmp most us qs (file_answers e.0 named) 1) (sym (beyond e.0 files gt)) (subst (λ answers. IsFirstWrong cmp most us [] answers 1) same (surplus e.1 to.ascend.1));
        }

    -- the next file's answers are wrong
    pub wrong_next : (i query : ℕ) (left : List (ℕ × List (Asked K))) (least : List (List ℕ)) (qs : List (Query K)) → AreRightTo i left least → file_queries (i + 1) files ≡ qs → IsFirstWrong cmp most us qs (next_answers (i + 1) left) query → IsFirstWrongAnswer cmp most us files named (i + 1) query
    wrong_next i query left least qs to asked wrong =
        let same = sym (first_is (i + 1) left to.ascend) ∙ to.later (i + 1) (omega arith) in
        record {
          counted = omega arith;
          before = λ g pos lt. to.right g pos (omega arith);
          here = subst (λ q. IsFirstWrong cmp most us q (file_answers (i + 1) named) query) (sym asked) (subst (λ answers. IsFirstWrong cmp most us qs answers query) same wrong);
        }

    least_more : (f : ℕ) (fs : List (List (Query K))) (ls : List (List ℕ)) (qs : List (Query K)) (ps : List ℕ) → AreLeastFrom cmp most us f fs named ls → AreLeast cmp most us qs (file_answers (f + length fs) named) ps → AreLeastFrom cmp most us f (fs ++ qs ∷ []) named (ls ++ ps ∷ [])
    least_more f [] [] qs ps h here = (subst (λ n. AreLeast cmp most us qs (file_answers n named) ps) (add-zero f) here, tt)
    least_more f [] (l ∷ ls) qs ps h here = absurd h
    least_more f (x ∷ fs) [] qs ps h here = absurd h
    least_more f (x ∷ fs) (l ∷ ls) qs ps h here =
        let far : f + length (x ∷ fs) ≡ f + 1 + length fs = omega arith in
        (h.0, least_more (f + 1) fs ls qs ps h.1 (subst (λ n. AreLeast cmp most us qs (file_answers n named) ps) far here))

    -- they are right
    pub right_next : (i : ℕ) (left : List (ℕ × List (Asked K))) (least : List (List ℕ)) (qs : List (Query K)) (ps : List ℕ) → AreRightTo i left least → i < length files → file_queries (i + 1) files ≡ qs → take (i + 1) files ≡ take i files ++ qs ∷ [] → IsLegalFile cmp most us qs (next_answers (i + 1) left) → AreLeast cmp most us qs (next_answers (i + 1) left) ps → AreRightTo (i + 1) (later_files (i + 1) left) (least ++ ps ∷ [])
    right_next i left least qs ps to lt asked longer legal here =
        let same = sym (first_is (i + 1) left to.ascend) ∙ to.later (i + 1) (omega arith) in
        let counted : i + 1 ≡ 1 + length (take i files) = omega (arith, length-take-le i files (omega arith)) in
        record {
          ascend = past_named (i + 1) left to.ascend;
          later = λ g gt. past_same (i + 1) g left gt ∙ to.later g (omega arith);
          right = λ g pos le. elim (le_or_gt g i) [
            | inl before ↦ to.right g pos before
            | inr now ↦
                let is : i + 1 ≡ g = omega arith in
                subst (λ n. IsRightFile cmp most us files named n) is (subst (λ q. IsLegalFile cmp most us q (file_answers (i + 1) named)) (sym asked) (subst (λ answers. IsLegalFile cmp most us qs answers) same legal))
          ];
          places = subst (λ fs. AreLeastFrom cmp most us 1 fs named (least ++ ps ∷ [])) (sym longer)
              (least_more 1 (take i files) least qs ps to.places (subst (λ n. AreLeast cmp most us qs (file_answers n named) ps) counted (subst (λ answers. AreLeast cmp most us qs answers ps) same here)));
        }
