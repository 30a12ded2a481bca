-- The places of a file's answers so far.
use Rattle.std.proofs.Common.{◌≡◌, ℕ, suc, ◌+◌, ◌<◌, ◌≤◌, List, [], ◌∷◌, ◌++◌, length, map, take, get_or, refl, ap, sym, ◌∙◌, subst, arith, ◌⊎◌, inl, inr}
use Rattle.std.specs.declared.cmp.Ordering.{Ordering}
use Rattle.std.proofs.lemmas.List.{take_more, take_all, length-map, length-take}
use Rattle.ck_history.specs.declared.update.Update.{Update}
use Rattle.ck_history.specs.Legal.{Query}
use Rattle.ck_report.specs.declared.asked.Asked.{Asked}
use Rattle.ck_judge.specs.declared.bounds.Bounded.{Bounded}
use Rattle.ck_judge.specs.Bounds.{query_of}
use Rattle.ck_judge.specs.Verdict.{AreOf, IsLegalFile, IsFirstWrong, AreLeast}
use Rattle.ck_judge.specs.Placing.{IsNextPlace, NoNextPlace}
use Rattle.ck_judge.proofs.Greedy.{IsGreedy, greedy_start, greedy_more, greedy_ends, greedy_least, legal_places, places_of_legal}
use Rattle.ck_judge.proofs.Recalling.{read_mapped}
use Rattle.ck_judge.proofs.Named.{le_or_gt}

-- one more element
pub taken_next : {A : Type 0} (xs : List A) (i : ℕ) (x : A) → i < length xs → x ≡ get_or xs i x → take (i + 1) xs ≡ take i xs ++ x ∷ []
taken_next xs i x lt is = take_more xs i x lt ∙ ap (λ y. take i xs ++ y ∷ []) (sym is)

taken_none : {A : Type 0} (xs : List A) → take 0 xs ≡ []
taken_none [] = refl
taken_none (x ∷ xs) = refl

module _ {K : Type 0} (cmp : K → K → Ordering) (most : ℕ) (us : List (Update K)) where
  as_many : (qs : List (Query K)) (answers : List (Asked K)) → AreOf cmp qs answers → length answers ≡ length qs
  as_many [] [] h = refl
  as_many [] (a ∷ more) h = absurd h
  as_many (q ∷ qs) [] h = absurd h
  as_many (q ∷ qs) (a ∷ more) h = ap suc (as_many qs more h.1)

  module _ (queries : List (Bounded K)) (answers : List (Asked K)) where
    -- the first i answers have these least places
    pub record ArePlacedTo (i : ℕ) (places : List ℕ) (last : ℕ) : Type 0 where
      pub few : i ≤ length answers
      pub greedy : IsGreedy cmp most us (take i (map query_of queries)) (take i answers) places last
      pub before : (n : ℕ) → n ≤ i → IsLegalFile cmp most us (take n (map query_of queries)) (take n answers)

    pub placed_start : ArePlacedTo 0 [] 0
    placed_start =
        let queries_none = sym (taken_none (map query_of queries)) in
        let answers_none = sym (taken_none answers) in
        record {
          few = omega arith;
          greedy = subst (λ qs. IsGreedy cmp most us qs (take 0 answers) [] 0) queries_none (subst (λ found. IsGreedy cmp most us [] found [] 0) answers_none (greedy_start cmp most us));
          before = λ n le.
              let is : 0 ≡ n = omega arith in
              subst (λ k. IsLegalFile cmp most us (take k (map query_of queries)) (take k answers)) is
              (subst (λ qs. IsLegalFile cmp most us qs (take 0 answers)) queries_none (subst (λ found. IsLegalFile cmp most us [] found) answers_none (legal_places cmp most us [] [] [] tt)));
        }

    module _ (i : ℕ) (places : List ℕ) (last : ℕ) (to : ArePlacedTo i places last) where
      -- the answer is missing
      pub placed_missing : i < length queries → length answers ≤ i → IsFirstWrong cmp most us (map query_of queries) answers (i + 1)
      placed_missing lt short = record {
        counted = omega arith;
        before = λ n below. to.before n (omega arith);
        here = λ legal.
            let same = as_many _ _ legal.asked in
            omega (arith, same, length-take (i + 1) answers, length-take (i + 1) (map query_of queries), length-map queries query_of);
      }

      -- it is surplus
      pub placed_surplus : length queries ≤ i → i < length answers → IsFirstWrong cmp most us (map query_of queries) answers (i + 1)
      placed_surplus short lt = record {
        counted = omega arith;
        before = λ n below. to.before n (omega arith);
        here = λ legal.
            let same = as_many _ _ legal.asked in
            omega (arith, same, length-take (i + 1) answers, length-take (i + 1) (map query_of queries), length-map queries query_of);
      }

      -- all have places
      pub placed_all : length queries ≤ i → length answers ≤ i → IsLegalFile cmp most us (map query_of queries) answers × AreLeast cmp most us (map query_of queries) answers places
      placed_all short few =
          let qs : take i (map query_of queries) ≡ map query_of queries = take_all i (map query_of queries) (omega (arith, length-map queries query_of)) in
          let found : take i answers ≡ answers = take_all i answers few in
          let all = subst (λ xs. IsGreedy cmp most us xs answers places last) qs (subst (λ xs. IsGreedy cmp most us (take i (map query_of queries)) xs places last) found to.greedy) in
          (legal_places cmp most us _ _ places all.placed, greedy_least cmp most us _ _ places last all)

      module _ (q : Bounded K) (a : Asked K) (lt : i < length queries) (q_is : q ≡ get_or queries i q) (within : i < length answers) (a_is : a ≡ get_or answers i a) where
        queries_next : take (i + 1) (map query_of queries) ≡ take i (map query_of queries) ++ query_of q ∷ []
        queries_next = taken_next (map query_of queries) i (query_of q) (omega (arith, length-map queries query_of)) (ap query_of q_is ∙ sym (read_mapped query_of queries i q))

        answers_next : take (i + 1) answers ≡ take i answers ++ a ∷ []
        answers_next = taken_next answers i a within a_is

        -- it has no place
        pub placed_wrong : NoNextPlace cmp most us last (query_of q) a → IsFirstWrong cmp most us (map query_of queries) answers (i + 1)
        placed_wrong none = record {
          counted = omega arith;
          before = λ n below. to.before n (omega arith);
          here = λ legal.
              let longer = subst (λ xs. IsLegalFile cmp most us xs (take i answers ++ a ∷ [])) queries_next (subst (λ xs. IsLegalFile cmp most us (take (i + 1) (map query_of queries)) xs) answers_next legal) in
              greedy_ends cmp most us _ _ places last to.greedy (query_of q) a none longer.legal.places (places_of_legal cmp most us _ _ longer.asked longer.legal);
        }

        -- it has one
        pub placed_next : (p : ℕ) (more : List ℕ) → IsNextPlace cmp most us last (query_of q) a p → more ≡ places ++ p ∷ [] → ArePlacedTo (i + 1) more p
        placed_next p more next pushed =
            let longer = greedy_more cmp most us _ _ places last to.greedy (query_of q) a p next in
            let here = subst (λ xs. IsGreedy cmp most us xs (take (i + 1) answers) (places ++ p ∷ []) p) (sym queries_next) (subst (λ xs. IsGreedy cmp most us (take i (map query_of queries) ++ query_of q ∷ []) xs (places ++ p ∷ []) p) (sym answers_next) longer) in
            record {
              few = omega arith;
              greedy = subst (λ ps. IsGreedy cmp most us (take (i + 1) (map query_of queries)) (take (i + 1) answers) ps p) (sym pushed) here;
              before = λ n le. elim (le_or_more n) [
                | inl before ↦ to.before n before
                | inr is ↦ subst (λ k. IsLegalFile cmp most us (take k (map query_of queries)) (take k answers)) (is le) (legal_places cmp most us _ _ (places ++ p ∷ []) here.placed)
              ];
            }
          where
            le_or_more : (n : ℕ) → (n ≤ i) ⊎ (n ≤ i + 1 → i + 1 ≡ n)
            le_or_more n = elim (le_or_gt n i) [ inl le ↦ inl le | inr gt ↦ inr (λ le. omega arith) ]
