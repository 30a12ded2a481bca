-- The verdict is `Legal` exactly for a legal report.
use Rattle.std.proofs.Common.{◌≡◌, ℕ, zero, suc, ◌-◌, ◌↔◌, IsTrue, List, [], ◌∷◌, take, refl, sym, subst, true≢false, Result, Ok, Err, IfOk}
use Rattle.std.specs.declared.cmp.Ordering.{Ordering}
use Rattle.ck_history.specs.declared.update.Update.{Update}
use Rattle.ck_history.specs.Legal.{Query}
use Rattle.ck_script.specs.Script.{Script}
use Rattle.ck_report.specs.declared.asked.Asked.{Asked}
use Rattle.ck_report.specs.Reports.{Parts}
use Rattle.ck_judge.specs.declared.verdict.Verdict.{Verdict}
use Rattle.ck_judge.specs.declared.verdict.Verdict.TheVariants.{Legal, Reply, Place, Table}
use Rattle.ck_judge.specs.Verdict.{IsLegalFile, IsFirstWrong, IsLegalReport, IsVerdict, is_legal}
use Rattle.ck_judge.proofs.Greedy.{PlacedFrom, legal_places, places_of_legal}

module _ {K : Type 0} (cmp : K → K → Ordering) where
  module _ (most : ℕ) (us : List (Update K)) where
    -- places of the first n answers
    first_places : (n low : ℕ) (qs : List (Query K)) (answers : List (Asked K)) (ps : List ℕ) → PlacedFrom cmp most us low qs answers ps → PlacedFrom cmp most us low (take n qs) (take n answers) (take n ps)
    first_places zero low [] [] [] h = tt
    first_places zero low (q ∷ qs) [] ps h = absurd h
    first_places zero low [] (a ∷ more) ps h = absurd h
    first_places zero low [] [] (p ∷ ps) h = absurd h
    first_places zero low (q ∷ qs) (a ∷ more) [] h = absurd h
    first_places zero low (q ∷ qs) (a ∷ more) (p ∷ ps) h = tt
    first_places (suc n) low [] [] [] h = tt
    first_places (suc n) low [] [] (p ∷ ps) h = absurd h
    first_places (suc n) low [] (a ∷ more) ps h = absurd h
    first_places (suc n) low (q ∷ qs) [] ps h = absurd h
    first_places (suc n) low (q ∷ qs) (a ∷ more) [] h = absurd h
    first_places (suc n) low (q ∷ qs) (a ∷ more) (p ∷ ps) h = (h.0, h.1, first_places n p qs more ps h.2)

    -- so no number of a legal file is wrong
    pub legal_not_wrong : (qs : List (Query K)) (answers : List (Asked K)) (n : ℕ) → IsLegalFile cmp most us qs answers → IsFirstWrong cmp most us qs answers n → ⊥
    legal_not_wrong qs answers n legal wrong =
        wrong.here (legal_places cmp most us (take n qs) (take n answers) (take n legal.legal.places)
        (first_places n 0 qs answers legal.legal.places (places_of_legal cmp most us qs answers legal.asked legal.legal)))

  pub legal_exactly : (most : ℕ) (script : Script K) (report : Parts K) (v : Verdict) → IsVerdict cmp most script report v → IsTrue (is_legal v) ↔ IsLegalReport cmp most script report
  legal_exactly most script report (Legal least) h = (λ _. h.0, λ _. refl)
  legal_exactly most script report (Reply at) h = (λ no. absurd (true≢false (sym no)), λ legal. absurd (h.here (legal.replies (at - 1))))
  legal_exactly most script report (Place file query) h = (λ no. absurd (true≢false (sym no)), λ legal. absurd (legal_not_wrong most script.updates _ _ query (legal.answers file h.1.counted) h.1.here))
  legal_exactly most script report (Table at) h = (λ no. absurd (true≢false (sym no)), λ legal. absurd (h.2.here (legal.table (at - 1))))

module _ {K E : Type 0} (cmp : K → K → Ordering) (most : ℕ) (script : Script K) (report : Parts K) (r : Result Verdict E) where
  -- the verdict beside a script, from the one beside its parts
  pub by_parts : (us : List (Update K)) (files : List (List (Query K))) → us ≡ script.updates → files ≡ script.files → IfOk r (IsVerdict cmp most (record { updates = us; files = files }) report) → IfOk r (IsVerdict cmp most script report)
  by_parts us files same_updates same_files h =
      let made : List (Update K) → List (List (Query K)) → Script K = λ u f. record { updates = u; files = f } in
      subst (λ u. IfOk r (IsVerdict cmp most (made u script.files) report)) same_updates (subst (λ f. IfOk r (IsVerdict cmp most (made us f) report)) same_files h)

-- what a verdict says of a legal report
pub legal_by : {K E : Type 0} (cmp : K → K → Ordering) (most : ℕ) (script : Script K) (report : Parts K) (r : Result Verdict E) → IfOk r (IsVerdict cmp most script report) → IfOk r (λ v. IsTrue (is_legal v) ↔ IsLegalReport cmp most script report)
legal_by cmp most script report (Ok v) h = legal_exactly cmp most script report v h
legal_by cmp most script report (Err e) h = tt
