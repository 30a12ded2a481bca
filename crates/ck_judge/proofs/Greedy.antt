-- The least places of a file's answers, found one after another.
use Rattle.std.proofs.Common.{◌≡◌, ℕ, zero, suc, ◌<◌, ◌≤◌, List, [], ◌∷◌, ◌++◌, length, map, refl, ap, arith, get_or}
use Rattle.std.specs.declared.cmp.Ordering.{Ordering}
use Rattle.std.specs.List.{AllZip}
use Rattle.std.specs.List.Sorted.{IsNonDecreasing}
use Rattle.ck_history.specs.declared.update.Update.{Update}
use Rattle.ck_history.specs.Map.{answer_after}
use Rattle.ck_history.specs.Legal.{Query, ArePlaced, AreLegal}
use Rattle.ck_report.specs.declared.asked.Asked.{Asked}
use Rattle.ck_judge.specs.Verdict.{AreOf, IsLegalFile, AreLeast}
use Rattle.ck_judge.specs.Placing.{IsPlaceOf, IsNextPlace, NoNextPlace}

-- each number is at most the one beside it
abbrev pub NotAbove : List ℕ → List ℕ → Type 0
NotAbove ps os = AllZip (λ p o. p ≤ o) ps os

-- the last of the numbers, or `low` where there is none
abbrev pub last_of : ℕ → List ℕ → ℕ
last_of low [] = low
last_of low (p ∷ ps) = last_of p ps

last_grows : (low low' : ℕ) (ps os : List ℕ) → low ≤ low' → NotAbove ps os → last_of low ps ≤ last_of low' os
last_grows low low' [] [] le h = le
last_grows low low' [] (o ∷ os) le h = absurd h
last_grows low low' (p ∷ ps) [] le h = absurd h
last_grows low low' (p ∷ ps) (o ∷ os) le h = last_grows p o ps os h.0 h.1

not_above_more : (ps os : List ℕ) (p o : ℕ) → NotAbove ps os → p ≤ o → NotAbove (ps ++ p ∷ []) (os ++ o ∷ [])
not_above_more [] [] p o h le = (le, tt)
not_above_more [] (x ∷ os) p o h le = absurd h
not_above_more (x ∷ ps) [] p o h le = absurd h
not_above_more (x ∷ ps) (y ∷ os) p o h le = (h.0, not_above_more ps os p o h.1 le)

-- the numbers are all at least `low`
abbrev Above : ℕ → List ℕ → Type 0
Above low ps = (j d : ℕ) → j < length ps → low ≤ get_or ps j d

later_rises : (p : ℕ) (ps : List ℕ) → IsNonDecreasing (p ∷ ps) → IsNonDecreasing ps
later_rises p ps h = λ i j d le lt. h (suc i) (suc j) d (omega arith) (omega arith)

first_below : (p : ℕ) (ps : List ℕ) → IsNonDecreasing (p ∷ ps) → Above p ps
first_below p ps h = λ j d lt. h zero (suc j) d (omega arith) (omega arith)

rises_from : (p : ℕ) (ps : List ℕ) → Above p ps → IsNonDecreasing ps → IsNonDecreasing (p ∷ ps)
rises_from p ps above rises zero zero d le lt = omega arith
rises_from p ps above rises zero (suc j) d le lt = above j d (omega arith)
rises_from p ps above rises (suc i) zero d le lt = absurd (omega arith)
rises_from p ps above rises (suc i) (suc j) d le lt = rises i j d (omega arith) (omega arith)

above_more : (low p : ℕ) (ps : List ℕ) → low ≤ p → Above p ps → Above low (p ∷ ps)
above_more low p ps le above zero d lt = le
above_more low p ps le above (suc j) d lt = let h = above j d (omega arith) in omega (arith, h)

module _ {K : Type 0} (cmp : K → K → Ordering) (most : ℕ) (us : List (Update K)) where
  -- places of the answers, from `low` on, none below the one before it
  abbrev pub PlacedFrom : ℕ → List (Query K) → List (Asked K) → List ℕ → Type 0
  PlacedFrom low [] [] [] = Unit {0}
  PlacedFrom low [] [] (p ∷ ps) = ⊥
  PlacedFrom low [] (a ∷ as_) ps = ⊥
  PlacedFrom low (q ∷ qs) [] ps = ⊥
  PlacedFrom low (q ∷ qs) (a ∷ as_) [] = ⊥
  PlacedFrom low (q ∷ qs) (a ∷ as_) (p ∷ ps) = (low ≤ p) × IsPlaceOf cmp most us q a p × PlacedFrom p qs as_ ps

  -- such places make the answers legal, ..
  place_keys : (low : ℕ) (qs : List (Query K)) (answers : List (Asked K)) (ps : List ℕ) → PlacedFrom low qs answers ps → AreOf cmp qs answers
  place_keys low [] [] [] h = tt
  place_keys low [] [] (p ∷ ps) h = absurd h
  place_keys low [] (a ∷ more) ps h = absurd h
  place_keys low (q ∷ qs) [] ps h = absurd h
  place_keys low (q ∷ qs) (a ∷ more) [] h = absurd h
  place_keys low (q ∷ qs) (a ∷ more) (p ∷ ps) h = (h.1.key, place_keys p qs more ps h.2)

  pub place_each : (low : ℕ) (qs : List (Query K)) (answers : List (Asked K)) (ps : List ℕ) → PlacedFrom low qs answers ps → ArePlaced (length us) (answer_after cmp most us) qs (map (λ a. a.found) answers) ps
  place_each low [] [] [] h = tt
  place_each low [] [] (p ∷ ps) h = absurd h
  place_each low [] (a ∷ more) ps h = absurd h
  place_each low (q ∷ qs) [] ps h = absurd h
  place_each low (q ∷ qs) (a ∷ more) [] h = absurd h
  place_each low (q ∷ qs) (a ∷ more) (p ∷ ps) h = (h.1.placed, place_each p qs more ps h.2)

  place_above : (low : ℕ) (qs : List (Query K)) (answers : List (Asked K)) (ps : List ℕ) → PlacedFrom low qs answers ps → Above low ps
  place_above low qs answers [] h = λ j d lt. absurd (omega arith)
  place_above low [] [] (p ∷ ps) h = absurd h
  place_above low [] (a ∷ more) (p ∷ ps) h = absurd h
  place_above low (q ∷ qs) [] (p ∷ ps) h = absurd h
  place_above low (q ∷ qs) (a ∷ more) (p ∷ ps) h = above_more low p ps h.0 (place_above p qs more ps h.2)

  pub place_rises : (low : ℕ) (qs : List (Query K)) (answers : List (Asked K)) (ps : List ℕ) → PlacedFrom low qs answers ps → IsNonDecreasing ps
  place_rises low qs answers [] h = λ i j d le lt. absurd (omega arith)
  place_rises low [] [] (p ∷ ps) h = absurd h
  place_rises low [] (a ∷ more) (p ∷ ps) h = absurd h
  place_rises low (q ∷ qs) [] (p ∷ ps) h = absurd h
  place_rises low (q ∷ qs) (a ∷ more) (p ∷ ps) h = rises_from p ps (place_above p qs more ps h.2) (place_rises p qs more ps h.2)

  pub legal_places : (qs : List (Query K)) (answers : List (Asked K)) (ps : List ℕ) → PlacedFrom 0 qs answers ps → IsLegalFile cmp most us qs answers
  legal_places qs answers ps h = record {
    asked = place_keys 0 qs answers ps h;
    legal = record { places = ps; never_fall = place_rises 0 qs answers ps h; placed = place_each 0 qs answers ps h };
  }

  -- .. and the places of legal answers are such places
  places_from : (low : ℕ) (qs : List (Query K)) (answers : List (Asked K)) (ps : List ℕ) → AreOf cmp qs answers → Above low ps → IsNonDecreasing ps → ArePlaced (length us) (answer_after cmp most us) qs (map (λ a. a.found) answers) ps → PlacedFrom low qs answers ps
  places_from low [] [] [] keys above rises h = tt
  places_from low [] [] (p ∷ ps) keys above rises h = absurd h
  places_from low [] (a ∷ more) ps keys above rises h = absurd keys
  places_from low (q ∷ qs) [] ps keys above rises h = absurd keys
  places_from low (q ∷ qs) (a ∷ more) [] keys above rises h = absurd h
  places_from low (q ∷ qs) (a ∷ more) (p ∷ ps) keys above rises h =
      (above zero 0 (omega arith), record { key = keys.0; placed = h.0 }, places_from p qs more ps keys.1 (first_below p ps rises) (later_rises p ps rises) h.1)

  pub places_of_legal : (qs : List (Query K)) (answers : List (Asked K)) (asked : AreOf cmp qs answers) (legal : AreLegal (length us) (answer_after cmp most us) qs (map (λ a. a.found) answers)) → PlacedFrom 0 qs answers legal.places
  places_of_legal qs answers asked legal = places_from 0 qs answers legal.places asked (λ j d lt. omega arith) legal.never_fall legal.placed

  -- the answers are in order, and as many as the queries
  pub placed_lengths : (low : ℕ) (qs : List (Query K)) (answers : List (Asked K)) (ps : List ℕ) → PlacedFrom low qs answers ps → length answers ≡ length qs
  placed_lengths low [] [] [] h = refl
  placed_lengths low [] [] (p ∷ ps) h = absurd h
  placed_lengths low [] (a ∷ more) ps h = absurd h
  placed_lengths low (q ∷ qs) [] ps h = absurd h
  placed_lengths low (q ∷ qs) (a ∷ more) [] h = absurd h
  placed_lengths low (q ∷ qs) (a ∷ more) (p ∷ ps) h = ap suc (placed_lengths p qs more ps h.2)

  -- places up to one more answer: those up to it, and its own
  record LastPlace (low : ℕ) (qs : List (Query K)) (answers : List (Asked K)) (q : Query K) (a : Asked K) (os : List ℕ) : Type 0 where
    front : List ℕ
    last : ℕ
    whole : os ≡ front ++ last ∷ []
    before : PlacedFrom low qs answers front
    above : last_of low front ≤ last
    here : IsPlaceOf cmp most us q a last

  last_place : (low : ℕ) (qs : List (Query K)) (answers : List (Asked K)) (q : Query K) (a : Asked K) (os : List ℕ) → length answers ≡ length qs → PlacedFrom low (qs ++ q ∷ []) (answers ++ a ∷ []) os → LastPlace low qs answers q a os
  last_place low [] [] q a [] same h = absurd h
  last_place low [] [] q a (o ∷ []) same h = record { front = []; last = o; whole = refl; before = tt; above = h.0; here = h.1 }
  last_place low [] [] q a (o ∷ x ∷ os) same h = absurd h.2
  last_place low [] (b ∷ more) q a os same h = absurd (omega arith)
  last_place low (x ∷ qs) [] q a os same h = absurd (omega arith)
  last_place low (x ∷ qs) (b ∷ more) q a [] same h = absurd h
  last_place low (x ∷ qs) (b ∷ more) q a (o ∷ os) same h =
      let one = last_place o qs more q a os (omega arith) h.2 in
      record { front = o ∷ one.front; last = one.last; whole = ap (λ l. o ∷ l) one.whole; before = (h.0, h.1, one.before); above = one.above; here = one.here }

  one_more_place : (low : ℕ) (qs : List (Query K)) (answers : List (Asked K)) (q : Query K) (a : Asked K) (ps : List ℕ) (p : ℕ) → PlacedFrom low qs answers ps → last_of low ps ≤ p → IsPlaceOf cmp most us q a p → PlacedFrom low (qs ++ q ∷ []) (answers ++ a ∷ []) (ps ++ p ∷ [])
  one_more_place low [] [] q a [] p h le here = (le, here, tt)
  one_more_place low [] [] q a (x ∷ ps) p h le here = absurd h
  one_more_place low [] (b ∷ more) q a ps p h le here = absurd h
  one_more_place low (x ∷ qs) [] q a ps p h le here = absurd h
  one_more_place low (x ∷ qs) (b ∷ more) q a [] p h le here = absurd h
  one_more_place low (x ∷ qs) (b ∷ more) q a (y ∷ ps) p h le here = (h.0, h.1, one_more_place y qs more q a ps p h.2 le here)

  -- least places, of which `last` is the last
  pub record IsGreedy (qs : List (Query K)) (answers : List (Asked K)) (ps : List ℕ) (last : ℕ) : Type 0 where
    pub placed : PlacedFrom 0 qs answers ps
    pub ends : last_of 0 ps ≡ last
    pub least : (os : List ℕ) → PlacedFrom 0 qs answers os → NotAbove ps os

  pub greedy_start : IsGreedy [] [] [] 0
  greedy_start = record { placed = tt; ends = refl; least = none }
    where
      none : (os : List ℕ) → PlacedFrom 0 [] [] os → NotAbove [] os
      none [] h = tt
      none (o ∷ os) h = absurd h

  module _ (qs : List (Query K)) (answers : List (Asked K)) (ps : List ℕ) (last : ℕ) (g : IsGreedy qs answers ps last) (q : Query K) (a : Asked K) where
    bounded_by : (os : List ℕ) (one : LastPlace 0 qs answers q a os) → last ≤ one.last
    bounded_by os one = let h = last_grows 0 0 ps one.front (omega arith) (g.least one.front one.before) in omega (arith, h, g.ends, one.above)

    pub greedy_more : (p : ℕ) → IsNextPlace cmp most us last q a p → IsGreedy (qs ++ q ∷ []) (answers ++ a ∷ []) (ps ++ p ∷ []) p
    greedy_more p next = record {
      placed = one_more_place 0 qs answers q a ps p g.placed (omega (arith, g.ends, next.from)) next.here;
      ends = last_of_more 0 ps p;
      least = λ os h.
          let one = last_place 0 qs answers q a os (placed_lengths 0 qs answers ps g.placed) h in
          rw one.whole (not_above_more ps one.front p one.last (g.least one.front one.before) (next.least one.last (bounded_by os one) one.here));
    }
      where
        last_of_more : (low : ℕ) (xs : List ℕ) (x : ℕ) → last_of low (xs ++ x ∷ []) ≡ x
        last_of_more low [] x = refl
        last_of_more low (y ∷ xs) x = last_of_more y xs x

    pub greedy_ends : NoNextPlace cmp most us last q a → (os : List ℕ) → PlacedFrom 0 (qs ++ q ∷ []) (answers ++ a ∷ []) os → ⊥
    greedy_ends none os h =
        let one = last_place 0 qs answers q a os (placed_lengths 0 qs answers ps g.placed) h in
        none one.last (bounded_by os one) one.here

  -- the greedy places are the least of all
  pub greedy_least : (qs : List (Query K)) (answers : List (Asked K)) (ps : List ℕ) (last : ℕ) → IsGreedy qs answers ps last → AreLeast cmp most us qs answers ps
  greedy_least qs answers ps last g = record {
    never_fall = place_rises 0 qs answers ps g.placed;
    placed = place_each 0 qs answers ps g.placed;
    least = λ other. g.least other.places (places_of_legal qs answers (place_keys 0 qs answers ps g.placed) other);
  }
