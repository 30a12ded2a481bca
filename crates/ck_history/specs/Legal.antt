-- Which answers of files of queries are legal beside the updates of one writer.
use Rattle.std.specs.Prelude.{ℕ, ◌≤◌, List, [], ◌∷◌}
use Rattle.std.specs.List.Sorted.{IsNonDecreasing}
use Rattle.ck_history.specs.Places.{IsAnswerAt}

-- a query: its key, and the least and the greatest place that its answer may have
pub record Query (K : Type 0) : Type 0 where
  pub key : K
  pub least : ℕ
  pub greatest : ℕ

-- There are `count` updates, and after p of them a query of the key k has the answer `gives p k`
module _ {K A : Type 0} (count : ℕ) (gives : ℕ → K → A) where
  -- the answer is the right one at this place, and the query allows the place
  pub record IsPlaced (q : Query K) (answer : A) (p : ℕ) : Type 0 where
    pub from : q.least ≤ p
    pub to : p ≤ q.greatest
    pub given : IsAnswerAt count gives q.key answer p

  -- each query has one answer and one place, in order
  abbrev pub ArePlaced : List (Query K) → List A → List ℕ → Type 0
  ArePlaced [] [] [] = Unit {0}
  ArePlaced (q ∷ qs) (answer ∷ answers) (p ∷ ps) = IsPlaced q answer p × ArePlaced qs answers ps
  ArePlaced _ _ _ = ⊥

  -- the answers of one file of queries are legal: they have places that never fall
  pub record AreLegal (queries : List (Query K)) (answers : List A) : Type 0 where
    pub places : List ℕ
    pub never_fall : IsNonDecreasing places
    pub placed : ArePlaced queries answers places

  -- the answers of each file are legal; nothing ties the places of two files
  abbrev pub AllLegal : List (List (Query K)) → List (List A) → Type 0
  AllLegal [] [] = Unit {0}
  AllLegal (queries ∷ files) (answers ∷ more) = AreLegal queries answers × AllLegal files more
  AllLegal _ _ = ⊥
