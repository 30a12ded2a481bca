-- The least place of one answer from the place before it on.
use Rattle.std.specs.Prelude.{◌≡◌, ℕ, ◌≤◌, List, length}
use Rattle.std.specs.declared.cmp.Ordering.{Ordering}
use Rattle.std.specs.declared.cmp.Ordering.TheVariants.{Equal}
use Rattle.ck_history.specs.declared.update.Update.{Update}
use Rattle.ck_history.specs.Map.{answer_after}
use Rattle.ck_history.specs.Legal.{Query, IsPlaced}
use Rattle.ck_report.specs.declared.asked.Asked.{Asked}

module _ {K : Type 0} (cmp : K → K → Ordering) (most : ℕ) (us : List (Update K)) where
  -- the answer is that of the query at this place, which is allowed
  pub record IsPlaceOf (q : Query K) (a : Asked K) (p : ℕ) : Type 0 where
    pub key : cmp q.key a.key ≡ Equal
    pub placed : IsPlaced (length us) (answer_after cmp most us) q a.found p

  -- the least place from `last` on
  pub record IsNextPlace (last : ℕ) (q : Query K) (a : Asked K) (p : ℕ) : Type 0 where
    pub from : last ≤ p
    pub here : IsPlaceOf q a p
    pub least : (o : ℕ) → last ≤ o → IsPlaceOf q a o → p ≤ o

  -- there is none
  abbrev pub NoNextPlace : ℕ → Query K → Asked K → Type 0
  NoNextPlace last q a = (o : ℕ) → last ≤ o → IsPlaceOf q a o → ⊥
