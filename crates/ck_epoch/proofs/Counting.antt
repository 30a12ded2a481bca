-- The loads of a counter, in the account of a reader.
use Rattle.std.proofs.Common.{◌≡◌, ℕ, ◌+◌, List, [], ◌∷◌, ◌++◌, All, sym, ap, subst, arith}
use Rattle.std.proofs.lemmas.List.Elements.{All-push}
use Rattle.ck_run.specs.declared.account.Entry.{Entry}
use Rattle.ck_run.specs.declared.account.Step.TheVariants.{Load}
use Rattle.ck_run.specs.Run.{entry}
use Rattle.ck_run.specs.Range.{own}
use Rattle.ck_run.proofs.Own.{own_inside}

abbrev Loads : ℕ → Entry → Type 0
Loads first e = (found : ℕ) × (e.step ≡ Load first found)

pub loads_on : (first at n : ℕ) (es : List Entry) → at ≡ first → All (Loads first) (own first (first + 1) es) → All (Loads first) (own first (first + 1) (es ++ entry [] (Load at n) ∷ []))
loads_on first at n es is loads = subst (All (Loads first)) (sym (own_inside first (first + 1) es (entry [] (Load at n)) (let z = is in omega arith, let z = is in omega arith)))
    (All-push (Loads first) (own first (first + 1) es) (entry [] (Load at n)) loads (n, ap (λ (k : ℕ). Load k n) is))
