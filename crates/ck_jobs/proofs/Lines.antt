-- The updates of the first lines.
use Rattle.std.proofs.Common.{◌≡◌, ℕ, zero, suc, ◌+◌, List, [], ◌∷◌, ◌++◌, take, Some, add-one, sym, ap, ◌∙◌}
use Rattle.std.specs.Prelude.{slice_get}
use Rattle.ck_script.specs.declared.line.Numbered.{Numbered}
use Rattle.ck_script.specs.declared.line.UpLine.{UpLine}
use Rattle.ck_script.specs.declared.line.UpLine.TheVariants.{Call, Hold}
use Rattle.ck_script.specs.Script.{said_of, updates}

module _ {C : Type 0} where
  -- one line more
  pub updates-take : (ls : List (Numbered (UpLine C))) (i : ℕ) (w : UpLine C) → slice_get (said_of ls) i ≡ Some w
      → updates (said_of (take (i + 1) ls)) ≡ updates (said_of (take i ls)) ++ updates (w ∷ [])
  updates-take ls i w here = rw add-one (go ls i here)
    where
      go : (ls : List (Numbered (UpLine C))) (i : ℕ) → slice_get (said_of ls) i ≡ Some w → updates (said_of (take (suc i) ls)) ≡ updates (said_of (take i ls)) ++ updates (w ∷ [])
      go [] i here = cc
      go (x ∷ ls) zero here = let same : x.what ≡ w = cc in ap (λ (v : UpLine C). updates (v ∷ [])) same
      go (x ∷ ls) (suc i) here = by x.what (go ls i here)
        where
          by : (v : UpLine C) → updates (said_of (take (suc i) ls)) ≡ updates (said_of (take i ls)) ++ updates (w ∷ [])
              → updates (v ∷ said_of (take (suc i) ls)) ≡ updates (v ∷ said_of (take i ls)) ++ updates (w ∷ [])
          by (Call u) more = ap (λ (us : List C). u ∷ us) more
          by (Hold file count) more = more

  -- the updates before a line and its own are the first of those of all lines
  pub updates_up_to : (ls : List (Numbered (UpLine C))) (i : ℕ) (l : Numbered (UpLine C)) (c : C) → slice_get ls i ≡ Some l → l.what ≡ Call c
      → (p : ℕ) × (updates (said_of (take i ls)) ++ c ∷ [] ≡ take p (updates (said_of ls)))
  updates_up_to [] i l c here is = cc
  updates_up_to (x ∷ ls) zero l c here is =
      let same : x ≡ l = cc in
      (1, sym (ap (λ (w : UpLine C). take 1 (updates (w ∷ said_of ls))) (ap (λ (y : Numbered (UpLine C)). y.what) same ∙ is)))
  updates_up_to (x ∷ ls) (suc i) l c here is = by x.what (updates_up_to ls i l c here is)
    where
      by : (w : UpLine C) → (p : ℕ) × (updates (said_of (take i ls)) ++ c ∷ [] ≡ take p (updates (said_of ls)))
          → (p : ℕ) × (updates (w ∷ said_of (take i ls)) ++ c ∷ [] ≡ take p (updates (w ∷ said_of ls)))
      by (Call u) h = (suc h.0, ap (λ (us : List C). u ∷ us) h.1)
      by (Hold file count) h = h
