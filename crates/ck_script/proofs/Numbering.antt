-- Lines that are numbered one after the other.
use Rattle.std.specs.Prelude.{slice_get, Some}
use Rattle.std.proofs.Common.{◌≡◌, ℕ, zero, suc, ◌+◌, List, [], ◌∷◌, ◌++◌, take, ap, arith, ◌∙◌}
use Rattle.std.proofs.lemmas.Option.{slice_get_within}
use Rattle.ck_script.specs.declared.line.Numbered.{Numbered}
use Rattle.ck_script.specs.Script.{numbered}

-- one more
pub numbered_next : {L : Type 0} (said : List L) (line i : ℕ) (what : L) → slice_get said i ≡ Some what → numbered line (take (suc i) said) ≡ numbered line (take i said) ++ record { line = line + i; what = what } ∷ []
numbered_next [] line i what at = absurd (omega (arith, slice_get_within [] i what at))
numbered_next (x ∷ said) line zero what at =
    let same : x ≡ what = cc in
    let number : line ≡ line + 0 = omega arith in
    ap (λ w. record { line = line; what = w } ∷ []) same ∙ ap (λ n. record { line = n; what = what } ∷ []) number
numbered_next {L = L} (x ∷ said) line (suc i) what at =
    let number : line + 1 + i ≡ line + suc i = omega arith in
    ap (λ (lines : List (Numbered L)). record { line = line; what = x } ∷ lines) (rw number at (numbered_next said (line + 1) i what at))
