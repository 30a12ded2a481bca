-- One more pass with which nothing was done.
use Rattle.std.proofs.Common.{◌≡◌, ◌∙◌, ℕ, ◌+◌, List, [], ◌∷◌, ◌++◌, length, ap, arith}
use Rattle.ck_snap.specs.Tokens.{Dictionary, PassView, fresh_pass, AreFreshSnapPasses}

pub fresh_snoc : (d : Dictionary) (n : ℕ) (ps : List PassView) (p : PassView) → AreFreshSnapPasses d n ps → p ≡ fresh_pass d (n + length ps) → AreFreshSnapPasses d n (ps ++ p ∷ [])
fresh_snoc d n [] p h is = (is ∙ ap (fresh_pass d) (omega arith), tt)
fresh_snoc d n (q ∷ ps) p h is = let at : n + length (q ∷ ps) ≡ n + 1 + length ps = omega arith in (h.0, fresh_snoc d (n + 1) ps p h.1 (is ∙ ap (fresh_pass d) at))
