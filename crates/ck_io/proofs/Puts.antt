-- Puts one after another.
use Rattle.std.proofs.Common.{◌≡◌, ℕ, ◌+◌, ◌≤◌, List, ◌++◌, take, drop, Option, Some, None, refl, ap, ◌∙◌, sym, append_assoc}
use Rattle.std.proofs.lemmas.List.{take-take}
use Rattle.std.proofs.Math.Seq.{take-add}
use Rattle.ck_io.specs.Sink.{appended}

-- bytes appended after bytes
pub appended-appended : (taken : Option (List ℕ)) (xs ys : List ℕ) → appended (appended taken xs) ys ≡ appended taken (xs ++ ys)
appended-appended None xs ys = refl
appended-appended (Some zs) xs ys = ap Some (append_assoc zs xs ys)

-- a put of a piece at d that took n bytes goes on from d to d + n
pub appended-take-more : (t u v : Option (List ℕ)) (bytes : List ℕ) (d size n : ℕ) → n ≤ size → u ≡ appended t (take d bytes)
    → v ≡ appended u (take n (take size (drop d bytes))) → v ≡ appended t (take (d + n) bytes)
appended-take-more t u v bytes d size n within before now =
    now ∙ ap (λ w. appended u w) (take-take n size (drop d bytes) within)
    ∙ ap (λ w. appended w (take n (drop d bytes))) before
    ∙ appended-appended t (take d bytes) (take n (drop d bytes))
    ∙ ap (λ w. appended t w) (sym (take-add d n bytes))
