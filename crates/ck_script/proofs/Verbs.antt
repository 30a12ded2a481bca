-- The words after a verb.
use Rattle.std.proofs.Common.{◌≡◌, ℕ, List, ◌∷◌, length, arith, Bor, Option, Some}
use Rattle.ck_text.specs.Lines.{parts}
use Rattle.ck_text.proofs.Cutting.{parts_some}
use Rattle.ck_script.specs.Reading.{words_after}

-- where more words follow the first, they are more than one
pub more_words : (rest : Option (Bor (List ℕ))) (text : Bor (List ℕ)) (word more : List ℕ) → rest ≡ Some text → parts 32 text.now ≡ word ∷ parts 32 more → length (words_after rest) ≡ 1 → ⊥
more_words rest text word more is e one =
    let all : length (parts 32 text.now) ≡ 1 = rw is at one in
    omega (arith, parts_some 32 more, rw e at all)
