-- Laws of decimals. They stand here because an `impl` can cite a lemma of specs/ only, and keys that are numbers have such laws.
use Rattle.std.specs.Prelude.{◌≡◌, ℕ, ◌<◌, ◌≤◌, ◌^◌, List, [], ◌∷◌, decimal}
use Rattle.std.specs.Str.Parse.{AllDigits, digits_value}
use Rattle.std.proofs.Common.{sym, ◌∙◌, ap, arith, lit≤}
use Rattle.std.proofs.lemmas.Fmt.{decimal_is_IsNumeral_wide}
use Rattle.std.proofs.lemmas.Str.Parse.{digit_at}
use Rattle.ck_text.specs.Words.{IsWord}

-- digits make a word
digits_one_word : (ds : List ℕ) → AllDigits 10 ds → IsWord ds
digits_one_word [] all = tt
digits_one_word (d ∷ ds) all =
    let range = digit_at (d ∷ ds) 0 all (omega arith) in
    ((λ e. omega (arith, range.0), λ e. omega (arith, range.0)), digits_one_word ds all.1)

-- a decimal is one word
pub decimal_one_word : (n : ℕ) → n < 2 ^ 128 → IsWord (decimal n)
decimal_one_word n h =
    let le : 2 ^ 128 ≤ 10 ^ 64 = lit≤ tt in
    digits_one_word (decimal n) (decimal_is_IsNumeral_wide n (omega arith)).0.1

-- a decimal tells its number
pub decimal_tells : (m n : ℕ) → m < 2 ^ 128 → n < 2 ^ 128 → decimal m ≡ decimal n → m ≡ n
decimal_tells m n hm hn e =
    let le : 2 ^ 128 ≤ 10 ^ 64 = lit≤ tt in
    let read_m = decimal_is_IsNumeral_wide m (omega arith) in
    let read_n = decimal_is_IsNumeral_wide n (omega arith) in
    sym read_m.1 ∙ (ap (digits_value 10) e ∙ read_n.1)

-- the same of numbers of 64 bits
pub number_one_word : (n : ℕ) → n < 2 ^ 64 → IsWord (decimal n)
number_one_word n h = decimal_one_word n (omega arith)

pub one_number : (m n : ℕ) → m < 2 ^ 64 → n < 2 ^ 64 → decimal m ≡ decimal n → m ≡ n
one_number m n hm hn e = decimal_tells m n (omega arith) (omega arith) e
