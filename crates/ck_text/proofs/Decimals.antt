-- Numbers and their one spelling.
use Rattle.std.proofs.Common.{◌≡◌, ◌≢◌, ℕ, zero, suc, ◌+◌, ◌*◌, ◌/◌, ◌%◌, ◌^◌, ◌<◌, ◌≤◌, List, [], ◌∷◌, ◌++◌, length, get_or, take, length-take, ap, arith, ◌∙◌, sym, lit≤, decimal, inl, inr, add-one, lit<}
use Rattle.std.specs.Char.{digit_value}
use Rattle.std.specs.Str.Parse.{AllDigits, IsNumeral, digits_value}
use Rattle.std.proofs.lemmas.Bool.{cases_eq}
use Rattle.std.proofs.lemmas.Bool.Decides.{nat_tests}
use Rattle.std.proofs.lemmas.Fmt.{decimal_is_IsNumeral_wide, decimal_by_steps_wide, decimal_step_wide, decimal_digit}
use Rattle.std.proofs.lemmas.Int.Digits.{digits_value_more}
use Rattle.std.proofs.lemmas.List.{get_or_append_left, length_push, take_all}
use Rattle.std.proofs.lemmas.Nat.{div-mul-add, mod-mul-add}
use Rattle.std.proofs.lemmas.Str.Parse.{digit_at, digits_value-take-le}
use Rattle.std.proofs.Math.Seq.{take-suc}

-- numbers of 128 bits are within what the lemmas on decimals cover
pub wide : (n : ℕ) → n < 2 ^ 128 → n < 10 ^ 64
wide n h = let le : 2 ^ 128 ≤ 10 ^ 64 = lit≤ tt in omega arith

-- a digit's value
digit_is : (b : ℕ) → 48 ≤ b → b ≤ 57 → 48 + digit_value b ≡ b
digit_is b low high = grind (arith, nat_tests)

-- there is a digit, and the first is 0 only for the number 0
abbrev HasFirst : ℕ → List ℕ → Type 0
HasFirst n ds = (0 < length ds) × (0 < n → 48 < get_or ds 0 0)

-- a decimal has a digit, and the first is 0 only where the number is
first_digit : (n : ℕ) → n < 10 ^ 64 → HasFirst n (decimal n)
first_digit n h = decimal_by_steps_wide HasFirst one more n h
  where
    one : (n : ℕ) → n < 10 → HasFirst n ((48 + n) ∷ [])
    one n lt = (omega arith, λ pos. omega arith)

    more : (n : ℕ) (ds : List ℕ) → 10 ≤ n → HasFirst (n / 10) ds → HasFirst n (ds ++ ((48 + n % 10) ∷ []))
    more n ds le p =
        let digit : 0 < n / 10 = omega arith in (
          omega (arith, length_push ds (48 + n % 10)),
          λ pos. rw (get_or_append_left ds ((48 + n % 10) ∷ []) 0 0 p.0) (p.1 digit),
        )

-- digits that do not begin with 0 are the decimal of their value, and so is each front of them
fronts : (ds : List ℕ) → AllDigits 10 ds → digits_value 10 ds < 10 ^ 64 → get_or ds 0 0 ≢ 48 → (i : ℕ) → i < length ds → (0 < digits_value 10 (take (suc i) ds)) × (decimal (digits_value 10 (take (suc i) ds)) ≡ take (suc i) ds)
fronts [] all small lead i lt = absurd (omega arith)
fronts (b ∷ bs) all small lead zero lt =
    let range = digit_at (b ∷ bs) 0 all lt in
    let is = digit_is b range.0 range.1 in
    let value : digits_value 10 (b ∷ []) ≡ digit_value b = omega arith in
    let pos : 0 < digit_value b = grind (arith, lead) in
    (rw value pos, ap decimal value ∙ (decimal_digit (digit_value b) (omega arith) ∙ ap (λ x. x ∷ []) is))
fronts (b ∷ bs) all small lead (suc i) lt =
    let ds = b ∷ bs in
    let before = fronts ds all small lead i (omega arith) in
    let v = digits_value 10 (take (suc i) ds) in
    let d = digit_value (get_or ds (suc i) 0) in
    let range = digit_at ds (suc i) all lt in
    let is = digit_is (get_or ds (suc i) 0) range.0 range.1 in
    let value : digits_value 10 (take (suc (suc i)) ds) ≡ v * 10 + d = rw add-one at (digits_value_more 10 ds (suc i) lt) in
    let below : v * 10 + d < 10 ^ 64 = omega (arith, digits_value-take-le 10 ds (suc (suc i)) (omega arith)) in
    let digit : d < 10 = omega arith in
    let step = decimal_step_wide (v * 10 + d) (omega (arith, before.0)) below in
    let front : decimal (v * 10 + d) ≡ take (suc i) ds ++ get_or ds (suc i) 0 ∷ [] = rw (div-mul-add v 10 d digit, mod-mul-add v 10 d digit, before.1, is) at step in
    (rw value (omega (arith, before.0)), ap decimal value ∙ (front ∙ sym (take-suc ds (suc i) 0 lt)))

-- digits with no leading 0, or just `0`, are the decimal of their value
pub decimal-digits_value_wide : (ds : List ℕ) → AllDigits 10 ds → 0 < length ds → (get_or ds 0 0 ≡ 48 → length ds ≡ 1) → digits_value 10 ds < 10 ^ 64 → decimal (digits_value 10 ds) ≡ ds
decimal-digits_value_wide [] all some lead small = absurd (omega arith)
decimal-digits_value_wide (b ∷ bs) all some lead small = elim (cases_eq b 48) [
  | inl is ↦ zero_alone bs all is (omega (arith, lead is))
  | inr other ↦ let whole = fronts (b ∷ bs) all small other (length bs) (omega arith) in rw (take_all (suc (length bs)) (b ∷ bs) (omega arith)) at whole.1
]
  where
    zero_alone : (cs : List ℕ) → AllDigits 10 (b ∷ cs) → b ≡ 48 → length cs ≡ 0 → decimal (digits_value 10 (b ∷ cs)) ≡ b ∷ cs
    zero_alone [] all is none = rw is (decimal_digit 0 (lit< tt))
    zero_alone (c ∷ cs) all is none = absurd (omega arith)

-- why a word that a number spells is read

module _ (n most : ℕ) (w : List ℕ) (le : n ≤ most) (top : most < 2 ^ 128) (same : decimal n ≡ w) where
  numeral : IsNumeral 10 w × (digits_value 10 w ≡ n)
  numeral = rw same at (decimal_is_IsNumeral_wide n (wide n (omega arith)))

  pub not_empty : length w ≡ 0 → ⊥
  not_empty none = omega (arith, numeral.0.0)

  pub not_led_by_zero : get_or w 0 0 ≡ 48 → 1 < length w → ⊥
  not_led_by_zero zero_first longer = elim (cases_eq n 0) [
    | inl is ↦ omega (arith, ap length (sym same ∙ (ap decimal is ∙ decimal_digit 0 (lit< tt))))
    | inr pos ↦ let lead : 48 < get_or (decimal n) 0 0 = (first_digit n (wide n (omega arith))).1 (omega (arith, pos)) in omega (arith, rw same at lead)
  ]

  pub no_other_byte : (i : ℕ) → i < length w → 10 ≤ digit_value (get_or w i 0) → ⊥
  no_other_byte i lt high =
      let range = digit_at w i numeral.0.1 lt in
      omega (arith, digit_is (get_or w i 0) range.0 range.1)

  pub not_above : (i : ℕ) → i < length w → most < digits_value 10 (take i w) * 10 + digit_value (get_or w i 0) → ⊥
  not_above i lt above =
      omega (arith, digits_value_more 10 w i lt, digits_value-take-le 10 w (i + 1) (lit≤ tt), numeral.1)

-- a word that was read to its end is the decimal of its value
pub read_whole : (w : List ℕ) (n most : ℕ) → AllDigits 10 (take (length w) w) → n ≡ digits_value 10 (take (length w) w) → n ≤ most → most < 2 ^ 128 → 0 < length w → (get_or w 0 0 ≡ 48 → length w ≤ 1) → (n ≤ most) × (w ≡ decimal n)
read_whole w n most digits value le top some lead =
    let all = take_all (length w) w (omega arith) in
    let is : n ≡ digits_value 10 w = value ∙ ap (digits_value 10) all in
    let canonical = decimal-digits_value_wide w (rw all at digits) some (λ e. omega (arith, lead e)) (wide _ (omega arith)) in
    (le, sym (ap decimal is ∙ canonical))

-- digits that were read are the one spelling of their number
pub prefix_spelt : (text : List ℕ) (i n : ℕ) → i < length text → AllDigits 10 (take i text) → n ≡ digits_value 10 (take i text) → n < 2 ^ 64 → 0 < i → (get_or text 0 0 ≡ 48 → i ≤ 1) → take i text ≡ decimal n
prefix_spelt [] i n lt digits value small some lead = absurd (omega arith)
prefix_spelt (b ∷ text) zero n lt digits value small some lead = absurd (omega arith)
prefix_spelt (b ∷ text) (suc i) n lt digits value small some lead =
    let len : length (take (suc i) (b ∷ text)) ≡ suc i = omega (arith, length-take (suc i) (b ∷ text)) in
    let le : 2 ^ 64 ≤ 10 ^ 64 = lit≤ tt in
    let small_value : digits_value 10 (take (suc i) (b ∷ text)) < 10 ^ 64 = omega arith in
    let canonical = decimal-digits_value_wide (take (suc i) (b ∷ text)) digits (omega arith) (λ e. omega (arith, lead e, len)) small_value in
    sym (ap decimal value ∙ canonical)
