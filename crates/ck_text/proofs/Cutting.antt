-- A text cut at a byte.
use Rattle.std.proofs.Common.{◌≡◌, ◌≢◌, ℕ, zero, suc, ◌+◌, ◌-◌, ◌<◌, ◌≤◌, true, false, List, [], ◌∷◌, ◌++◌, length, get_or, take, drop, cond, eqb, eq-eqb, refl, ap, arith, ◌∙◌, length-drop, add-one}
use Rattle.std.specs.List.{onto_first, AllByRecursion}
use Rattle.std.proofs.lemmas.Bool.{false_from_ne_true, ne_eqb}
use Rattle.std.proofs.lemmas.List.{take_all}
use Rattle.std.proofs.lemmas.List.Splits.{slice_split-cons_yes, slice_split-cons_no, length-slice_split}
use Rattle.memchr.specs.Find.{Passes, is_byte, NoneBefore, Nowhere}
use Rattle.ck_text.specs.Lines.{parts, lines, last_if_any}

-- no byte is equal to c
abbrev pub Lacks : ℕ → List ℕ → Type 0
Lacks c bytes = AllByRecursion (λ b. b ≢ c) bytes

pub All-append : {X : Type 0} (P : X → Type 0) (xs ys : List X) → AllByRecursion P xs → AllByRecursion P ys → AllByRecursion P (xs ++ ys)
All-append P [] ys h k = k
All-append P (x ∷ xs) ys h k = (h.0, All-append P xs ys h.1 k)

-- a part, the byte at which it is cut, and the rest
pub parts_first : (c : ℕ) (w rest : List ℕ) → Lacks c w → parts c (w ++ c ∷ rest) ≡ w ∷ parts c rest
parts_first c [] rest none = slice_split-cons_yes _ c rest (eq-eqb c c refl)
parts_first c (b ∷ w) rest none =
    slice_split-cons_no _ b (w ++ c ∷ rest) (ne_eqb b c none.0) ∙ ap (onto_first b) (parts_first c w rest none.1)

-- a part alone
pub parts_alone : (c : ℕ) (w : List ℕ) → Lacks c w → parts c w ≡ w ∷ []
parts_alone c [] none = refl
parts_alone c (b ∷ w) none = slice_split-cons_no _ b w (ne_eqb b c none.0) ∙ ap (onto_first b) (parts_alone c w none.1)

-- the byte at i is the first equal to c
pub parts_found : (c : ℕ) (bs : List ℕ) (i : ℕ) → i < length bs → ((k : ℕ) → k < i → eqb (get_or bs k 0) c ≡ false) → eqb (get_or bs i 0) c ≡ true → parts c bs ≡ take i bs ∷ parts c (drop (suc i) bs)
parts_found c [] i lt none here = absurd (omega arith)
parts_found c (b ∷ bs) zero lt none here = slice_split-cons_yes _ b bs here
parts_found c (b ∷ bs) (suc i) lt none here =
    let later = parts_found c bs i (omega arith) (λ k below. none (suc k) (omega arith)) here in
    slice_split-cons_no _ b bs (none zero (omega arith)) ∙ ap (onto_first b) later

-- no byte is equal to c
pub parts_none : (c : ℕ) (bs : List ℕ) → ((k : ℕ) → k < length bs → eqb (get_or bs k 0) c ≡ false) → parts c bs ≡ bs ∷ []
parts_none c [] none = refl
parts_none c (b ∷ bs) none = slice_split-cons_no _ b bs (none zero (omega arith)) ∙ ap (onto_first b) (parts_none c bs (λ k below. none (suc k) (omega arith)))

-- the places before the one that was found don't pass
pub none_before : (c : ℕ) (bs : List ℕ) (j : ℕ) → Nowhere (Passes (is_byte c) bs) 0 j → (k : ℕ) → k < j → eqb (get_or bs k 0) c ≡ false
none_before c bs j nowhere k below = false_from_ne_true _ (nowhere k (omega arith) below)

-- there is a part
pub parts_cons : (c : ℕ) (bs : List ℕ) → (first : List ℕ) × (more : List (List ℕ)) × (parts c bs ≡ first ∷ more)
parts_cons c [] = ([], [], refl)
parts_cons c (b ∷ bs) =
    let later = parts_cons c bs in
    elim (eqb b c) as (λ t. (first : List ℕ) × (more : List (List ℕ)) × (cond t ([] ∷ parts c bs) (onto_first b (parts c bs)) ≡ first ∷ more)) [
      | true ↦ ([], parts c bs, refl)
      | false ↦ (b ∷ later.0, later.1, ap (onto_first b) later.2)
    ]

-- a line, a line feed and the rest
pub lines_more : (bs line rest : List ℕ) → parts 10 bs ≡ line ∷ parts 10 rest → lines bs ≡ line ∷ lines rest
lines_more bs line rest e =
    let p = parts_cons 10 rest in
    rw (e, p.2) refl

-- a line alone
pub lines_one : (bs : List ℕ) → 0 < length bs → parts 10 bs ≡ bs ∷ [] → lines bs ≡ bs ∷ lines []
lines_one [] lt e = absurd (omega arith)
lines_one (b ∷ bs) lt e = ap last_if_any e

-- what `cut` answers where the byte stands at i
pub parts_at : (c : ℕ) (bs : List ℕ) (i : ℕ) → NoneBefore (Passes (is_byte c) bs) 0 (length bs) i → Passes (is_byte c) bs i → parts c bs ≡ take i bs ∷ parts c (take (length bs - (i + 1)) (drop (i + 1) bs))
parts_at c bs i first here =
    let rest : length (drop (i + 1) bs) ≤ length bs - (i + 1) = omega (arith, length-drop (i + 1) bs) in
    rw (take_all (length bs - (i + 1)) (drop (i + 1) bs) rest, add-one) (parts_found c bs i first.high (none_before c bs i first.before) here)

-- there is always a part
pub parts_some : (c : ℕ) (bs : List ℕ) → 0 < length (parts c bs)
parts_some c bs = omega (arith, length-slice_split (λ b. eqb b c) bs)

-- a line, its line feed and the rest, where the line has no line feed
pub line_first : (line rest : List ℕ) → Lacks 10 line → lines (line ++ 10 ∷ rest) ≡ line ∷ lines rest
line_first line rest none = lines_more (line ++ 10 ∷ rest) line rest (parts_first 10 line rest none)
