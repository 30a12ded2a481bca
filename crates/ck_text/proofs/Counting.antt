-- How many lines a text has.
use Rattle.std.proofs.Common.{◌≡◌, ℕ, suc, ◌+◌, ◌-◌, ◌<◌, true, false, Bool, List, [], ◌∷◌, length, get_or, cond, eqb, refl, ap, arith, ◌∙◌, sym}
use Rattle.std.specs.List.{onto_first, count_by}
use Rattle.std.proofs.lemmas.List.Splits.{slice_split-cons_yes, slice_split-cons_no}
use Rattle.std.proofs.lemmas.Bool.{ne_eqb}
use Rattle.std.proofs.lemmas.List.Sums.{sum_by-cons}
use Rattle.ck_text.specs.Lines.{parts, lines, last_if_any}
use Rattle.ck_text.proofs.Cutting.{parts_cons, parts_some}

-- the parts of a text that has a byte
pub record HasFirstPart (bs : List ℕ) : Type 0 where
  pub first : List ℕ
  pub more : List (List ℕ)
  pub is : parts 10 bs ≡ first ∷ more
  pub some : length more ≡ 0 → 0 < length first

has_first : (b : ℕ) (bs : List ℕ) (t : Bool) → eqb b 10 ≡ t → HasFirstPart (b ∷ bs)
has_first b bs true is = record {
  first = [];
  more = parts 10 bs;
  is = slice_split-cons_yes _ b bs is;
  some = λ none. absurd (omega (arith, parts_some 10 bs, none));
}
has_first b bs false is =
    let later = parts_cons 10 bs in record {
      first = b ∷ later.0;
      more = later.1;
      is = slice_split-cons_no _ b bs is ∙ ap (onto_first b) later.2;
      some = λ none. omega arith;
    }

-- 1 where a text has bytes after its last line feed
abbrev pub open_end : List ℕ → ℕ
open_end [] = 0
open_end (b ∷ []) = cond (eqb b 10) 0 1
open_end (b ∷ c ∷ bs) = open_end (c ∷ bs)

one_line : (xs : List ℕ) → 0 < length xs → length (last_if_any (xs ∷ [])) ≡ 1
one_line [] some = absurd (omega arith)
one_line (x ∷ xs) some = refl

longer_first : (b : ℕ) (first : List ℕ) (more : List (List ℕ)) → (length more ≡ 0 → 0 < length first) → length (last_if_any ((b ∷ first) ∷ more)) ≡ length (last_if_any (first ∷ more))
longer_first b [] [] some = absurd (omega (arith, some refl))
longer_first b (x ∷ first) [] some = one_line (b ∷ x ∷ first) (omega arith) ∙ sym (one_line (x ∷ first) (omega arith))
longer_first b first (y ∷ ys) some = refl

count_one : (b : ℕ) (t : Bool) → eqb b 10 ≡ t → length (lines (b ∷ [])) ≡ cond t 1 0 + cond t 0 1
count_one b true is = ap (λ ps. length (last_if_any ps)) (slice_split-cons_yes (λ c. eqb c 10) b [] is)
count_one b false is = ap (λ ps. length (last_if_any ps)) (slice_split-cons_no (λ c. eqb c 10) b [] is)

count_more : (b : ℕ) (bs : List ℕ) (t : Bool) → eqb b 10 ≡ t → HasFirstPart bs → length (lines (b ∷ bs)) ≡ cond t 1 0 + length (lines bs)
count_more b bs true is h =
    let e : parts 10 (b ∷ bs) ≡ [] ∷ (h.first ∷ h.more) = slice_split-cons_yes _ b bs is ∙ ap (λ ps. [] ∷ ps) h.is in
    ap (λ ps. length (last_if_any ps)) e ∙ (let s : suc (length (last_if_any (h.first ∷ h.more))) ≡ 1 + length (last_if_any (h.first ∷ h.more)) = omega arith in s ∙ ap (λ ps. 1 + length (last_if_any ps)) (sym h.is))
count_more b bs false is h =
    let e : parts 10 (b ∷ bs) ≡ (b ∷ h.first) ∷ h.more = slice_split-cons_no _ b bs is ∙ ap (onto_first b) h.is in
    ap (λ ps. length (last_if_any ps)) e ∙ (longer_first b h.first h.more h.some ∙ (ap (λ ps. length (last_if_any ps)) (sym h.is) ∙ (let s : length (lines bs) ≡ 0 + length (lines bs) = omega arith in s)))

step : (t n m k : ℕ) → n ≡ m + k → t + n ≡ t + m + k
step t n m k e = omega arith

pub count_lines_is : (bs : List ℕ) → length (lines bs) ≡ count_by (λ b. eqb b 10) bs + open_end bs
count_lines_is [] = refl
count_lines_is (b ∷ []) = count_one b (eqb b 10) refl ∙ omega arith
count_lines_is (b ∷ c ∷ bs) =
    count_more b (c ∷ bs) (eqb b 10) refl (has_first c bs (eqb c 10) refl) ∙ (step (cond (eqb b 10) 1 0) (length (lines (c ∷ bs))) (count_by (λ b. eqb b 10) (c ∷ bs)) (open_end (c ∷ bs)) (count_lines_is (c ∷ bs)) ∙ ap (λ n. n + open_end (c ∷ bs)) (sym (sum_by-cons (λ x. cond (eqb x 10) 1 0) b (c ∷ bs))))

-- by the last byte
pub open_closed : (bs : List ℕ) → 0 < length bs → get_or bs (length bs - 1) 0 ≡ 10 → open_end bs ≡ 0
open_closed [] some is = refl
open_closed (b ∷ []) some is = grind (arith, is)
open_closed (b ∷ c ∷ bs) some is = let k : suc (suc (length bs)) - 1 ≡ suc (length bs) = omega arith in let j : suc (length bs) - 1 ≡ length bs = omega arith in open_closed (c ∷ bs) (omega arith) (ap (λ i. get_or (c ∷ bs) i 0) j ∙ (ap (λ i. get_or (b ∷ c ∷ bs) i 0) (sym k) ∙ is))

pub open_open : (bs : List ℕ) → 0 < length bs → (get_or bs (length bs - 1) 0 ≡ 10 → ⊥) → open_end bs ≡ 1
open_open [] some is = absurd (omega arith)
open_open (b ∷ []) some is = ap (λ t. cond t 0 1) (ne_eqb b 10 is)
open_open (b ∷ c ∷ bs) some is = let k : suc (suc (length bs)) - 1 ≡ suc (length bs) = omega arith in let j : suc (length bs) - 1 ≡ length bs = omega arith in open_open (c ∷ bs) (omega arith) (λ e. is (ap (λ i. get_or (b ∷ c ∷ bs) i 0) k ∙ (ap (λ i. get_or (c ∷ bs) i 0) (sym j) ∙ e)))
