-- Lines that are beyond: `hold` lines for one query file after another, and files in which no task waits.
use Rattle.std.proofs.Common.{◌≡◌, ℕ, zero, suc, ◌+◌, ◌==◌, nat_lt, nat_le, inl, inr, Bool, true, false, ◌&&◌, ◌||◌, take, List, [], ◌∷◌, length, map, refl, ap, arith, ◌∙◌, sym, Option, Some, None}
use Rattle.std.specs.List.{slice_get, find, list_any, position_or_len}
use Rattle.std.specs.Option.{option_map, option_map_or, option_or}
use Rattle.std.proofs.lemmas.Bool.{cond-false, ne_eqb}
use Rattle.std.proofs.lemmas.List.Folds.{find_at}
use Rattle.std.proofs.lemmas.Option.{slice_get_past}
use Rattle.ck_script.specs.declared.line.Numbered.{Numbered}
use Rattle.ck_script.specs.declared.line.UpLine.{UpLine}
use Rattle.ck_script.specs.declared.line.UpLine.TheVariants.{Call, Hold}
use Rattle.ck_script.specs.declared.line.AskLine.{AskLine}
use Rattle.ck_script.specs.declared.line.AskLine.TheVariants.{Ask, Wait}
use Rattle.ck_script.specs.Script.{said_of, updates, queries}
use Rattle.ck_script.specs.Checks.{query_file, is_hold_beyond, is_wait_beyond, first_wait_beyond, range_fault}
use Rattle.ck_script.specs.Fronts.{is_hold, is_wait, any_hold, any_wait}
use Rattle.ck_script.specs.Shorts.{names_no_file, is_short}
use Rattle.ck_script.proofs.Fronts.{lt_true, lt_false}
use Rattle.ck_script.proofs.Circles.{position_same, position_either, within_or_above, no_file, or_false, one_more, le_false, le_true, either_false}

-- a line that is beyond for want of its file, or for one of the first i query files
abbrev pub is_beyond_within : {C A : Type 0} → ℕ → List (List (AskLine A)) → UpLine C → Bool
is_beyond_within i files (Call u) = false
is_beyond_within i files (Hold file count) = ((file == 0) || nat_lt (length files) file) || (nat_le file i && option_map_or (λ asks. nat_lt (length (queries 0 asks)) count) (query_file file files) true)

within_none : {C A : Type 0} (files : List (List (AskLine A))) (what : UpLine C) → is_beyond_within 0 files what ≡ names_no_file (length files) what
within_none files (Call u) = refl
within_none files (Hold zero count) = refl
within_none files (Hold (suc f) count) =
    ap (λ t. ((suc f == 0) || nat_lt (length files) (suc f)) || (t && option_map_or (λ asks. nat_lt (length (queries 0 asks)) count) (query_file (suc f) files) true)) (le_false (suc f) 0 (omega arith))
    ∙ or_false ((suc f == 0) || nat_lt (length files) (suc f))

one_of_more : (none x y : Bool) → (none || (x || y)) ≡ ((none || x) || y)
one_of_more true x y = refl
one_of_more false x y = refl

within_more : {C A : Type 0} (files : List (List (AskLine A))) (i : ℕ) (asks : List (AskLine A)) → query_file (suc i) files ≡ Some asks → (what : UpLine C) → is_beyond_within (i + 1) files what ≡ (is_beyond_within i files what || is_short (suc i) (length (queries 0 asks)) what)
within_more files i asks here (Call u) = refl
within_more {C} {A} files i asks here (Hold file count) =
    let short : List (AskLine A) → Bool = λ asks. nat_lt (length (queries 0 asks)) count in
    let none : Bool = (file == 0) || nat_lt (length files) file in
    let more = one_more file i (option_map_or short (query_file file files) true) (short asks) (λ same. ap (λ o. option_map_or short o true) (ap (λ f. query_file f files) same ∙ here)) in
    ap (λ t. none || t) more ∙ one_of_more none (nat_le file i && option_map_or short (query_file file files) true) ((file == suc i) && short asks)

or_true : (b : Bool) → (b || true) ≡ true
or_true true = refl
or_true false = refl

within_all : {C A : Type 0} (files : List (List (AskLine A))) (what : UpLine C) → is_beyond_within (length files) files what ≡ is_hold_beyond files what
within_all files (Call u) = refl
within_all files (Hold zero count) = refl
within_all {C} {A} files (Hold (suc j) count) = elim (within_or_above (suc j) (length files)) [
  | inl within ↦
      let no : suc j == 0 ≡ false = ne_eqb (suc j) 0 (λ (e : suc j ≡ 0). omega arith) in
      ap (λ t. (t || nat_lt (length files) (suc j)) || (nat_le (suc j) (length files) && short)) no
      ∙ (ap (λ t. t || (nat_le (suc j) (length files) && short)) (lt_false (length files) (suc j) within) ∙ ap (λ t. t && short) (le_true (suc j) (length files) within))
  | inr above ↦
      let none = ap (λ o. option_map_or (λ asks. nat_lt (length (queries 0 asks)) count) o true) (no_file files (suc j) above) in
      ap (λ t. ((suc j == 0) || t) || (nat_le (suc j) (length files) && short)) (lt_true (length files) (suc j) above)
      ∙ (ap (λ t. t || (nat_le (suc j) (length files) && short)) (or_true (suc j == 0)) ∙ sym none)
]
  where
    short : Bool
    short = option_map_or (λ asks. nat_lt (length (queries 0 asks)) count) (query_file (suc j) files) true

-- lines that name no file
pub within_first : {C A : Type 0} (files : List (List (AskLine A))) (n end : ℕ) (ups : List (Numbered (UpLine C))) → n ≡ length files → end ≡ position_or_len (λ x. names_no_file n x.what) ups → end ≡ position_or_len (λ x. is_beyond_within 0 files x.what) ups
within_first {C} {A} files n end ups same is =
    let no : Numbered (UpLine C) → Bool = λ x. names_no_file (length files) x.what in
    is ∙ (ap (λ k. position_or_len (λ (x : Numbered (UpLine C)). names_no_file k x.what) ups) same ∙ sym (position_same (λ x. is_beyond_within 0 files x.what) no (λ x. within_none files x.what) ups))

-- one more file
pub within_next : {C A : Type 0} (files : List (List (AskLine A))) (i n end : ℕ) (asks : List (AskLine A)) (ups : List (Numbered (UpLine C))) → query_file (suc i) files ≡ Some asks → n ≡ length (queries 0 asks) → end ≡ position_or_len (λ x. is_beyond_within i files x.what) ups → position_or_len (λ x. is_short (i + 1) n x.what) (take end ups) ≡ position_or_len (λ x. is_beyond_within (i + 1) files x.what) ups
within_next {C} {A} files i n end asks ups here count is =
    let number : i + 1 ≡ suc i = omega arith in
    let short : Numbered (UpLine C) → Bool = λ x. is_short (suc i) (length (queries 0 asks)) x.what in
    ap (λ f. position_or_len (λ (x : Numbered (UpLine C)). is_short f n x.what) (take end ups)) number
    ∙ (ap (λ k. position_or_len (λ (x : Numbered (UpLine C)). is_short (suc i) k x.what) (take end ups)) count
    ∙ (ap (λ k. position_or_len short (take k ups)) is ∙ position_either (λ x. is_beyond_within i files x.what) short (λ x. is_beyond_within (i + 1) files x.what) (λ x. within_more files i asks here x.what) ups))

-- the first line that is beyond, by its place
beyond_by_place : {C A : Type 0} (files : List (List (AskLine A))) (i end : ℕ) (ups : List (Numbered (UpLine C))) → i ≡ length files → end ≡ position_or_len (λ x. is_beyond_within i files x.what) ups → find (λ l. is_hold_beyond files l.what) ups ≡ slice_get ups end
beyond_by_place {C} {A} files i end ups all is =
    let beyond : Numbered (UpLine C) → Bool = λ x. is_hold_beyond files x.what in
    let place = is ∙ (ap (λ k. position_or_len (λ (x : Numbered (UpLine C)). is_beyond_within k files x.what) ups) all ∙ position_same (λ x. is_beyond_within (length files) files x.what) beyond (λ x. within_all files x.what) ups) in
    find_at beyond ups ∙ ap (slice_get ups) (sym place)

pub beyond_none : {C A : Type 0} (files : List (List (AskLine A))) (i end : ℕ) (ups : List (Numbered (UpLine C))) → i ≡ length files → end ≡ position_or_len (λ x. is_beyond_within i files x.what) ups → end ≡ length ups → option_map (λ l. l.line) (find (λ l. is_hold_beyond files l.what) ups) ≡ None
beyond_none files i end ups all is whole =
    ap (option_map (λ l. l.line)) (beyond_by_place files i end ups all is ∙ slice_get_past ups end (omega (arith, whole)))

pub beyond_some : {C A : Type 0} (files : List (List (AskLine A))) (i end : ℕ) (ups : List (Numbered (UpLine C))) (line : Numbered (UpLine C)) → i ≡ length files → end ≡ position_or_len (λ x. is_beyond_within i files x.what) ups → slice_get ups end ≡ Some line → Some line.line ≡ option_map (λ l. l.line) (find (λ l. is_hold_beyond files l.what) ups)
beyond_some files i end ups line all is here = sym (ap (option_map (λ l. l.line)) (beyond_by_place files i end ups all is ∙ here))

-- a file with no `hold` line

not_beyond : {C A : Type 0} (files : List (List (AskLine A))) (what : UpLine C) → is_hold what ≡ false → is_hold_beyond files what ≡ false
not_beyond files (Call u) none = refl
not_beyond files (Hold file count) none = absurd (cc)

none_beyond : {C A : Type 0} (files : List (List (AskLine A))) (ups : List (Numbered (UpLine C))) → list_any (λ l. is_hold l.what) ups ≡ false → find (λ l. is_hold_beyond files l.what) ups ≡ None
none_beyond files [] none = refl
none_beyond files (l ∷ more) none =
    let both = either_false (is_hold l.what) (list_any (λ l. is_hold l.what) more) none in
    cond-false (is_hold_beyond files l.what) _ _ (not_beyond files l.what both.0) ∙ none_beyond files more both.1

pub no_hold_none_beyond : {C A : Type 0} (files : List (List (AskLine A))) (ups : List (Numbered (UpLine C))) → list_any (λ l. is_hold l.what) ups ≡ false → option_map (λ l. l.line) (find (λ l. is_hold_beyond files l.what) ups) ≡ None
no_hold_none_beyond files ups none = ap (option_map (λ l. l.line)) (none_beyond files ups none)

-- files with no `wait` line

not_above : {A : Type 0} (all : ℕ) (what : AskLine A) → is_wait what ≡ false → is_wait_beyond all what ≡ false
not_above all (Ask key) none = refl
not_above all (Wait count) none = absurd (cc)

none_above : {A : Type 0} (all : ℕ) (lines : List (Numbered (AskLine A))) → list_any (λ l. is_wait l.what) lines ≡ false → find (λ l. is_wait_beyond all l.what) lines ≡ None
none_above all [] none = refl
none_above all (l ∷ more) none =
    let both = either_false (is_wait l.what) (list_any (λ l. is_wait l.what) more) none in
    cond-false (is_wait_beyond all l.what) _ _ (not_above all l.what both.0) ∙ none_above all more both.1

no_wait_above : {A : Type 0} (all f : ℕ) (files : List (List (Numbered (AskLine A)))) → any_wait files ≡ false → first_wait_beyond all f files ≡ None
no_wait_above all f [] none = refl
no_wait_above {A} all f (file ∷ more) none =
    let both = either_false (list_any (λ l. is_wait l.what) file) (any_wait more) none in
    ap (λ (o : Option (Numbered (AskLine A))). option_or (option_map (λ l. record { file = f; line = l.line }) o) (first_wait_beyond all (f + 1) more)) (none_above all file both.0) ∙ no_wait_above all (f + 1) more both.1

-- where no task waits, nothing is beyond
pub in_range_without_waits : {C A : Type 0} (ups : List (Numbered (UpLine C))) (asks : List (List (Numbered (AskLine A)))) → any_hold ups ≡ false → any_wait asks ≡ false → range_fault ups asks ≡ None
in_range_without_waits {C} ups asks no_hold no_wait =
    ap (λ (o : Option (Numbered (UpLine C))). option_or (option_map (λ l. record { file = 0; line = l.line }) o) (first_wait_beyond (length (updates (said_of ups))) 1 asks)) (none_beyond (map said_of asks) ups no_hold) ∙ no_wait_above (length (updates (said_of ups))) 1 asks no_wait
