-- Lines that would wait for each other.
use Rattle.std.proofs.Common.{◌≡◌, ℕ, zero, suc, ◌+◌, ◌<◌, ◌≤◌, ◌==◌, nat_le, ◌⊎◌, inl, inr, Bool, true, false, not, ◌&&◌, ◌||◌, cond, drop, take, List, [], ◌∷◌, length, map, refl, ap, arith, ◌∙◌, sym, Some, None}
use Rattle.std.specs.List.{slice_get, find, list_any, position_or_len}
use Rattle.std.specs.Option.{option_map, option_map_or}
use Rattle.std.proofs.lemmas.Bool.{cases_eq, cond-true, cond-false}
use Rattle.std.proofs.lemmas.Bool.Decides.{nat_tests}
use Rattle.std.proofs.lemmas.List.Folds.{find_at}
use Rattle.std.proofs.lemmas.Option.{slice_get_past}
use Rattle.std.proofs.lemmas.List.{length-map}
use Rattle.ck_script.specs.declared.line.Numbered.{Numbered}
use Rattle.ck_script.specs.declared.line.UpLine.{UpLine}
use Rattle.ck_script.specs.declared.line.UpLine.TheVariants.{Call, Hold}
use Rattle.ck_script.specs.declared.line.AskLine.{AskLine}
use Rattle.ck_script.specs.declared.check.RangeFault.{RangeFault}
use Rattle.ck_script.specs.Script.{said_of, updates}
use Rattle.ck_script.specs.Checks.{query_file, placed, waits_for_more, is_circle, circle_fault}
use Rattle.ck_script.specs.Fronts.{is_hold, is_circle_with}
use Rattle.ck_script.proofs.Standing.{drop_there, line_there}

-- the first place that passes a test

pub position_past : {X : Type 0} (p : X → Bool) (x : X) (xs : List X) → p x ≡ false → position_or_len p (x ∷ xs) ≡ 1 + position_or_len p xs
position_past p x xs fails = cond-true (not (p x)) _ _ (ap not fails)

pub position_here : {X : Type 0} (p : X → Bool) (x : X) (xs : List X) → p x ≡ true → position_or_len p (x ∷ xs) ≡ 0
position_here p x xs passes = cond-false (not (p x)) _ _ (ap not passes)

pub position_same : {X : Type 0} (p q : X → Bool) → ((x : X) → p x ≡ q x) → (xs : List X) → position_or_len p xs ≡ position_or_len q xs
position_same p q same [] = refl
position_same p q same (x ∷ xs) =
    ap (λ b. cond (not b) (1 + position_or_len p xs) 0) (same x) ∙ ap (λ k. cond (not (q x)) (1 + k) 0) (position_same p q same xs)

-- the first that passes one of two tests: the first of the other before the first of the one
pub position_either : {X : Type 0} (p q r : X → Bool) → ((x : X) → r x ≡ (p x || q x)) → (xs : List X) → position_or_len q (take (position_or_len p xs) xs) ≡ position_or_len r xs
position_either p q r either [] = refl
position_either {X} p q r either (x ∷ xs) = by_test (p x) refl (position_either p q r either xs)
  where
    by_test : (t : Bool) → p x ≡ t → position_or_len q (take (position_or_len p xs) xs) ≡ position_or_len r xs → position_or_len q (take (position_or_len p (x ∷ xs)) (x ∷ xs)) ≡ position_or_len r (x ∷ xs)
    by_test true passes later =
        ap (λ k. position_or_len q (take k (x ∷ xs))) (position_here p x xs passes)
        ∙ sym (position_here r x xs (either x ∙ ap (λ b. b || q x) passes))
    by_test false fails later =
        let place : 1 + position_or_len p xs ≡ suc (position_or_len p xs) = omega arith in
        ap (λ k. position_or_len q (take k (x ∷ xs))) (position_past p x xs fails ∙ place)
        ∙ (ap (λ k. cond (not (q x)) (1 + k) 0) later ∙ ap (λ b. cond (not b) (1 + position_or_len r xs) 0) (sym (either x ∙ ap (λ b. b || q x) fails)))

-- lines with the number of updates before each

placed_take : {C : Type 0} (m n : ℕ) (ups : List (Numbered (UpLine C))) → placed m (take n ups) ≡ take n (placed m ups)
placed_take m zero ups = refl
placed_take m (suc n) [] = refl
placed_take m (suc n) (l ∷ more) = ap (λ ls. (m, l) ∷ ls) (placed_take (m + length (updates (l.what ∷ []))) n more)

placed_length : {C : Type 0} (m : ℕ) (ups : List (Numbered (UpLine C))) → length (placed m ups) ≡ length ups
placed_length m [] = refl
placed_length m (l ∷ more) = ap suc (placed_length (m + length (updates (l.what ∷ []))) more)

-- a line's fault
abbrev fault_at : {C : Type 0} → ℕ × Numbered (UpLine C) → RangeFault
fault_at l = record { file = 0; line = l.1.line }

placed_at : {C : Type 0} (m : ℕ) (ups : List (Numbered (UpLine C))) (i : ℕ) (line : Numbered (UpLine C)) → slice_get ups i ≡ Some line → option_map fault_at (slice_get (placed m ups) i) ≡ Some (record { file = 0; line = line.line })
placed_at m [] i line is = absurd (cc)
placed_at m (l ∷ more) zero line is = ap (option_map (λ x. record { file = 0; line = x.line })) is
placed_at m (l ∷ more) (suc i) line is = placed_at (m + length (updates (l.what ∷ []))) more i line is

-- an element that passes no test
pub position_next : {L : Type 0} (p : L → Bool) (lines : List (Numbered L)) (i : ℕ) (what : L) → slice_get (said_of lines) i ≡ Some what → p what ≡ false → position_or_len (λ l. p l.what) (drop i lines) ≡ 1 + position_or_len (λ l. p l.what) (drop (i + 1) lines)
position_next p lines i what is fails =
    let there = line_there lines i what is in
    ap (position_or_len (λ l. p l.what)) (drop_there lines i there.0 there.1) ∙ position_past (λ l. p l.what) there.0 (drop (i + 1) lines) (ap p there.2 ∙ fails)

-- .. that passes it
pub position_there : {L : Type 0} (p : L → Bool) (lines : List (Numbered L)) (i : ℕ) (what : L) → slice_get (said_of lines) i ≡ Some what → p what ≡ true → position_or_len (λ l. p l.what) (drop i lines) ≡ 0
position_there p lines i what is passes =
    let there = line_there lines i what is in
    ap (position_or_len (λ l. p l.what)) (drop_there lines i there.0 there.1) ∙ position_here (λ l. p l.what) there.0 (drop (i + 1) lines) (ap p there.2 ∙ passes)

-- a line that passes no test, where so many updates stand before
pub placed_next : {C : Type 0} (p : ℕ → UpLine C → Bool) (m i k : ℕ) (ups : List (Numbered (UpLine C))) (what : UpLine C) → slice_get (said_of ups) i ≡ Some what → p m what ≡ false → k ≡ length (updates (what ∷ [])) → position_or_len (λ l. p l.0 l.1.what) (placed m (drop i ups)) ≡ 1 + position_or_len (λ l. p l.0 l.1.what) (placed (m + k) (drop (i + 1) ups))
placed_next {C} p m i k ups what is fails more =
    let there = line_there ups i what is in
    let test : ℕ × Numbered (UpLine C) → Bool = λ l. p l.0 l.1.what in
    ap (λ ls. position_or_len test (placed m ls)) (drop_there ups i there.0 there.1)
    ∙ (position_past test (m, there.0) _ (ap (p m) there.2 ∙ fails)
    ∙ ap (λ j. 1 + position_or_len test (placed (m + j) (drop (i + 1) ups))) (ap (λ w. length (updates (w ∷ []))) there.2 ∙ sym more))

-- .. that passes it
pub placed_there : {C : Type 0} (p : ℕ → UpLine C → Bool) (m i : ℕ) (ups : List (Numbered (UpLine C))) (what : UpLine C) → slice_get (said_of ups) i ≡ Some what → p m what ≡ true → position_or_len (λ l. p l.0 l.1.what) (placed m (drop i ups)) ≡ 0
placed_there {C} p m i ups what is passes =
    let there = line_there ups i what is in
    let test : ℕ × Numbered (UpLine C) → Bool = λ l. p l.0 l.1.what in
    ap (λ ls. position_or_len test (placed m ls)) (drop_there ups i there.0 there.1) ∙ position_here test (m, there.0) _ (ap (p m) there.2 ∙ passes)

-- circles with the first query files

-- a line that is a circle with one of the first i query files
abbrev pub is_circle_within : {C A : Type 0} → ℕ → List (List (AskLine A)) → ℕ → UpLine C → Bool
is_circle_within i files m (Call u) = false
is_circle_within i files m (Hold file count) = nat_le file i && option_map_or (waits_for_more m count) (query_file file files) false

pub le_false : (a b : ℕ) → b < a → nat_le a b ≡ false
le_false a b lt = grind (arith, nat_tests)

pub le_true : (a b : ℕ) → a ≤ b → nat_le a b ≡ true
le_true a b le = grind (arith, nat_tests)

pub no_file : {A : Type 0} (files : List (List (AskLine A))) (f : ℕ) → length files < f → query_file f files ≡ None
no_file files zero above = refl
no_file files (suc i) above = slice_get_past files i (omega arith)

within_none : {C A : Type 0} (files : List (List (AskLine A))) (m : ℕ) (what : UpLine C) → is_circle_within 0 files m what ≡ false
within_none files m (Call u) = refl
within_none files m (Hold zero count) = refl
within_none files m (Hold (suc f) count) = ap (λ t. t && option_map_or (waits_for_more m count) (query_file (suc f) files) false) (le_false (suc f) 0 (omega arith))

pub or_false : (b : Bool) → (b || false) ≡ b
or_false true = refl
or_false false = refl

and_false : (b : Bool) → (b && false) ≡ false
and_false true = refl
and_false false = refl

-- the file is one of the first i, or the next
pub one_more : (file i : ℕ) (c w : Bool) → (file ≡ suc i → c ≡ w) → (nat_le file (i + 1) && c) ≡ ((nat_le file i && c) || ((file == suc i) && w))
one_more file i c w same = elim (cases_eq file (suc i)) [
  | inl is ↦ let e = same is in grind (arith, nat_tests)
  | inr other ↦ grind (arith, nat_tests)
]

within_more : {C A : Type 0} (files : List (List (AskLine A))) (i : ℕ) (asks : List (AskLine A)) → query_file (suc i) files ≡ Some asks → (m : ℕ) (what : UpLine C) → is_circle_within (i + 1) files m what ≡ (is_circle_within i files m what || is_circle_with (suc i) asks m what)
within_more files i asks here m (Call u) = refl
within_more files i asks here m (Hold file count) =
    one_more file i (option_map_or (waits_for_more m count) (query_file file files) false) (waits_for_more m count asks) (λ same. ap (λ o. option_map_or (waits_for_more m count) o false) (ap (λ f. query_file f files) same ∙ here))

pub within_or_above : (a b : ℕ) → (a ≤ b) ⊎ (b < a)
within_or_above zero b = inl (omega arith)
within_or_above (suc a) zero = inr (omega arith)
within_or_above (suc a) (suc b) = elim (within_or_above a b) [ inl le ↦ inl (omega arith) | inr lt ↦ inr (omega arith) ]

within_all : {C A : Type 0} (files : List (List (AskLine A))) (m : ℕ) (what : UpLine C) → is_circle_within (length files) files m what ≡ is_circle files m what
within_all files m (Call u) = refl
within_all files m (Hold file count) = elim (within_or_above file (length files)) [
  | inl within ↦ ap (λ t. t && option_map_or (waits_for_more m count) (query_file file files) false) (le_true file (length files) within)
  | inr above ↦
      let none = ap (λ o. option_map_or (waits_for_more m count) o false) (no_file files file above) in
      ap (λ w. nat_le file (length files) && w) none ∙ (and_false (nat_le file (length files)) ∙ sym none)
]

-- no line is a circle with none of the files
pub within_first : {C A : Type 0} (files : List (List (AskLine A))) (m : ℕ) (ups : List (Numbered (UpLine C))) → length ups ≡ position_or_len (λ x. is_circle_within 0 files x.0 x.1.what) (placed m ups)
within_first files m [] = refl
within_first files m (l ∷ more) =
    let later = within_first files (m + length (updates (l.what ∷ []))) more in
    let place : suc (length more) ≡ 1 + length more = omega arith in
    place ∙ (ap (λ k. 1 + k) later ∙ sym (position_past (λ x. is_circle_within 0 files x.0 x.1.what) (m, l) (placed (m + length (updates (l.what ∷ []))) more) (within_none files m l.what)))

-- one more file
pub within_next : {C A : Type 0} (files : List (List (AskLine A))) (i end : ℕ) (asks : List (AskLine A)) (ups : List (Numbered (UpLine C))) → query_file (suc i) files ≡ Some asks → end ≡ position_or_len (λ x. is_circle_within i files x.0 x.1.what) (placed 0 ups) → position_or_len (λ x. is_circle_with (i + 1) asks x.0 x.1.what) (placed 0 (take end ups)) ≡ position_or_len (λ x. is_circle_within (i + 1) files x.0 x.1.what) (placed 0 ups)
within_next {C} {A} files i end asks ups here is =
    let number : i + 1 ≡ suc i = omega arith in
    let with : ℕ × Numbered (UpLine C) → Bool = λ x. is_circle_with (suc i) asks x.0 x.1.what in
    let either = position_either (λ x. is_circle_within i files x.0 x.1.what) with (λ x. is_circle_within (i + 1) files x.0 x.1.what) (λ x. within_more files i asks here x.0 x.1.what) (placed 0 ups) in
    ap (λ f. position_or_len (λ (x : ℕ × Numbered (UpLine C)). is_circle_with f asks x.0 x.1.what) (placed 0 (take end ups))) number
    ∙ ap (position_or_len with) (placed_take 0 end ups ∙ ap (λ k. take k (placed 0 ups)) is) ∙ either

-- the first circle, by its place
circle_by_place : {C A : Type 0} (ups : List (Numbered (UpLine C))) (asks : List (List (Numbered (AskLine A)))) (end : ℕ) → end ≡ position_or_len (λ x. is_circle_within (length (map said_of asks)) (map said_of asks) x.0 x.1.what) (placed 0 ups) → circle_fault ups asks ≡ option_map fault_at (slice_get (placed 0 ups) end)
circle_by_place {C} {A} ups asks end is =
    let circle : ℕ × Numbered (UpLine C) → Bool = λ x. is_circle (map said_of asks) x.0 x.1.what in
    let place = is ∙ position_same (λ x. is_circle_within (length (map said_of asks)) (map said_of asks) x.0 x.1.what) circle (λ x. within_all (map said_of asks) x.0 x.1.what) (placed 0 ups) in
    ap (option_map fault_at) (find_at circle (placed 0 ups) ∙ ap (slice_get (placed 0 ups)) (sym place))

pub circle_none : {C A : Type 0} (ups : List (Numbered (UpLine C))) (asks : List (List (Numbered (AskLine A)))) (i end : ℕ) → i ≡ length asks → end ≡ position_or_len (λ x. is_circle_within i (map said_of asks) x.0 x.1.what) (placed 0 ups) → end ≡ length ups → circle_fault ups asks ≡ None
circle_none ups asks i end all is whole =
    let place = is ∙ ap (λ k. position_or_len (λ x. is_circle_within k (map said_of asks) x.0 x.1.what) (placed 0 ups)) (all ∙ sym (length-map asks said_of)) in
    circle_by_place ups asks end place ∙ ap (option_map fault_at) (slice_get_past (placed 0 ups) end (omega (arith, placed_length 0 ups, whole)))

pub circle_some : {C A : Type 0} (ups : List (Numbered (UpLine C))) (asks : List (List (Numbered (AskLine A)))) (i end : ℕ) (line : Numbered (UpLine C)) → i ≡ length asks → end ≡ position_or_len (λ x. is_circle_within i (map said_of asks) x.0 x.1.what) (placed 0 ups) → slice_get ups end ≡ Some line → Some (record { file = 0; line = line.line }) ≡ circle_fault ups asks
circle_some ups asks i end line all is here =
    let place = is ∙ ap (λ k. position_or_len (λ x. is_circle_within k (map said_of asks) x.0 x.1.what) (placed 0 ups)) (all ∙ sym (length-map asks said_of)) in
    sym (circle_by_place ups asks end place ∙ placed_at 0 ups end line here)

-- a file with no `hold` line

pub either_false : (a b : Bool) → (a || b) ≡ false → (a ≡ false) × (b ≡ false)
either_false true b none = absurd (cc)
either_false false b none = (refl, none)

no_circle : {C A : Type 0} (files : List (List (AskLine A))) (m : ℕ) (what : UpLine C) → is_hold what ≡ false → is_circle files m what ≡ false
no_circle files m (Call u) none = refl
no_circle files m (Hold file count) none = absurd (cc)

no_circles : {C A : Type 0} (files : List (List (AskLine A))) (m : ℕ) (ups : List (Numbered (UpLine C))) → list_any (λ l. is_hold l.what) ups ≡ false → find (λ l. is_circle files l.0 l.1.what) (placed m ups) ≡ None
no_circles files m [] none = refl
no_circles files m (l ∷ more) none =
    let both = either_false (is_hold l.what) (list_any (λ l. is_hold l.what) more) none in
    cond-false (is_circle files m l.what) _ _ (no_circle files m l.what both.0) ∙ no_circles files (m + length (updates (l.what ∷ []))) more both.1

pub no_hold_no_circle : {C A : Type 0} (ups : List (Numbered (UpLine C))) (asks : List (List (Numbered (AskLine A)))) → list_any (λ l. is_hold l.what) ups ≡ false → circle_fault ups asks ≡ None
no_hold_no_circle ups asks none = ap (option_map fault_at) (no_circles (map said_of asks) 0 ups none)
