-- Files by name.
use Rattle.std.proofs.Common.{◌≡◌, ℕ, zero, suc, subst, ◌+◌, ◌≤◌, ◌<◌, Bool, true, false, cond, not, List, [], ◌∷◌, map, length, Some, None, option_map, position, unwrap_or, nat_lt, is_none, String, Vec, ◌==◌, slice_get, slice_index, slice_set, get_or, replicate, take, ◌++◌, ◌^◌, min, Result, Ok, Err, length-append, ◌||◌, IsTrue, IsFalse, refl, ap, sym, ◌∙◌, arith, bytes_eq}
use Rattle.std.specs.List.{prefix_len, position_or_len, list_any}
use Rattle.std.specs.Global.{Global}
use Rattle.std.proofs.lemmas.List.Sums.{prefix_len-le-length}
use Rattle.std.proofs.lemmas.Option.{slice_get-map, slice_get_read, slice_get_past}
use Rattle.std.proofs.Math.Seq.{take-append_seam, take-length}
use Rattle.std.proofs.lemmas.Bool.Decides.{nat_tests}
use Rattle.std.proofs.lemmas.Grind.{common_steps}
use Rattle.std.proofs.lemmas.List.{get_or-replicate, length-map, length-take, length-replicate}
use Rattle.ck_io.specs.declared.shelf.ShelfError.{ShelfError}
use Rattle.ck_io.specs.declared.shelf.ShelfError.TheVariants.{Failed, TooLong, Memory}
use Rattle.ck_io.specs.Faults.{next, NeverFall}
use Rattle.ck_io.specs.Shelf.{IsUnfailed}
use Rattle.ck_io.specs.MemShelf.{ShelfState, contents, place, bytes_under, padded, faults_of, shelf_after, fetch_fails}

-- how many pass from the front on, among the images
pub prefix_len-map : {X Y : Type 0} (f : X → Y) (p : Y → Bool) (xs : List X) → prefix_len p (map f xs) ≡ prefix_len (λ x. p (f x)) xs
prefix_len-map f p [] = refl
prefix_len-map f p (x ∷ xs) = ap (λ n. cond (p (f x)) (1 + n) 0) (prefix_len-map f p xs)

unwrap_or-below : (k n : ℕ) → k ≤ n → unwrap_or (cond (nat_lt k n) (Some k) None) n ≡ k
unwrap_or-below k n h = grind (arith, nat_tests)

-- the first place at which p passes, or the length
pub unwrap_or-position : {X : Type 0} (p : X → Bool) (xs : List X) → unwrap_or (position p xs) (length xs) ≡ position_or_len p xs
unwrap_or-position p xs = unwrap_or-below (position_or_len p xs) (length xs) (prefix_len-le-length (λ x. not (p x)) xs)

-- a place is within the files, or their number
pub place-le-length : (files : List (List ℕ × List ℕ)) (name : List ℕ) → place files name ≤ length files
place-le-length files name = prefix_len-le-length (λ file. not (bytes_eq file.0 name)) files

pub place-contents-le : (files : List (String Global × Vec ℕ Global)) (name : List ℕ) → place (contents files) name ≤ length files
place-contents-le files name = simp length-map at (place-le-length (contents files) name)

-- what is held at a place within the files
pub bytes_under-at : (files : List (String Global × Vec ℕ Global)) (name : List ℕ) (i : ℕ) (file : String Global × Vec ℕ Global)
    → i ≡ place (contents files) name → i < length files → file ≡ get_or files i file → bytes_under (contents files) name ≡ Some file.1.items
bytes_under-at files name i file at within read =
    ap (λ k. option_map (λ f. f.1) (slice_get (contents files) k)) (sym at)
    ∙ ap (option_map (λ f. f.1)) (slice_get-map _ files i ∙ ap (option_map _) (slice_get_read files (length files) i file refl within read))

-- past the files nothing is held
pub bytes_under-past : (files : List (String Global × Vec ℕ Global)) (name : List ℕ) → length files ≤ place (contents files) name
    → bytes_under (contents files) name ≡ None
bytes_under-past files name past =
    ap (option_map (λ f. f.1)) (slice_get_past (contents files) (place (contents files) name) (simp length-map past))

-- each name has a count
pub counted : (files : List (String Global × Vec ℕ Global)) (name : List ℕ) (counts : List ℕ) (strays : ℕ)
    → place (contents files) name < length (padded (length files) counts ++ strays ∷ [])
counted files name counts strays =
    let within : place (contents files) name ≤ length files = place-contents-le files name in
    let all : length (padded (length files) counts ++ strays ∷ []) ≡ min (length files) (length counts + length files) + 1
    = simp (length-append, length-take, length-replicate) in
    omega (arith, all, within)

-- a count that is set to no less falls nowhere
pub set-lasting : (counts : List ℕ) (i k count : ℕ) → slice_index counts i ≤ count → slice_index counts k ≤ slice_index (slice_set counts i count) k
set-lasting [] i k count h = omega arith
set-lasting (c ∷ cs) zero zero count h = h
set-lasting (c ∷ cs) zero (suc k) count h = omega arith
set-lasting (c ∷ cs) (suc i) zero count h = omega arith
set-lasting (c ∷ cs) (suc i) (suc k) count h = set-lasting cs i k count h

-- no answer lets a count fall
pub shelf_after-lasting : {T : Type 0} (shelf : ShelfState) (name : List ℕ) (result : Result T ShelfError)
    → (result ≡ Err Failed → faults_of shelf name < 2 ^ 64) → NeverFall (faults_of shelf) (faults_of (shelf_after shelf name result))
shelf_after-lasting shelf name (Ok _) fits q = omega arith
shelf_after-lasting shelf name (Err Failed) fits q =
    set-lasting shelf.counts (place shelf.files name) (place shelf.files q) (next (faults_of shelf name)) (omega (arith, fits refl))
shelf_after-lasting shelf name (Err (TooLong _)) fits q = omega arith
shelf_after-lasting shelf name (Err Memory) fits q = omega arith

-- no answer but `Failed` changes a count
pub shelf_after-uncounted : {T : Type 0} (shelf : ShelfState) (name : List ℕ) (result : Result T ShelfError) → IsUnfailed result
    → faults_of (shelf_after shelf name result) ≡ faults_of shelf
shelf_after-uncounted shelf name (Ok _) unfailed = refl
shelf_after-uncounted shelf name (Err Failed) unfailed = absurd unfailed
shelf_after-uncounted shelf name (Err (TooLong _)) unfailed = refl
shelf_after-uncounted shelf name (Err Memory) unfailed = refl

-- counts that are as many as they should be need no padding
pub padded-whole : (n : ℕ) (counts : List ℕ) → length counts ≡ n → padded n counts ≡ counts
padded-whole n counts whole = ap (λ k. take k (counts ++ replicate n 0)) (sym whole) ∙ take-append_seam counts (replicate n 0)

-- whether a call's number is one of those that fail
pub numbered : (number calls : ℕ) (fails listed : List ℕ) (answer : Bool) → number ≡ next calls → listed ≡ fails
    → answer ≡ list_any (λ n. n == number) listed → list_any (λ n. n == next calls) fails ≡ answer
numbered number calls fails listed answer e f h =
    sym (h ∙ ap (λ xs. list_any (λ n. n == number) xs) f ∙ ap (λ k. list_any (λ n. n == k) fails) e)

-- a name that isn't held fails
pub fetch_fails-unheld : (shelf : ShelfState) (name : List ℕ) → bytes_under shelf.files name ≡ None → IsTrue (fetch_fails shelf name)
fetch_fails-unheld shelf name e = ap (λ h. is_none h || list_any (λ n. n == next shelf.calls) shelf.fails) e

or_true : (a b : Bool) → b ≡ true → a || b ≡ true
or_true true b e = refl
or_true false b e = e

-- a call whose number is one of those that fail fails
pub fetch_fails-numbered : (shelf : ShelfState) (name : List ℕ) → list_any (λ n. n == next shelf.calls) shelf.fails ≡ true
    → IsTrue (fetch_fails shelf name)
fetch_fails-numbered shelf name e = or_true (is_none (bytes_under shelf.files name)) _ e

-- any other call doesn't fail
pub fetch_fails-neither : (shelf : ShelfState) (name bytes : List ℕ) → bytes_under shelf.files name ≡ Some bytes
    → list_any (λ n. n == next shelf.calls) shelf.fails ≡ false → IsFalse (fetch_fails shelf name)
fetch_fails-neither shelf name bytes e f = ap (λ h. is_none h || list_any (λ n. n == next shelf.calls) shelf.fails) e ∙ f

-- a count among those that are there is one of the padded counts
pub fits-padded : (n at strays : ℕ) (old new : List ℕ) → padded n new ≡ padded n old → length new ≡ n
    → slice_index (new ++ strays ∷ []) at < 2 ^ 64 → slice_index (padded n old ++ strays ∷ []) at < 2 ^ 64
fits-padded n at strays old new same whole fits =
    let P : List ℕ → Type 0 = λ xs. slice_index (xs ++ strays ∷ []) at < 2 ^ 64 in
    subst P (sym (padded-whole n new whole) ∙ same) fits

zeros : (n k : ℕ) → slice_index (replicate n 0 ++ 0 ∷ []) k ≡ 0
zeros n k = grind (arith, common_steps, get_or-replicate)

-- before the first fetch each count is 0
pub zero-padded : (n at : ℕ) → slice_index (padded n [] ++ 0 ∷ []) at ≡ 0
zero-padded n at =
    let none : padded n [] ≡ replicate n 0 =
    ap (λ k. take k (replicate n 0)) (sym (length-replicate n 0)) ∙ take-length (replicate n 0) in
    ap (λ xs. slice_index (xs ++ 0 ∷ []) at) none ∙ zeros n at
