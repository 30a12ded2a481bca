-- How a call of `serve` begins, and how it ends.
use Rattle.std.proofs.Common.{◌≡◌, ℕ, zero, suc, ◌+◌, ◌-◌, ◌^◌, ◌<◌, ◌≤◌, nat_lt, Bool, true, false, cond, List, [], ◌∷◌, ◌++◌, map, length, take, find, Option, Some, None, Vec, All, add-one, length-append, replicate, refl, sym, ap, subst, ◌∙◌, arith}
use Rattle.std.specs.Prelude.{slice_get}
use Rattle.std.specs.Option.{option_map, option_map_or, option_or}
use Rattle.std.proofs.lemmas.List.{take_all, length-map, length-replicate}
use Rattle.std.specs.declared.alloc.Global.{Global}
use Rattle.ck_run.specs.Tokens.{Table, table}
use Rattle.ck_ring.specs.State.{Token, state}
use Rattle.ck_run.specs.Ends.{fresh, AreFresh}
use Rattle.ck_script.specs.declared.line.Numbered.{Numbered}
use Rattle.ck_script.specs.declared.line.UpLine.{UpLine}
use Rattle.ck_script.specs.declared.line.UpLine.TheVariants.{Call, Hold}
use Rattle.ck_script.specs.declared.line.AskLine.{AskLine}
use Rattle.ck_script.specs.Script.{said_of, updates, queries}
use Rattle.ck_script.specs.Checks.{is_hold_beyond, first_fault, first_wait_beyond, range_fault}
use Rattle.ck_pool.specs.Limits.{most_query_files}
use Rattle.ck_pool.specs.declared.query_run.QueryRun.{QueryRun}
use Rattle.ck_pool.specs.Meaning.{HandMeaning, EyeMeaning}
use Rattle.ck_pool.specs.Runs.{HoldsReader, HoldReaders}
use Rattle.ck_pool.specs.Served.{LineFits, WillFit, AreServed, AreInOrder, AreReady, lines_of}
use Rattle.ck_pool.specs.Working.{IsQueryRun, numbers_below}
use Rattle.ck_pool.proofs.Running.{some_same}
use Rattle.ck_pool.proofs.Files.{each_all, take_get, served_snoc, served_is}

abbrev Idle : Table (Unit {0}) → Token → Type 0
Idle t c = (table c ≡ t) × ((state c).calls ≡ 0)

fresh_idle : (t : Table (Unit {0})) (n : ℕ) → Idle t (fresh t n)
fresh_idle t zero = (refl, refl)
fresh_idle t (suc n) = (refl, refl)

pub fresh_is : (t : Table (Unit {0})) (n : ℕ) (c : Token) → c ≡ fresh t n → Idle t c
fresh_is t n c e = subst (λ (x : Token). Idle t x) (sym e) (fresh_idle t n)

fresh_each : (t : Table (Unit {0})) (n : ℕ) (cs : List Token) → AreFresh t n cs → (k : ℕ) (c : Token) → slice_get cs k ≡ Some c → Idle t c
fresh_each t n [] all k c e = cc
fresh_each t n (x ∷ cs) all zero c e = fresh_is t n c (sym (some_same x c e) ∙ all.0)
fresh_each t n (x ∷ cs) all (suc k) c e = fresh_each t (n + 1) cs all.1 k c e

pub fresh_all : (t : Table (Unit {0})) (n : ℕ) (cs : List Token) → AreFresh t n cs → All (λ c. (table c ≡ t) × ((state c).calls ≡ 0)) cs
fresh_all t n cs all = each_all (Idle t) cs (fresh_each t n cs all)

pub map_snoc : {X Y : Type 0} (f : X → Y) (xs : List X) (x : X) → map f (xs ++ x ∷ []) ≡ map f xs ++ f x ∷ []
map_snoc f [] x = refl
map_snoc f (y ∷ xs) x = ap (λ l. f y ∷ l) (map_snoc f xs x)

module _ {E A B : Type 0} (meaning : EyeMeaning E A B) (eyes : List E) (asks : List (List (Numbered (AskLine A)))) where
  pub served_step : (i : ℕ) (r : QueryRun E B) (h : IsQueryRun meaning eyes asks r) (backs backs' : List E) (given given' : List (Vec B Global)) → r.file ≡ i → r.waits_at ≡ None → backs' ≡ backs ++ r.eye ∷ [] → given' ≡ given ++ r.answers ∷ []
      → AreServed meaning (take i eyes) (take i asks) backs (map (λ file. file.items) given)
      → AreServed meaning (take (i + 1) eyes) (take (i + 1) asks) backs' (map (λ file. file.items) given')
  served_step i r h backs backs' given given' at ended p q all =
      let eye : slice_get eyes i ≡ Some h.given = ap (λ (k : ℕ). slice_get eyes k) (sym at) ∙ h.eye in
      let file : slice_get asks i ≡ Some h.lines = ap (λ (k : ℕ). slice_get asks k) (sym at) ∙ h.file in
      let a : take (i + 1) eyes ≡ take i eyes ++ h.given ∷ [] = take_get eyes i h.given eye in
      let b : take (i + 1) asks ≡ take i asks ++ h.lines ∷ [] = take_get asks i h.lines file in
      let d : map (λ (v : Vec B Global). v.items) given' ≡ map (λ (v : Vec B Global). v.items) given ++ r.answers.items ∷ [] = ap (map (λ (v : Vec B Global). v.items)) q ∙ map_snoc (λ (v : Vec B Global). v.items) given r.answers in
      rw (a, b, p, d) (served_snoc meaning (take i eyes) (take i asks) backs (map (λ (v : Vec B Global). v.items) given) h.given h.lines r.eye r.answers.items all (served_is meaning eyes asks r h ended))

  pub served_whole : (i : ℕ) (backs : List E) (bss : List (List B)) → length eyes ≤ i → length asks ≤ i → AreServed meaning (take i eyes) (take i asks) backs bss → AreServed meaning eyes asks backs bss
  served_whole i backs bss le_eyes le_files all =
      let a : take i eyes ≡ eyes = take_all i eyes le_eyes in
      let b : take i asks ≡ asks = take_all i asks le_files in
      subst (λ (x : List E). AreServed meaning x asks backs bss) a (subst (λ (y : List (List (Numbered (AskLine A)))). AreServed meaning (take i eyes) y backs bss) b all)

-- of two that are both absent, the first
first_absent : {X : Type 0} (a b : Option X) → option_or a b ≡ None → a ≡ None
first_absent None b none = refl
first_absent (Some x) b none = absurd (cc)

absent_before : {X Y : Type 0} (f : X → Y) (a : Option X) → option_map f a ≡ None → a ≡ None
absent_before f None none = refl
absent_before f (Some x) none = absurd (cc)

none_here : {X : Type 0} (b : Bool) (x : X) (later : Option X) → cond b (Some x) later ≡ None → (b ≡ false) × (later ≡ None)
none_here true x later none = absurd (cc)
none_here false x later none = (refl, none)

-- a place at which something stands
some_place : {X : Type 0} (f : X → Bool) (xs : List X) (i : ℕ) → option_map_or f (slice_get xs i) true ≡ false → i < length xs
some_place f [] i e = absurd (cc)
some_place f (x ∷ xs) zero e = omega arith
some_place f (x ∷ xs) (suc i) e = let h = some_place f xs i e in omega arith

-- where no `hold` line is beyond what there is, each names a reader
module _ {C A : Type 0} (files : List (List (AskLine A))) (readers : ℕ) (le : length files ≤ readers) where
  holds_reader : (l : UpLine C) → is_hold_beyond files l ≡ false → HoldsReader readers l
  holds_reader (Call c) e = tt
  holds_reader (Hold zero n) e = absurd (cc)
  holds_reader (Hold (suc i) n) e = let h = some_place (λ asks. nat_lt (length (queries 0 asks)) n) files i e in (omega arith, omega (arith, h, le))

  hold_readers : (ls : List (Numbered (UpLine C))) → find (λ l. is_hold_beyond files l.what) ls ≡ None → HoldReaders readers ls
  hold_readers [] none = tt
  hold_readers (l ∷ ls) none =
      let both = none_here (is_hold_beyond files l.what) l (find (λ l. is_hold_beyond files l.what) ls) none in
      (holds_reader l.what both.0, hold_readers ls both.1)

pub in_range_readers : {C A : Type 0} (ups : List (Numbered (UpLine C))) (asks : List (List (Numbered (AskLine A)))) (readers : ℕ) → length asks ≤ readers → range_fault ups asks ≡ None → HoldReaders readers ups
in_range_readers ups asks readers le none =
    hold_readers (map said_of asks) readers (let same = length-map asks said_of in omega (arith, le, same)) ups
    (absent_before _ _ (first_absent (first_fault (is_hold_beyond (map said_of asks)) 0 ups) (first_wait_beyond (length (updates (said_of ups))) 1 asks) none))

-- a dictionary that has room for every call has it for each line
module _ {H C R : Type 0} (hands : HandMeaning H C R) (room : (w : H) (c : C) → hands.fits w c) where
  line_fits : (w : H) (l : UpLine C) → LineFits hands w l
  line_fits w (Call c) = room w c
  line_fits w (Hold f n) = tt

  pub all_fit : (given : H) (lines : List (Numbered (UpLine C))) → WillFit hands given lines
  all_fit given lines i line is w events replies is_ready grown ran = line_fits w line.what

-- eyes that are numbered in order
module _ {E A B : Type 0} (meaning : EyeMeaning E A B) where
  pub enough_readers : (readers n : ℕ) (es : List E) → ((e : E) → meaning.ready e → meaning.number e < readers) → AreReady meaning es → AreInOrder meaning n es → 1 ≤ length es → n + length es ≤ readers
  enough_readers readers n [] law ready numbered some = absurd (omega arith)
  enough_readers readers n (e ∷ []) law ready numbered some =
      let lt = law e (ready 0 e refl).0 in let is = numbered.0 in omega arith
  enough_readers readers n (e ∷ d ∷ es) law ready numbered some =
      let h = enough_readers readers (n + 1) (d ∷ es) law (λ f x is. ready (suc f) x is) numbered.1 (omega arith) in omega arith

  pub numbered_back : (n : ℕ) (es : List E) (files : List (List (Numbered (AskLine A)))) (backs : List E) (bss : List (List B)) → AreServed meaning es files backs bss → AreInOrder meaning n es → AreInOrder meaning n backs
  numbered_back n [] [] [] [] all numbered = tt
  numbered_back n [] [] [] (w ∷ bss) all numbered = absurd all
  numbered_back n [] [] (z ∷ backs) bss all numbered = absurd all
  numbered_back n [] (y ∷ fs) backs bss all numbered = absurd all
  numbered_back n (x ∷ es) [] backs bss all numbered = absurd all
  numbered_back n (x ∷ es) (y ∷ fs) [] bss all numbered = absurd all
  numbered_back n (x ∷ es) (y ∷ fs) (z ∷ backs) [] all numbered = absurd all
  numbered_back n (x ∷ es) (y ∷ fs) (z ∷ backs) (w ∷ bss) all numbered = (all.0.same ∙ numbered.0, numbered_back (n + 1) es fs backs bss all.1 numbered.1)

-- a file has no more lines than all files
pub short_file : {A : Type 0} (asks : List (List A)) (f : ℕ) (lines : List A) → slice_get asks f ≡ Some lines → length lines ≤ lines_of asks
short_file [] f lines is = absurd (cc)
short_file (x ∷ asks) zero lines is = let same : length x ≡ length lines = ap (λ l. length l) (some_same x lines is) in omega arith
short_file (x ∷ asks) (suc f) lines is = let h = short_file asks f lines is in omega arith

pub numbers_snoc : (n : ℕ) → numbers_below (n + 1) ≡ numbers_below n ++ n ∷ []
numbers_snoc n = ap numbers_below (add-one n)

pub numbers_long : (n : ℕ) → length (numbers_below n) ≡ n
numbers_long zero = refl
numbers_long (suc n) = let h = numbers_long n in let two : length (numbers_below n ++ n ∷ []) ≡ length (numbers_below n) + 1 = length-append (numbers_below n) (n ∷ []) in omega arith

-- a producer that sent nothing, and room for 64 numbers
pub fresh_sent : (t : Table (Unit {0})) (p : Token) → p ≡ fresh t 0 → ((state p).calls ≡ 0) × ((state p).sent ≡ [])
fresh_sent t p e = subst (λ (x : Token). ((state x).calls ≡ 0) × ((state x).sent ≡ [])) (sym e) (refl, refl)

pub ring_room : (words : List ℕ) → words ≡ replicate (2 ^ 7 + 2) 0 → most_query_files < length words - 2
ring_room words e = let zero : ℕ = 0 in let long : length words ≡ 2 ^ 7 + 2 = ap length e ∙ length-replicate (2 ^ 7 + 2) zero in omega arith
