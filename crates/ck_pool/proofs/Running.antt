-- One more load, and one more line.
use Rattle.std.proofs.Common.{◌≡◌, ℕ, zero, suc, ◌+◌, ◌<◌, List, [], ◌∷◌, ◌++◌, length, map, take, get_or, Option, Some, Result, MatchBool, refl, sym, ap, subst, ◌∙◌, append_assoc, arith}
use Rattle.std.specs.Prelude.{slice_get}
use Rattle.std.specs.Option.{option_map}
use Rattle.std.proofs.lemmas.Option.{slice_get-map}
use Rattle.std.proofs.lemmas.List.{length-map, take_more}
use Rattle.std.specs.declared.result.Result.TheVariants.{Ok, Err}
use Rattle.std.specs.Result.{is_ok}
use Rattle.std.proofs.lemmas.List.{append-nil}
use Rattle.ck_history.specs.declared.event.ReaderEvent.{ReaderEvent}
use Rattle.ck_history.specs.declared.event.ReaderEvent.TheVariants.{Reached}
use Rattle.ck_script.specs.declared.line.Numbered.{Numbered}
use Rattle.ck_script.specs.declared.line.AskLine.{AskLine}
use Rattle.ck_script.specs.declared.line.AskLine.TheVariants.{Wait}
use Rattle.ck_history.specs.declared.event.WriterEvent.{WriterEvent}
use Rattle.ck_history.specs.declared.event.WriterEvent.TheVariants.{Told}
use Rattle.ck_script.specs.declared.line.UpLine.{UpLine}
use Rattle.ck_pool.specs.Runs.{short_loads, final_load, QueryLineRan, QueriesRan, answer_loads, UpdateLineRan, UpdatesRan, HoldsReader, HoldReaders}
use Rattle.ck_pool.specs.Working.{IsHalted, RanTo}

module _ {A B : Type 0} where
  short_loads_snoc : (n m : ℕ) (ms : List ℕ) → short_loads {A = A} {B = B} n ms ++ Reached n (Err m) ∷ [] ≡ short_loads n (ms ++ m ∷ [])
  short_loads_snoc n m [] = refl
  short_loads_snoc n m (k ∷ ms) = ap (λ l. Reached n (Err k) ∷ l) (short_loads_snoc n m ms)

  pub one_more_load : (done : List (ReaderEvent A B)) (n m : ℕ) (ms : List ℕ) → (done ++ short_loads n ms) ++ Reached n (Err m) ∷ [] ≡ done ++ short_loads n (ms ++ m ∷ [])
  one_more_load done n m ms = append_assoc done (short_loads n ms) (Reached n (Err m) ∷ []) ∙ ap (λ l. done ++ l) (short_loads_snoc n m ms)

  pub asks_snoc : (ls : List (Numbered (AskLine A))) (l : Numbered (AskLine A)) (ds d : List (ReaderEvent A B)) (bs b : List B) → QueriesRan ls ds bs → QueryLineRan l.what d b → QueriesRan (ls ++ l ∷ []) (ds ++ d) (bs ++ b)
  asks_snoc [] l ds d bs b h line = (d, [], b, [], ap (λ x. x ++ d) h.0 ∙ sym (append-nil d), ap (λ x. x ++ b) h.1 ∙ sym (append-nil b), line, (refl, refl))
  asks_snoc (x ∷ ls) l ds d bs b (e, rest, c, more, p, q, first, later) line =
      (e, rest ++ d, c, more ++ b, ap (λ z. z ++ d) p ∙ append_assoc e rest d, ap (λ z. z ++ b) q ∙ append_assoc c more b, first, asks_snoc ls l rest d more b later line)

  -- a line of a `wait` is done where its load met it
  pub wait_ran : (line : AskLine A) (n : ℕ) (found : Result (Unit {0}) ℕ) (before after : List (ReaderEvent A B)) (bs : List B) (calls calls' : ℕ) → line ≡ Wait n → after ≡ before ++ Reached n found ∷ [] → calls' ≡ calls
      → MatchBool (is_ok found)
      ((ds : List (ReaderEvent A B)) × (b : List B) × (after ≡ before ++ ds) × (bs ≡ bs ++ b) × QueryLineRan line ds b)
      ((m : ℕ) × (count : ℕ) × (line ≡ Wait m) × (after ≡ before ++ short_loads m (count ∷ [])) × (calls' ≡ calls) × (bs ≡ bs))
  wait_ran line n (Ok tt) before after bs calls calls' is done same = (final_load n ∷ [], [], done, sym (append-nil bs), rw is ([], refl, refl))
  wait_ran line n (Err count) before after bs calls calls' is done same = (n, count, is, done, same, refl)

module _ {C R : Type 0} where
  answer_loads_snoc : (r m : ℕ) (ms : List ℕ) → answer_loads {C = C} {R = R} r ms ++ Told r m ∷ [] ≡ answer_loads r (ms ++ m ∷ [])
  answer_loads_snoc r m [] = refl
  answer_loads_snoc r m (k ∷ ms) = ap (λ l. Told r k ∷ l) (answer_loads_snoc r m ms)

  pub one_more_answer_load : (done : List (WriterEvent C R)) (r m : ℕ) (ms : List ℕ) → (done ++ answer_loads r ms) ++ Told r m ∷ [] ≡ done ++ answer_loads r (ms ++ m ∷ [])
  one_more_answer_load done r m ms = append_assoc done (answer_loads r ms) (Told r m ∷ []) ∙ ap (λ l. done ++ l) (answer_loads_snoc r m ms)

  pub updates_snoc : (ls : List (Numbered (UpLine C))) (l : Numbered (UpLine C)) (ds d : List (WriterEvent C R)) (rs r : List R) → UpdatesRan ls ds rs → UpdateLineRan l.what d r → UpdatesRan (ls ++ l ∷ []) (ds ++ d) (rs ++ r)
  updates_snoc [] l ds d rs r h line = (d, [], r, [], ap (λ x. x ++ d) h.0 ∙ sym (append-nil d), ap (λ x. x ++ r) h.1 ∙ sym (append-nil r), line, (refl, refl))
  updates_snoc (x ∷ ls) l ds d rs r (e, rest, c, more, p, q, first, later) line =
      (e, rest ++ d, c, more ++ r, ap (λ z. z ++ d) p ∙ append_assoc e rest d, ap (λ z. z ++ r) q ∙ append_assoc c more r, first, updates_snoc ls l rest d more r later line)

-- the hold of line i names a reader that there is
-- an element that was read
module _ {A : Type 0} where
  pub get_at : (xs : List A) (i : ℕ) (x : A) → i < length xs → x ≡ get_or xs i x → slice_get xs i ≡ Some x
  get_at [] i x lt e = absurd (omega arith)
  get_at (y ∷ ys) zero x lt e = ap Some (sym e)
  get_at (y ∷ ys) (suc i) x lt e = get_at ys i x (omega arith) e

  pub get_lt : (xs : List A) (i : ℕ) (x : A) → slice_get xs i ≡ Some x → i < length xs
  get_lt [] i x e = cc
  get_lt (y ∷ ys) zero x e = omega arith
  get_lt (y ∷ ys) (suc i) x e = let h = get_lt ys i x e in omega arith

  some_is : (x y : A) → Some x ≡ Some y → x ≡ y
  some_is x y e = cc

  pub get_is : (xs : List A) (i : ℕ) (x : A) → slice_get xs i ≡ Some x → x ≡ get_or xs i x
  get_is [] i x e = refl
  get_is (y ∷ ys) zero x e = sym (some_is y x e)
  get_is (y ∷ ys) (suc i) x e = get_is ys i x e

  pub some_same : (x y : A) → Some x ≡ Some y → x ≡ y
  some_same x y e = cc

  pub take_one_more : (xs : List A) (i : ℕ) (x : A) → i < length xs → x ≡ get_or xs i x → take (i + 1) xs ≡ take i xs ++ x ∷ []
  take_one_more xs i x lt e = take_more xs i x lt ∙ ap (λ (y : A). take i xs ++ y ∷ []) (sym e)

pub within_at : {C : Type 0} (readers : ℕ) (ls : List (Numbered (UpLine C))) (i : ℕ) (line : Numbered (UpLine C)) → slice_get ls i ≡ Some line → HoldReaders readers ls → HoldsReader readers line.what
within_at readers [] i line is h = cc
within_at readers (l ∷ ls) zero line is h = subst (λ (x : Numbered (UpLine _)). HoldsReader readers x.what) (some_same l line is) h.0
within_at readers (l ∷ ls) (suc i) line is h = within_at readers ls i line is h.1

-- what stands in a list at the place of an element of another from which it is made
pub map_get : {X Y : Type 0} (f : X → Y) (xs : List X) (i : ℕ) (x : X) → slice_get xs i ≡ Some x → slice_get (map f xs) i ≡ Some (f x)
map_get f xs i x is = slice_get-map f xs i ∙ ap (option_map f) is

pub map_lt : {X Y : Type 0} (f : X → Y) (xs : List X) (i : ℕ) (y : Y) → slice_get (map f xs) i ≡ Some y → i < length xs
map_lt f xs i y is = let lt = get_lt (map f xs) i y is in let long = length-map xs f in omega arith

pub map_there : {X Y : Type 0} (f : X → Y) (xs : List X) (i : ℕ) (y : Y) (x : X) → slice_get (map f xs) i ≡ Some y → x ≡ get_or xs i x → y ≡ f x
map_there f xs i y x is at = some_same y (f x) (sym is ∙ map_get f xs i x (get_at xs i x (map_lt f xs i y is) at))

wait_same : {A : Type 0} (x : AskLine A) (n m : ℕ) → x ≡ Wait n → x ≡ Wait m → n ≡ m
wait_same x n m e f = cc

-- a file that stands at a `wait`, and what another load does
module _ {A B : Type 0} where
  short_loads_append : (n : ℕ) (xs ys : List ℕ) → short_loads {A = A} {B = B} n xs ++ short_loads n ys ≡ short_loads n (xs ++ ys)
  short_loads_append n [] ys = refl
  short_loads_append n (x ∷ xs) ys = ap (λ l. Reached n (Err x) ∷ l) (short_loads_append n xs ys)

  pub stands_first : (lines : List (Numbered (AskLine A))) (i : ℕ) (ds : List (ReaderEvent A B)) (bs : List B) (n m : ℕ) (line : Numbered (AskLine A)) → slice_get lines i ≡ Some line → line.what ≡ Wait n → QueriesRan (take i lines) ds bs → IsHalted lines i (ds ++ short_loads n (m ∷ [])) bs
  stands_first lines i ds bs n m line here is ran = record { before = ds; counts = m ∷ []; n = n; line = line; here = here; waits = is; whole = refl; ran = ran }

  pub stands_more : (lines : List (Numbered (AskLine A))) (i : ℕ) (ds : List (ReaderEvent A B)) (bs : List B) (n m : ℕ) (line : Numbered (AskLine A)) → slice_get lines i ≡ Some line → line.what ≡ Wait n → IsHalted lines i ds bs → IsHalted lines i (ds ++ short_loads n (m ∷ [])) bs
  stands_more lines i ds bs n m line here is s =
      let one : line ≡ s.line = some_same line s.line (sym here ∙ s.here) in
      let same : n ≡ s.n = wait_same line.what n s.n is (ap (λ (l : Numbered (AskLine A)). l.what) one ∙ s.waits) in
      let grown : ds ++ short_loads n (m ∷ []) ≡ s.before ++ short_loads s.n (s.counts ++ m ∷ []) = ap (λ (k : ℕ). ds ++ short_loads k (m ∷ [])) same ∙ (ap (λ (x : List (ReaderEvent A B)). x ++ short_loads s.n (m ∷ [])) s.whole ∙ one_more_load s.before s.n m s.counts) in
      record { before = s.before; counts = s.counts ++ m ∷ []; n = s.n; line = s.line; here = s.here; waits = s.waits; whole = grown; ran = s.ran }

  joined_loads : (before : List (ReaderEvent A B)) (n : ℕ) (xs ys : List ℕ) → (before ++ short_loads n xs) ++ (short_loads n ys ++ final_load n ∷ []) ≡ before ++ (short_loads n (xs ++ ys) ++ final_load n ∷ [])
  joined_loads before n xs ys = append_assoc before (short_loads n xs) (short_loads n ys ++ final_load n ∷ []) ∙ ap (λ (z : List (ReaderEvent A B)). before ++ z) (sym (append_assoc (short_loads n xs) (short_loads n ys) (final_load n ∷ [])) ∙ ap (λ (z : List (ReaderEvent A B)). z ++ final_load n ∷ []) (short_loads_append n xs ys))

  pub stands_met : (lines : List (Numbered (AskLine A))) (i : ℕ) (ds d : List (ReaderEvent A B)) (bs b : List B) (line : Numbered (AskLine A)) → slice_get lines i ≡ Some line → take (i + 1) lines ≡ take i lines ++ line ∷ [] → QueryLineRan line.what d b → IsHalted lines i ds bs → QueriesRan (take (i + 1) lines) (ds ++ d) (bs ++ b)
  stands_met lines i ds d bs b line here taken ran s =
      let one : line ≡ s.line = some_same line s.line (sym here ∙ s.here) in
      let is : line.what ≡ Wait s.n = ap (λ (l : Numbered (AskLine A)). l.what) one ∙ s.waits in
      let wait : QueryLineRan (Wait s.n) d b = subst (λ (l : AskLine A). QueryLineRan l d b) is ran in
      let whole : ds ++ d ≡ s.before ++ (short_loads s.n (s.counts ++ wait.0) ++ final_load s.n ∷ []) = ap (λ (x : List (ReaderEvent A B)). ds ++ x) wait.1 ∙ (ap (λ (x : List (ReaderEvent A B)). x ++ (short_loads s.n wait.0 ++ final_load s.n ∷ [])) s.whole ∙ joined_loads s.before s.n s.counts wait.0) in
      let at_line : QueryLineRan line.what (short_loads s.n (s.counts ++ wait.0) ++ final_load s.n ∷ []) b = subst (λ (l : AskLine A). QueryLineRan l (short_loads s.n (s.counts ++ wait.0) ++ final_load s.n ∷ []) b) (sym is) (s.counts ++ wait.0, refl, wait.2) in
      rw (taken, whole) (asks_snoc (take i lines) line s.before (short_loads s.n (s.counts ++ wait.0) ++ final_load s.n ∷ []) bs b s.ran at_line)

  -- the same in the form in which the runners have it
  pub halts : (lines : List (Numbered (AskLine A))) (next i : ℕ) (bs₀ bs bs' : List B) (ds : List (ReaderEvent A B)) (n m : ℕ) (line : Numbered (AskLine A)) → slice_get lines i ≡ Some line → line.what ≡ Wait n → bs' ≡ bs
      → ((before : List (ReaderEvent A B)) → QueriesRan (take next lines) before bs₀ → QueriesRan (take i lines) (before ++ ds) bs)
      → (before : List (ReaderEvent A B)) → QueriesRan (take next lines) before bs₀ → IsHalted lines i (before ++ (ds ++ short_loads n (m ∷ []))) bs'
  halts lines next i bs₀ bs bs' ds n m line here is same ran before asks = rw (same, sym (append_assoc before ds (short_loads n (m ∷ [])))) (stands_first lines i (before ++ ds) bs n m line here is (ran before asks))

  pub goes_on : (lines : List (Numbered (AskLine A))) (next i : ℕ) (bs₀ bs bs' b : List B) (ds d : List (ReaderEvent A B)) (line : Numbered (AskLine A)) → take (i + 1) lines ≡ take i lines ++ line ∷ [] → bs' ≡ bs ++ b → QueryLineRan line.what d b
      → ((before : List (ReaderEvent A B)) → QueriesRan (take next lines) before bs₀ → QueriesRan (take i lines) (before ++ ds) bs)
      → (before : List (ReaderEvent A B)) → QueriesRan (take next lines) before bs₀ → QueriesRan (take (i + 1) lines) (before ++ (ds ++ d)) bs'
  goes_on lines next i bs₀ bs bs' b ds d line taken same ran_line ran before asks = rw (taken, same, sym (append_assoc before ds d)) (asks_snoc (take i lines) line (before ++ ds) d bs b (ran before asks) ran_line)

  pub halts_again : (lines : List (Numbered (AskLine A))) (i : ℕ) (bs bs' : List B) (n m : ℕ) (line : Numbered (AskLine A)) → slice_get lines i ≡ Some line → line.what ≡ Wait n → bs' ≡ bs
      → (before : List (ReaderEvent A B)) → IsHalted lines i before bs → IsHalted lines i (before ++ short_loads n (m ∷ [])) bs'
  halts_again lines i bs bs' n m line here is same before s = rw same (stands_more lines i before bs n m line here is s)

  pub resumes : (lines : List (Numbered (AskLine A))) (i : ℕ) (waits_at : Option ℕ) (bs bs₁ bs₂ b : List B) (d more : List (ReaderEvent A B)) (line : Numbered (AskLine A)) → slice_get lines i ≡ Some line → take (i + 1) lines ≡ take i lines ++ line ∷ [] → QueryLineRan line.what d b → bs₁ ≡ bs ++ b
      → ((before : List (ReaderEvent A B)) → QueriesRan (take (i + 1) lines) before bs₁ → RanTo lines waits_at (before ++ more) bs₂)
      → (before : List (ReaderEvent A B)) → IsHalted lines i before bs → RanTo lines waits_at (before ++ (d ++ more)) bs₂
  resumes lines i waits_at bs bs₁ bs₂ b d more line here taken ran_line same went before s =
      let met_now : QueriesRan (take (i + 1) lines) (before ++ d) bs₁ = rw same (stands_met lines i before d bs b line here taken ran_line s) in
      subst (λ (x : List (ReaderEvent A B)). RanTo lines waits_at x bs₂) (append_assoc before d more) (went (before ++ d) met_now)
