-- Fronts of query files.
use Rattle.std.proofs.Common.{◌≡◌, ℕ, zero, suc, ◌+◌, ◌-◌, ◌<◌, ◌≤◌, nat_lt, inl, inr, Bool, true, false, ◌||◌, ◌&&◌, drop, take, List, [], ◌∷◌, ◌++◌, length, refl, ap, Some, arith, ◌∙◌, sym, subst, append_assoc, eq-eqb}
use Rattle.std.specs.List.{slice_get, list_any, AllByRecursion}
use Rattle.std.proofs.lemmas.Bool.Decides.{nat_tests}
use Rattle.std.proofs.lemmas.List.{length_push}
use Rattle.std.proofs.Math.Seq.{drop-length}
use Rattle.ck_script.specs.declared.line.Numbered.{Numbered}
use Rattle.ck_script.specs.declared.line.UpLine.{UpLine}
use Rattle.ck_script.specs.declared.line.UpLine.TheVariants.{Hold}
use Rattle.ck_script.specs.declared.line.AskLine.{AskLine}
use Rattle.ck_script.specs.declared.line.AskLine.TheVariants.{Ask, Wait}
use Rattle.ck_script.specs.declared.circle.Front.{Front}
use Rattle.ck_script.specs.Script.{said_of, queries}
use Rattle.ck_script.specs.Checks.{waits_for_more}
use Rattle.ck_script.specs.Fronts.{is_circle_with, IsFront, IsStop, IsLonger}
use Rattle.ck_script.proofs.Standing.{said_there}

pub lt_false : (a b : ℕ) → b ≤ a → nat_lt a b ≡ false
lt_false a b le = grind (arith, nat_tests)

pub lt_true : (a b : ℕ) → a < b → nat_lt a b ≡ true
lt_true a b lt = grind (arith, nat_tests)

enough_grows : {A : Type 0} (m n : ℕ) (done : List (A × ℕ)) → m ≤ n → AllByRecursion (λ q. q.1 ≤ m) done → AllByRecursion (λ q. q.1 ≤ n) done
enough_grows m n [] le all = tt
enough_grows m n (q ∷ done) le all = (omega (arith, all.0), enough_grows m n done le all.1)

enough_push : {A : Type 0} (m : ℕ) (done : List (A × ℕ)) (q : A × ℕ) → AllByRecursion (λ q. q.1 ≤ m) done → q.1 ≤ m → AllByRecursion (λ q. q.1 ≤ m) (done ++ q ∷ [])
enough_push m [] q all last = (last, tt)
enough_push m (x ∷ done) q all last = (all.0, enough_push m done q all.1 last)

-- a front stays one where more updates stand before
pub front_grows : {A : Type 0} (m n : ℕ) (lines : List (Numbered (AskLine A))) (front : Front) → m ≤ n → IsFront m lines front → IsFront n lines front
front_grows m n lines front le f = record {
  done = f.done;
  whole = f.whole;
  count = f.count;
  enough = enough_grows m n f.done le f.enough;
  room = f.room;
  within = f.within;
}

-- one more line
pub front_more : {A : Type 0} (m : ℕ) (lines : List (Numbered (AskLine A))) (old new : Front) (what : AskLine A) → IsFront m lines old → old.at < length lines → slice_get (said_of lines) old.at ≡ Some what → IsLonger m old what new → IsFront m lines new
front_more {A} m lines old new what f lt is longer = one_more what (said_there lines old.at what is) longer
  where
    rest : List (AskLine A)
    rest = said_of (drop (old.at + 1) lines)

    one_more : (what : AskLine A) → said_of (drop old.at lines) ≡ what ∷ rest → IsLonger m old what new → IsFront m lines new
    one_more (Ask key) e long =
        subst (IsFront m lines) (sym long.1) (record {
          done = f.done ++ (key, old.low) ∷ [];
          whole = f.whole ∙ (ap (λ qs. f.done ++ queries old.low qs) e ∙ sym (append_assoc f.done ((key, old.low) ∷ []) (queries old.low (said_of (drop (old.at + 1) lines)))));
          count = length_push f.done (key, old.low) ∙ ap (λ n. n + 1) f.count;
          enough = enough_push m f.done (key, old.low) f.enough long.0;
          room = omega (arith, f.room);
          within = omega arith;
        })
    one_more (Wait count) e long =
        subst (IsFront m lines) (sym long) (record {
          done = f.done;
          whole = f.whole ∙ ap (λ qs. f.done ++ queries old.low qs) e;
          count = f.count;
          enough = f.enough;
          room = omega (arith, f.room);
          within = omega arith;
        })

-- of queries that begin with those of a front, those of the front pass no test for more
any_past : {A : Type 0} (m n : ℕ) (done rest : List (A × ℕ)) → AllByRecursion (λ q. q.1 ≤ m) done → list_any (λ q. nat_lt m q.1) (take n (done ++ rest)) ≡ list_any (λ q. nat_lt m q.1) (take (n - length done) rest)
any_past {A} m n [] rest all = ap (λ k. list_any (λ (q : A × ℕ). nat_lt m q.1) (take k rest)) (let e : n ≡ n - 0 = omega arith in e)
any_past {A} m zero (q ∷ done) rest all = ap (λ k. list_any (λ (q : A × ℕ). nat_lt m q.1) (take k rest)) (let e : 0 ≡ 0 - suc (length done) = omega arith in e)
any_past {A} m (suc n) (q ∷ done) rest all =
    let here = ap (λ b. b || list_any (λ (q : A × ℕ). nat_lt m q.1) (take n (done ++ rest))) (lt_false m q.1 all.0) in
    let place : n - length done ≡ suc n - suc (length done) = omega arith in
    here ∙ (any_past m n done rest all.1 ∙ ap (λ k. list_any (λ (q : A × ℕ). nat_lt m q.1) (take k rest)) place)

any_none : (A : Type 0) (m k : ℕ) → list_any {X = A × ℕ} (λ q. nat_lt m q.1) (take k []) ≡ false
any_none A m zero = refl
any_none A m (suc k) = refl

any_first : {A : Type 0} (m k : ℕ) (q : A × ℕ) (more : List (A × ℕ)) → m < q.1 → list_any (λ q. nat_lt m q.1) (take k (q ∷ more)) ≡ nat_lt 0 k
any_first m zero q more above = refl
any_first {A} m (suc k) q more above =
    ap (λ b. b || list_any (λ (q : A × ℕ). nat_lt m q.1) (take k more)) (lt_true m q.1 above) ∙ sym (lt_true 0 (suc k) (omega arith))

-- a front that ends before the file does
pub wait_at : {A : Type 0} (m n : ℕ) (lines : List (Numbered (AskLine A))) (front : Front) → IsFront m lines front → IsStop m lines front → front.at < length lines → waits_for_more m n (said_of lines) ≡ nat_lt front.queries n
wait_at m n lines front f (inl ends) lt = absurd (omega arith)
wait_at {A} m n lines front f (inr (key, more, is, above)) lt =
    let whole = f.whole ∙ ap (λ qs. f.done ++ queries front.low qs) is in
    let past = any_past m n f.done ((key, front.low) ∷ queries front.low more) f.enough in
    let first = any_first m (n - length f.done) (key, front.low) (queries front.low more) above in
    ap (λ qs. list_any (λ (q : A × ℕ). nat_lt m q.1) (take n qs)) whole ∙ (past ∙ (first ∙ test (length f.done) front.queries f.count))
  where
    test : (d k : ℕ) → d ≡ k → nat_lt 0 (n - d) ≡ nat_lt k n
    test d k same = grind (arith, nat_tests)

-- a front that is the whole file
pub wait_none : {A : Type 0} (m n : ℕ) (lines : List (Numbered (AskLine A))) (front : Front) → IsFront m lines front → length lines ≤ front.at → waits_for_more m n (said_of lines) ≡ false
wait_none {A} m n lines front f ends =
    let at : front.at ≡ length lines = omega (arith, f.within) in
    let none : drop front.at lines ≡ [] = ap (λ k. drop k lines) at ∙ drop-length lines in
    let whole = f.whole ∙ ap (λ ls. f.done ++ queries front.low (said_of ls)) none in
    ap (λ qs. list_any (λ (q : A × ℕ). nat_lt m q.1) (take n qs)) whole ∙ (any_past m n f.done [] f.enough ∙ any_none A m (n - length f.done))

-- a `hold` line for this file
pub hold_with : {C A : Type 0} (f m : ℕ) (asks : List (AskLine A)) (what : UpLine C) (file n : ℕ) (b : Bool) → what ≡ Hold file n → file ≡ f → waits_for_more m n asks ≡ b → b ≡ is_circle_with f asks m what
hold_with f m asks what file n b is same waits =
    sym (ap (is_circle_with f asks m) is ∙ (ap (λ t. t && waits_for_more m n asks) (eq-eqb file f same) ∙ waits))
