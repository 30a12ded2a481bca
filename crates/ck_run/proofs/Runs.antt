-- Runs that are put together, runs that are one step longer, and where what a token did stands in a run.
use Rattle.std.proofs.Common.{◌≡◌, ℕ, zero, suc, ◌<◌, Bool, true, false, List, [], ◌∷◌, ◌++◌, length, cond, ◌==◌, eq-eqb, eqb-true, ne_eqb, ◌≢◌, refl, sym, ap, ◌∙◌, append-nil, arith}
use mathlib.Core.Logic.{dite}
use native.Mathlib.Decide.{ℕ_discrete}
use Rattle.ck_run.specs.declared.account.Entry.{Entry}
use Rattle.ck_run.specs.Run.{Run, words_after, replay, IsTrueRun, account, index_in}
use Rattle.ck_run.proofs.Lists.{first_is, rest_is}

pub replay-append : (words : List ℕ) (run more : Run) → replay words (run ++ more) ≡ replay (replay words run) more
replay-append words [] more = refl
replay-append words (x ∷ run) more = replay-append (words_after words x.1.step) run more

pub true_append : (words : List ℕ) (run more : Run) → IsTrueRun words run → IsTrueRun (replay words run) more → IsTrueRun words (run ++ more)
true_append words [] more t u = u
true_append words (x ∷ run) more t u = (t.0, true_append (words_after words x.1.step) run more t.1 u)

pub true_parts : (words : List ℕ) (run more : Run) → IsTrueRun words (run ++ more) → IsTrueRun words run × IsTrueRun (replay words run) more
true_parts words [] more t = (tt, t)
true_parts words (x ∷ run) more t = let r = true_parts (words_after words x.1.step) run more t.1 in ((t.0, r.0), r.1)

longer : (b : Bool) (e : Entry) (xs ys zs : List Entry) → zs ≡ xs ++ ys → cond b (e ∷ zs) zs ≡ cond b (e ∷ xs) xs ++ ys
longer true e xs ys zs h = ap (λ (l : List Entry). e ∷ l) h
longer false e xs ys zs h = h

pub account-append : (n : ℕ) (run more : Run) → account n (run ++ more) ≡ account n run ++ account n more
account-append n [] more = refl
account-append n (x ∷ run) more = longer (x.0 == n) x.1 (account n run) (account n more) (account n (run ++ more)) (account-append n run more)

pub account_here : (run : Run) (n m : ℕ) (e : Entry) → n ≡ m → account m (run ++ (n, e) ∷ []) ≡ account m run ++ e ∷ []
account_here run n m e h = account-append m run ((n, e) ∷ []) ∙ ap (λ (b : Bool). account m run ++ cond b (e ∷ []) []) (eq-eqb n m h)

pub account_else : (run : Run) (n m : ℕ) (e : Entry) → n ≢ m → account m (run ++ (n, e) ∷ []) ≡ account m run
account_else run n m e h = account-append m run ((n, e) ∷ []) ∙ (ap (λ (b : Bool). account m run ++ cond b (e ∷ []) []) (ne_eqb n m h) ∙ append-nil (account m run))

account_mine : (x : ℕ × Entry) (run : Run) (n : ℕ) → x.0 ≡ n → account n (x ∷ run) ≡ x.1 ∷ account n run
account_mine x run n e = ap (λ (b : Bool). cond b (x.1 ∷ account n run) (account n run)) (eq-eqb x.0 n e)

account_other : (x : ℕ × Entry) (run : Run) (n : ℕ) → x.0 ≢ n → account n (x ∷ run) ≡ account n run
account_other x run n e = ap (λ (b : Bool). cond b (x.1 ∷ account n run) (account n run)) (ne_eqb x.0 n e)

-- the moment at which the token n had made the first entries of its account
pub record Cut (n : ℕ) (run : Run) (es : List Entry) : Type 0 where
  pub before : Run
  pub since : Run
  pub whole : run ≡ before ++ since
  pub made : account n before ≡ es

pub cut : (n : ℕ) (run : Run) (es more : List Entry) → account n run ≡ es ++ more → Cut n run es
cut n run [] more h = record { before = []; since = run; whole = refl; made = refl }
cut n [] (y ∷ es) more h = absurd cc
cut n (x ∷ run) (y ∷ es) more h = dite (ℕ_discrete x.0 n)
    (λ (same : x.0 ≡ n).
    let all : x.1 ∷ account n run ≡ y ∷ (es ++ more) = sym (account_mine x run n same) ∙ h in
    let c = cut n run es more (rest_is x.1 y (account n run) (es ++ more) all) in
    record {
      before = x ∷ c.before;
      since = c.since;
      whole = ap (λ (l : Run). x ∷ l) c.whole;
      made = account_mine x c.before n same ∙ λ i. first_is x.1 y (account n run) (es ++ more) all i ∷ c.made i;
    })
    (λ (other : x.0 ≢ n).
    let c = cut n run (y ∷ es) more (sym (account_other x run n other) ∙ h) in
    record {
      before = x ∷ c.before;
      since = c.since;
      whole = ap (λ (l : Run). x ∷ l) c.whole;
      made = account_other x c.before n other ∙ c.made;
    })

-- where in a run an entry of the token n stands, which it made after these entries
pub record Split (n : ℕ) (run : Run) (es : List Entry) (e : Entry) : Type 0 where
  pub past : Run
  pub rest : Run
  pub parts : run ≡ past ++ (n, e) ∷ rest
  pub before : account n past ≡ es

nil-cons : (es : List Entry) (e : Entry) (more : List Entry) → [] ≡ es ++ e ∷ more → ⊥
nil-cons [] e more h = cc
nil-cons (x ∷ es) e more h = cc

-- With no entries more, where its last entry stands
pub split : (n : ℕ) (run : Run) (es : List Entry) (e : Entry) (more : List Entry) → account n run ≡ es ++ e ∷ more → Split n run es e
split n [] es e more h = absurd (nil-cons es e more h)
split n (x ∷ run) es e more h = by_test (λ ys l. split n run ys e more l) (x.0 == n) refl
  where
    goes_on : (b : Bool) → (x.0 == n) ≡ b → (fs : List Entry) → cond b (x.1 ∷ fs) fs ≡ es → Split n run fs e → Split n (x ∷ run) es e
    goes_on b test fs is s = record {
      past = x ∷ s.past;
      rest = s.rest;
      parts = ap (λ (r : Run). x ∷ r) s.parts;
      before = ap (λ (c : Bool). cond c (x.1 ∷ account n s.past) (account n s.past)) test ∙ (ap (λ (gs : List Entry). cond b (x.1 ∷ gs) gs) s.before ∙ is);
    }

    here : (es : List Entry) → x.0 ≡ n → x.1 ∷ account n run ≡ es ++ e ∷ more → ((ys : List Entry) → x.1 ∷ ys ≡ es → account n run ≡ ys ++ e ∷ more → Split n (x ∷ run) es e) → Split n (x ∷ run) es e
    here [] same k again = record { past = []; rest = run; parts = ap (λ (y : ℕ × Entry). y ∷ run) (λ i. (same i, first_is x.1 e (account n run) more k i)); before = refl }
    here (y ∷ ys) same k again = again ys (ap (λ (z : Entry). z ∷ ys) (first_is x.1 y (account n run) (ys ++ e ∷ more) k)) (rest_is x.1 y (account n run) (ys ++ e ∷ more) k)

    by_test : ((ys : List Entry) → account n run ≡ ys ++ e ∷ more → Split n run ys e) → (b : Bool) → (x.0 == n) ≡ b → Split n (x ∷ run) es e
    by_test again true z = let k : x.1 ∷ account n run ≡ es ++ e ∷ more = sym (ap (λ (c : Bool). cond c (x.1 ∷ account n run) (account n run)) z) ∙ h in
        here es (eqb-true x.0 n z) k (λ ys is l. goes_on true z ys is (again ys l))
    by_test again false z = goes_on false z es refl (again es (sym (ap (λ (c : Bool). cond c (x.1 ∷ account n run) (account n run)) z) ∙ h))

-- how many entries the token n has in a run
abbrev pub count : Run → ℕ → ℕ
count run n = length (account n run)

count_mine : (x : ℕ × Entry) (run : Run) (n : ℕ) → x.0 ≡ n → count (x ∷ run) n ≡ suc (count run n)
count_mine x run n e = ap length (account_mine x run n e)

count_other : (x : ℕ × Entry) (run : Run) (n : ℕ) → x.0 ≢ n → count (x ∷ run) n ≡ count run n
count_other x run n e = ap length (account_other x run n e)

index_first : (x : ℕ × Entry) (run : Run) (n : ℕ) → x.0 ≡ n → index_in (x ∷ run) n 0 ≡ 0
index_first x run n e = ap (λ (b : Bool). cond b 0 (suc (index_in run n 0))) (eq-eqb x.0 n e)

index_later : (x : ℕ × Entry) (run : Run) (n : ℕ) → x.0 ≢ n → index_in (x ∷ run) n 0 ≡ suc (index_in run n 0)
index_later x run n e = ap (λ (b : Bool). cond b 0 (suc (index_in run n 0))) (ne_eqb x.0 n e)

index_mine : (x : ℕ × Entry) (run : Run) (n i : ℕ) → x.0 ≡ n → index_in (x ∷ run) n (suc i) ≡ suc (index_in run n i)
index_mine x run n i e = ap (λ (b : Bool). suc (index_in run n (cond b i (suc i)))) (eq-eqb x.0 n e)

index_other : (x : ℕ × Entry) (run : Run) (n i : ℕ) → x.0 ≢ n → index_in (x ∷ run) n (suc i) ≡ suc (index_in run n (suc i))
index_other x run n i e = ap (λ (b : Bool). suc (index_in run n (cond b i (suc i)))) (ne_eqb x.0 n e)

-- an entry stays where it is as the run goes on
pub index_stays : (run more : Run) (n i : ℕ) → i < count run n → index_in (run ++ more) n i ≡ index_in run n i
index_stays [] more n i l = absurd (omega arith)
index_stays (x ∷ run) more n zero l = dite (ℕ_discrete x.0 n)
    (λ (e : x.0 ≡ n). index_first x (run ++ more) n e ∙ sym (index_first x run n e))
    (λ (o : x.0 ≢ n). let m = count_other x run n o in index_later x (run ++ more) n o ∙ (ap suc (index_stays run more n 0 (omega arith)) ∙ sym (index_later x run n o)))
index_stays (x ∷ run) more n (suc i) l = dite (ℕ_discrete x.0 n)
    (λ (e : x.0 ≡ n). let m = count_mine x run n e in index_mine x (run ++ more) n i e ∙ (ap suc (index_stays run more n i (omega arith)) ∙ sym (index_mine x run n i e)))
    (λ (o : x.0 ≢ n). let m = count_other x run n o in index_other x (run ++ more) n i o ∙ (ap suc (index_stays run more n (suc i) (omega arith)) ∙ sym (index_other x run n i o)))

-- and before its end
pub index_below : (run : Run) (n i : ℕ) → i < count run n → index_in run n i < length run
index_below [] n i l = absurd (omega arith)
index_below (x ∷ run) n zero l = dite (ℕ_discrete x.0 n)
    (λ (e : x.0 ≡ n). let z = index_first x run n e in omega arith)
    (λ (o : x.0 ≢ n). let m = count_other x run n o in let z = index_later x run n o in let h = index_below run n 0 (omega arith) in omega arith)
index_below (x ∷ run) n (suc i) l = dite (ℕ_discrete x.0 n)
    (λ (e : x.0 ≡ n). let m = count_mine x run n e in let z = index_mine x run n i e in let h = index_below run n i (omega arith) in omega arith)
    (λ (o : x.0 ≢ n). let m = count_other x run n o in let z = index_other x run n i o in let h = index_below run n (suc i) (omega arith) in omega arith)
