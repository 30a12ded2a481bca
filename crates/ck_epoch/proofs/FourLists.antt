-- The four lists, dispatched one after the other, are all pending items.
use Rattle.std.proofs.Common.{◌≡◌, ◌≢◌, ℕ, ◌+◌, ◌%◌, Bool, true, false, not, cond, List, [], ◌∷◌, ◌++◌, length, refl, sym, ap, ◌∙◌, arith, eq-eqb, ne_eqb}
use Rattle.std.proofs.lemmas.List.{append_assoc, map-append}
use Rattle.std.proofs.lemmas.List.{length-append}
use Rattle.std.proofs.lemmas.List.Filters.{length-filter_both}
use mathlib.Core.Logic.{dite}
use native.Mathlib.Decide.{ℕ_discrete}
use Rattle.ck_epoch.specs.declared.item.Retired.{Retired}
use Rattle.ck_epoch.specs.State.{Retirement, queue, on_list, off_list, list_by_list}
use Rattle.ck_epoch.specs.Lists.{is_on, on, off, by_list}

off_same : (list : ℕ) (r : Retired) (xs : List Retired) → r.epoch % 4 ≡ list → off list (r ∷ xs) ≡ off list xs
off_same list r xs e = ap (λ (b : Bool). cond (not b) (r ∷ off list xs) (off list xs)) (eq-eqb (r.epoch % 4) list e)

off_other : (list : ℕ) (r : Retired) (xs : List Retired) → r.epoch % 4 ≢ list → off list (r ∷ xs) ≡ r ∷ off list xs
off_other list r xs n = ap (λ (b : Bool). cond (not b) (r ∷ off list xs) (off list xs)) (ne_eqb (r.epoch % 4) list n)

on_other : (list : ℕ) (r : Retired) (xs : List Retired) → r.epoch % 4 ≢ list → on list (r ∷ xs) ≡ on list xs
on_other list r xs n = ap (λ (b : Bool). cond b (r ∷ on list xs) (on list xs)) (ne_eqb (r.epoch % 4) list n)

-- the items of one list stand there still when another list is gone
pub on-off : (i j : ℕ) → i ≢ j → (xs : List Retired) → on i (off j xs) ≡ on i xs
on-off i j other [] = refl
on-off i j other (r ∷ xs) = dite (ℕ_discrete (r.epoch % 4) j)
    (λ (e : r.epoch % 4 ≡ j). ap (on i) (off_same j r xs e) ∙ (on-off i j other xs ∙ sym (on_other i r xs (λ z. other (sym z ∙ e)))))
    (λ (n : r.epoch % 4 ≢ j). ap (on i) (off_other j r xs n) ∙ ap (λ (ys : List Retired). cond (is_on i r) (r ∷ ys) ys) (on-off i j other xs))

-- and none of a list that is gone
pub on_gone : (list : ℕ) (xs : List Retired) → on list (off list xs) ≡ []
on_gone list [] = refl
on_gone list (r ∷ xs) = dite (ℕ_discrete (r.epoch % 4) list)
    (λ e. ap (on list) (off_same list r xs e) ∙ on_gone list xs)
    (λ n. ap (on list) (off_other list r xs n) ∙ (on_other list r (off list xs) n ∙ on_gone list xs))

abbrev off_all : List Retired → List Retired
off_all xs = off 3 (off 2 (off 1 (off 0 xs)))

pub none_left : (xs : List Retired) → off_all xs ≡ []
none_left [] = refl
none_left (r ∷ xs) = gone ∙ none_left xs
  where
    gone : off_all (r ∷ xs) ≡ off_all xs
    gone = dite (ℕ_discrete (r.epoch % 4) 0)
        (λ e. ap (λ ys. off 3 (off 2 (off 1 ys))) (off_same 0 r xs e))
        (λ n0. ap (λ ys. off 3 (off 2 (off 1 ys))) (off_other 0 r xs n0) ∙ dite (ℕ_discrete (r.epoch % 4) 1)
        (λ e. ap (λ ys. off 3 (off 2 ys)) (off_same 1 r (off 0 xs) e))
        (λ n1. ap (λ ys. off 3 (off 2 ys)) (off_other 1 r (off 0 xs) n1) ∙ dite (ℕ_discrete (r.epoch % 4) 2)
        (λ e. ap (off 3) (off_same 2 r (off 1 (off 0 xs)) e))
        (λ n2. ap (off 3) (off_other 2 r (off 1 (off 0 xs)) n2) ∙ off_same 3 r (off 2 (off 1 (off 0 xs))) (omega arith))))

map_cond : (b : Bool) (k : Retirement) (ks : List Retirement) → queue (cond b (k ∷ ks) ks) ≡ cond b (k.retired ∷ queue ks) (queue ks)
map_cond true k ks = refl
map_cond false k ks = refl

-- what the dispatches of the four lists take out, one after the other
in_order : (xs : List Retired) → ((on 0 xs ++ on 1 (off 0 xs)) ++ on 2 (off 1 (off 0 xs))) ++ on 3 (off 2 (off 1 (off 0 xs))) ≡ by_list xs
in_order xs =
    let o0 = off 0 xs in let o1 = off 1 o0 in let o2 = off 2 o1 in
    append_assoc (on 0 xs ++ on 1 o0) (on 2 o1) (on 3 o2)
    ∙ (append_assoc (on 0 xs) (on 1 o0) (on 2 o1 ++ on 3 o2)
    ∙ (ap (λ (ys : List Retired). on 0 xs ++ (ys ++ (on 2 o1 ++ on 3 o2))) (on-off 1 0 (λ e. omega arith) xs)
    ∙ (ap (λ (ys : List Retired). on 0 xs ++ (on 1 xs ++ (ys ++ on 3 o2))) (on-off 2 1 (λ e. omega arith) o0 ∙ on-off 2 0 (λ e. omega arith) xs)
    ∙ ap (λ (ys : List Retired). on 0 xs ++ (on 1 xs ++ (on 2 xs ++ ys)))
    (on-off 3 2 (λ e. omega arith) o1 ∙ (on-off 3 1 (λ e. omega arith) o0 ∙ on-off 3 0 (λ e. omega arith) xs)))))

one_list : (list : ℕ) (xs : List Retired) → length (on list xs) + length (off list xs) ≡ length xs
one_list list xs = length-filter_both (is_on list) (λ (r : Retired). not (is_on list r)) (λ r. refl) xs

-- they are as many as were pending
pub length_by_list : (xs : List Retired) → length (by_list xs) ≡ length xs
length_by_list xs =
    let o0 = off 0 xs in let o1 = off 1 o0 in let o2 = off 2 o1 in
    let e = ap length (sym (in_order xs)) in
    let a = length-append ((on 0 xs ++ on 1 o0) ++ on 2 o1) (on 3 o2) in
    let b = length-append (on 0 xs ++ on 1 o0) (on 2 o1) in
    let c = length-append (on 0 xs) (on 1 o0) in
    let p = one_list 0 xs in let q = one_list 1 o0 in let r = one_list 2 o1 in let s = one_list 3 o2 in
    let z = ap length (none_left xs) in
    omega arith

-- the writer's queue has the lists that its account tells of
pub queue_off : (list : ℕ) (ks : List Retirement) → queue (off_list list ks) ≡ off list (queue ks)
queue_off list [] = refl
queue_off list (k ∷ ks) = map_cond (not (is_on list k.retired)) k (off_list list ks) ∙ ap (λ (rs : List Retired). cond (not (is_on list k.retired)) (k.retired ∷ rs) rs) (queue_off list ks)

pub queue_on : (list : ℕ) (ks : List Retirement) → queue (on_list list ks) ≡ on list (queue ks)
queue_on list [] = refl
queue_on list (k ∷ ks) = map_cond (is_on list k.retired) k (on_list list ks) ∙ ap (λ (rs : List Retired). cond (is_on list k.retired) (k.retired ∷ rs) rs) (queue_on list ks)

queue_both : (xs ys : List Retirement) (rs ss : List Retired) → queue xs ≡ rs → queue ys ≡ ss → queue (xs ++ ys) ≡ rs ++ ss
queue_both xs ys rs ss e f = map-append (λ (k : Retirement). k.retired) xs ys ∙ λ i. e i ++ f i

pub queue_by_list : (ks : List Retirement) → queue (list_by_list ks) ≡ by_list (queue ks)
queue_by_list ks = queue_both (on_list 0 ks) (on_list 1 ks ++ (on_list 2 ks ++ on_list 3 ks)) (on 0 (queue ks)) (on 1 (queue ks) ++ (on 2 (queue ks) ++ on 3 (queue ks))) (queue_on 0 ks)
    (queue_both (on_list 1 ks) (on_list 2 ks ++ on_list 3 ks) (on 1 (queue ks)) (on 2 (queue ks) ++ on 3 (queue ks)) (queue_on 1 ks)
    (queue_both (on_list 2 ks) (on_list 3 ks) (on 2 (queue ks)) (on 3 (queue ks)) (queue_on 2 ks) (queue_on 3 ks)))

-- what was dispatched before, and then these
pub queue_behind : (before items : List Retirement) (rs : List Retired) → queue items ≡ rs → queue (before ++ items) ≡ queue before ++ rs
queue_behind before items rs e = queue_both before items (queue before) rs refl e
