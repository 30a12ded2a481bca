-- Items that are given back, and those that a poll dispatches.
use Rattle.std.proofs.Common.{◌≡◌, ◌≢◌, ℕ, ◌+◌, ◌-◌, ◌%◌, ◌≤◌, ⊎_elim, inl, inr, Bool, true, false, not, cond, List, [], ◌∷◌, ◌++◌, append-nil, append_assoc, refl, sym, ap, ◌∙◌, subst, arith}
use Rattle.std.specs.Prelude.{All}
use Rattle.std.specs.List.{Contains, sum_by}
use Rattle.std.specs.List.Sorted.{IsPermutation}
use Rattle.std.specs.FinSet as set
use Rattle.std.specs.Ordering.{eq_by_cmp}
use Rattle.std.proofs.lemmas.List.Elements.{All-nil, All-cons, All-head, All-tail, Contains-append_cases, Contains-push_cases}
use Rattle.std.proofs.lemmas.List.Sums.{sum_by-cons}
use Rattle.std.proofs.lemmas.List.Sorted.{All-permutation, Contains-permutation, IsPermutation-trans, IsPermutation-append_right, IsPermutation-filter_both, sum_by-IsPermutation}
use Rattle.ck_words.specs.Buddies.{Arena, Piece, piece_cmp, with_pieces_out, IsPieceOut}
use Rattle.ck_words.proofs.Members.{out_remove, remove_keeps, tie_exact, tie_itself}
use Rattle.ck_epoch.specs.declared.item.Item.{Item}
use Rattle.ck_epoch.specs.declared.item.Retired.{Retired}
use Rattle.ck_epoch.specs.declared.answers.Poll.{Poll}
use Rattle.ck_epoch.specs.declared.answers.Poll.TheVariants.{Clear, Moved, Blocked}
use Rattle.ck_epoch.specs.Calls.{dispatched_items, pending_after}
use Rattle.ck_epoch.specs.Lists.{is_on, on, off, by_list}
use Rattle.ck_epoch.proofs.FourLists.{on-off, none_left}
use Rattle.ck_arena.specs.Arena.{retired_piece, AreItems, AreOnce, IsKept}

-- the items of one list, and the others
of_list : (i : ℕ) (xs : List Retired) → IsPermutation xs (on i xs ++ off i xs)
of_list i xs = IsPermutation-filter_both (is_on i) (λ (r : Retired). not (is_on i r)) (λ r. refl) xs

-- list by list
pub listed : (xs : List Retired) → IsPermutation xs (by_list xs)
listed xs =
    let o0 = off 0 xs in let o1 = off 1 o0 in let o2 = off 2 o1 in
    let one : on 1 o0 ≡ on 1 xs = on-off 1 0 (λ e. omega arith) xs in
    let two : on 2 o1 ≡ on 2 xs = on-off 2 1 (λ e. omega arith) o0 ∙ on-off 2 0 (λ e. omega arith) xs in
    let three : on 3 o2 ≡ on 3 xs = on-off 3 2 (λ e. omega arith) o1 ∙ (on-off 3 1 (λ e. omega arith) o0 ∙ on-off 3 0 (λ e. omega arith) xs) in
    let p3 : IsPermutation o2 (on 3 xs) = subst (IsPermutation o2) ((λ i. three i ++ none_left xs i) ∙ append-nil (on 3 xs)) (of_list 3 o2) in
    let p2 : IsPermutation o1 (on 2 xs ++ on 3 xs) = IsPermutation-trans o1 (on 2 xs ++ o2) (on 2 xs ++ on 3 xs) (subst (λ (ys : List Retired). IsPermutation o1 (ys ++ o2)) two (of_list 2 o1)) (IsPermutation-append_right (on 2 xs) o2 (on 3 xs) p3) in
    let p1 : IsPermutation o0 (on 1 xs ++ (on 2 xs ++ on 3 xs)) = IsPermutation-trans o0 (on 1 xs ++ o1) (on 1 xs ++ (on 2 xs ++ on 3 xs)) (subst (λ (ys : List Retired). IsPermutation o0 (ys ++ o1)) one (of_list 1 o0)) (IsPermutation-append_right (on 1 xs) o1 (on 2 xs ++ on 3 xs) p2) in
    IsPermutation-trans xs (on 0 xs ++ o0) (by_list xs) (of_list 0 xs) (IsPermutation-append_right (on 0 xs) o0 (on 1 xs ++ (on 2 xs ++ on 3 xs)) p1)

-- what a poll dispatches and what it leaves are the items that were pending
pub polled : (e : ℕ) (r : Poll) (xs : List Retired) → IsPermutation xs (dispatched_items e r xs ++ pending_after e r xs)
polled e (Clear n) xs =
    let l = (e - 2) % 4 in
    subst (IsPermutation xs) (sym (append-nil (on l xs ++ by_list (off l xs))))
    (IsPermutation-trans xs (on l xs ++ off l xs) (on l xs ++ by_list (off l xs)) (of_list l xs) (IsPermutation-append_right (on l xs) (off l xs) (by_list (off l xs)) (listed (off l xs))))
polled e (Moved n rec) xs =
    let l = (e - 2) % 4 in let m = (e - 1) % 4 in let ys = off l xs in
    subst (IsPermutation xs) (sym (append_assoc (on l xs) (on m ys) (off m ys)))
    (IsPermutation-trans xs (on l xs ++ ys) (on l xs ++ (on m ys ++ off m ys)) (of_list l xs) (IsPermutation-append_right (on l xs) ys (on m ys ++ off m ys) (of_list m ys)))
polled e (Blocked n rec epoch) xs = of_list ((e - 2) % 4) xs

module _ (IsItem : Item → Type 0) (place : ℕ) where
  abbrev counts : Piece → Retired → ℕ
  counts p k = cond (eq_by_cmp piece_cmp (retired_piece place k) p) 1 0

  cons_sum : (p : Piece) (k : Retired) (ks : List Retired) → sum_by (counts p) (k ∷ ks) ≡ counts p k + sum_by (counts p) ks
  cons_sum p k ks = sum_by-cons (counts p) k ks

  own_head : (k : Retired) (ks : List Retired) → AreItems IsItem (k ∷ ks) → IsItem k.item
  own_head k ks own = All-head (λ (j : Retired). IsItem j.item) k ks own

  own_tail : (k : Retired) (ks : List Retired) → AreItems IsItem (k ∷ ks) → AreItems IsItem ks
  own_tail k ks own = All-tail (λ (j : Retired). IsItem j.item) k ks own

  -- where none of these is the piece
  abbrev Differ : Retired → Retired → Type 0
  Differ k j = IsItem k.item → IsItem j.item → retired_piece place k ≢ retired_piece place j

  none_counts : (p : Piece) (k : Retired) (ks : List Retired) → retired_piece place k ≡ p → IsItem k.item → AreItems IsItem ks → All (Differ k) ks → sum_by (counts p) ks ≡ 0
  none_counts p k [] is mine own differ = refl
  none_counts p k (j ∷ ks) is mine own differ =
      let rest = none_counts p k ks is mine (own_tail j ks own) (All-tail (Differ k) j ks differ) in
      let other : counts p j ≡ 0 = by (eq_by_cmp piece_cmp (retired_piece place j) p) refl in cons_sum p j ks ∙ ((λ i. other i + rest i) ∙ refl)
    where
      by : (b : Bool) → eq_by_cmp piece_cmp (retired_piece place j) p ≡ b → counts p j ≡ 0
      by true test = absurd (All-head (Differ k) j ks differ mine (own_head j ks own) (is ∙ sym (tie_exact (retired_piece place j) p test)))
      by false test = ap (λ (b : Bool). cond {A = ℕ} b 1 0) test

  few : (p : Piece) (xs : List Retired) → AreItems IsItem xs → AreOnce IsItem place xs → sum_by (counts p) xs ≤ 1
  few p [] own once = omega arith
  few p (k ∷ ks) own once = by (few p ks (own_tail k ks own) once.1) (eq_by_cmp piece_cmp (retired_piece place k) p) refl
    where
      by : sum_by (counts p) ks ≤ 1 → (b : Bool) → eq_by_cmp piece_cmp (retired_piece place k) p ≡ b → sum_by (counts p) (k ∷ ks) ≤ 1
      by later true test =
          let one : counts p k ≡ 1 = ap (λ (b : Bool). cond {A = ℕ} b 1 0) test in
          let rest = none_counts p k ks (tie_exact (retired_piece place k) p test) (own_head k ks own) (own_tail k ks own) once.0 in let sum = cons_sum p k ks in omega arith
      by later false test =
          let none : counts p k ≡ 0 = ap (λ (b : Bool). cond {A = ℕ} b 1 0) test in
          let sum = cons_sum p k ks in omega arith

  none_same : (k : Retired) (ks : List Retired) → sum_by (counts (retired_piece place k)) ks ≡ 0 → All (Differ k) ks
  none_same k [] e = All-nil (Differ k)
  none_same k (j ∷ ks) e = All-cons (Differ k) j ks
      (λ mine other same. let one : counts (retired_piece place k) j ≡ 1 = ap (λ (p : Piece). cond {A = ℕ} (eq_by_cmp piece_cmp p (retired_piece place k)) 1 0) (sym same) ∙ ap (λ (b : Bool). cond {A = ℕ} b 1 0) (tie_itself (retired_piece place k)) in let sum = cons_sum (retired_piece place k) j ks in absurd (omega arith))
      (none_same k ks (let sum = cons_sum (retired_piece place k) j ks in omega arith))

  once_by_counts : (xs : List Retired) → ((p : Piece) → sum_by (counts p) xs ≤ 1) → AreOnce IsItem place xs
  once_by_counts [] h = tt
  once_by_counts (k ∷ ks) h =
      let p = retired_piece place k in
      let one : counts p k ≡ 1 = ap (λ (b : Bool). cond {A = ℕ} b 1 0) (tie_itself p) in
      (none_same k ks (let all = h p in let sum = cons_sum p k ks in omega arith), once_by_counts ks (λ q. let all = h q in let sum = cons_sum q k ks in omega arith))

  -- the arena is kept of these items in any order
  pub kept_reordered : (present : Piece) (xs ys : List Retired) (a : Arena) → AreItems IsItem xs → IsPermutation xs ys → IsKept IsItem place present xs a → IsKept IsItem place present ys a
  kept_reordered present xs ys a own moved kept = record {
    current = kept.current;
    retired = All-permutation (λ (k : Retired). IsItem k.item → IsPieceOut a (retired_piece place k) × (retired_piece place k ≢ present)) xs ys moved kept.retired;
    once = once_by_counts ys (λ p. let z = few p xs own kept.once in let e = sum_by-IsPermutation (counts p) xs ys moved in omega arith);
    only = λ p out. ⊎_elim (λ e. inl e) (λ w. inr (w.0, Contains-permutation xs ys w.0 moved w.1, w.2)) (kept.only p out);
  }

  -- of two pieces that are out one is given back
  still_out : (a : Arena) (present : Piece) (k : Retired) (ks : List Retired) → IsItem k.item → All (Differ k) ks → All (λ (j : Retired). IsItem j.item → IsPieceOut a (retired_piece place j) × (retired_piece place j ≢ present)) ks
      → All (λ (j : Retired). IsItem j.item → IsPieceOut (with_pieces_out a (set.remove a.out (retired_piece place k))) (retired_piece place j) × (retired_piece place j ≢ present)) ks
  still_out a present k [] mine differ out = All-nil (λ (j : Retired). IsItem j.item → IsPieceOut (with_pieces_out a (set.remove a.out (retired_piece place k))) (retired_piece place j) × (retired_piece place j ≢ present))
  still_out a present k (j ∷ ks) mine differ out =
      let Out : Retired → Type 0 = λ (i : Retired). IsItem i.item → IsPieceOut a (retired_piece place i) × (retired_piece place i ≢ present) in
      All-cons (λ (i : Retired). IsItem i.item → IsPieceOut (with_pieces_out a (set.remove a.out (retired_piece place k))) (retired_piece place i) × (retired_piece place i ≢ present)) j ks
      (λ other. (remove_keeps a.out (retired_piece place k) (retired_piece place j) (λ e. All-head (Differ k) j ks differ mine other (sym e)) (All-head Out j ks out other).0, (All-head Out j ks out other).1))
      (still_out a present k ks mine (All-tail (Differ k) j ks differ) (All-tail Out j ks out))

  -- the arena once the first of them is given back
  pub given : (present : Piece) (k : Retired) (ks : List Retired) (a b : Arena) → IsItem k.item → IsKept IsItem place present (k ∷ ks) a → b ≡ with_pieces_out a (set.remove a.out (retired_piece place k)) → IsKept IsItem place present ks b
  given present k ks a b mine kept is =
      let Out : Retired → Type 0 = λ (i : Retired). IsItem i.item → IsPieceOut a (retired_piece place i) × (retired_piece place i ≢ present) in
      subst (IsKept IsItem place present ks) (sym is) record {
        current = remove_keeps a.out (retired_piece place k) present (λ e. (All-head Out k ks kept.retired mine).1 (sym e)) kept.current;
        retired = still_out a present k ks mine kept.once.0 (All-tail Out k ks kept.retired);
        once = kept.once.1;
        only = λ p out. let o = out_remove a.out (retired_piece place k) p out in ⊎_elim (λ e. inl e)
            (λ w. ⊎_elim (λ first. absurd (o.0 (sym w.2 ∙ ap (retired_piece place) (alone w.0 first)))) (λ later. inr (w.0, later, w.2)) (Contains-append_cases (k ∷ []) ks w.0 w.1)) (kept.only p o.1);
      }
    where
      alone : (x : Retired) → Contains (k ∷ []) x → x ≡ k
      alone x h = ⊎_elim (λ none. absurd (let z = none.2 in omega arith)) (λ e. sym e) (Contains-push_cases [] k x h)
