-- The answers that wait, one after the other.
use Rattle.std.proofs.Common.{◌≡◌, ℕ, zero, suc, ◌-◌, List, [], ◌∷◌, ◌++◌, length, length-drop, length-append, drop, refl, sym, ap, ◌∙◌, subst, arith}
use Rattle.std.specs.FinSet as set
use Rattle.std.specs.List.Sorted.{IsPermutation}
use Rattle.std.proofs.lemmas.List.{length-map, drop_all}
use Rattle.std.proofs.lemmas.List.Elements.{All-head, All-tail}
use Rattle.std.proofs.lemmas.List.Sorted.{All-permutation}
use Rattle.ck_run.proofs.Lists.{first_is, rest_is}
use Rattle.ck_words.specs.declared.back.Back.{Back}
use Rattle.ck_words.specs.Buddies.{Arena, Piece, piece, with_pieces_out, IsPieceOut}
use Rattle.ck_epoch.specs.declared.item.Item.{Item}
use Rattle.ck_epoch.specs.declared.item.Retired.{Retired}
use Rattle.ck_epoch.specs.Lists.{homes}
use Rattle.ck_epoch.specs.State.{Retirement, TokenState, queue}
use Rattle.ck_arena.specs.Arena.{retired_piece, unreturned, AreBacks, GoHome, IsOutBeside, KeepsAll}
use Rattle.ck_arena.proofs.Giving.{given, kept_reordered}

drop_one : (j : ℕ) (xs : List Retired) → drop 1 (drop j xs) ≡ drop (suc j) xs
drop_one zero xs = refl
drop_one (suc j) [] = refl
drop_one (suc j) (x ∷ xs) = drop_one j xs

drop_past : (xs ys : List Retired) → drop (length xs) (xs ++ ys) ≡ ys
drop_past [] ys = refl
drop_past (x ∷ xs) ys = drop_past xs ys

-- where no answer waits, what isn't given back is pending
pub none_waits : (t : TokenState) → unreturned t [] ≡ queue t.pending
none_waits t = ap (λ (items : List Retired). items ++ queue t.pending) (drop_all (length t.dispatched - 0) (queue t.dispatched) (let long = length-map t.dispatched (λ (k : Retirement). k.retired) in omega arith))

module _ (home : Item → Back) where
  -- the item of the first of them
  first_item : (b : Back) (bs : List Back) (items : List Retired) → b ∷ bs ≡ homes home items → (k : Retired) × (b ≡ home k.item) × (bs ≡ homes home (drop 1 items)) × (items ≡ k ∷ drop 1 items)
  first_item b bs [] e = absurd cc
  first_item b bs (k ∷ ks) e = (k, first_is b (home k.item) bs (homes home ks) e, rest_is b (home k.item) bs (homes home ks) e, refl)

  pub next_is : (t : TokenState) (b : Back) (bs : List Back) → AreBacks home t (b ∷ bs) → (k : Retired) × (b ≡ home k.item) × (unreturned t (b ∷ bs) ≡ k ∷ unreturned t bs) × AreBacks home t bs
  next_is t b bs backs =
      let q = queue t.dispatched in let m = length t.dispatched in let j = m - suc (length bs) in
      let w = first_item b bs (drop j q) backs in
      let long : length q ≡ m = length-map t.dispatched (λ (k : Retirement). k.retired) in
      let many : suc (length bs) ≡ length (drop j q) = ap length backs ∙ length-map (drop j q) (λ (k : Retired). home k.item) in
      let left : length (drop j q) ≡ length q - j = length-drop j q in
      let next : suc j ≡ m - length bs = omega arith in
      let rest : drop 1 (drop j q) ≡ drop (m - length bs) q = drop_one j q ∙ ap (λ (n : ℕ). drop n q) next in (
        w.0,
        w.1,
        ap (λ (items : List Retired). items ++ queue t.pending) w.3 ∙ ap (λ (items : List Retired). w.0 ∷ (items ++ queue t.pending)) rest,
        w.2 ∙ ap (homes home) rest,
      )

  last_ones : (t u : TokenState) (items : List Retired) (waiting : List Back) → waiting ≡ homes home items → queue u.dispatched ≡ queue t.dispatched ++ items → drop (length u.dispatched - length waiting) (queue u.dispatched) ≡ items
  last_ones t u items waiting are more =
      let a = length-map u.dispatched (λ (k : Retirement). k.retired) in
      let b = ap length more ∙ length-append (queue t.dispatched) items in
      let c = ap length are ∙ length-map items (λ (k : Retired). home k.item) in
      let many : length u.dispatched - length waiting ≡ length (queue t.dispatched) = omega arith in
      (λ i. drop (many i) (more i)) ∙ drop_past (queue t.dispatched) items

  -- the arena, once some pending items were dispatched and others stay pending
  pub after_dispatch : (IsItem : Item → Type 0) (place : ℕ) (present : Piece) (t u : TokenState) (items left : List Retired) (before waiting : List Back) (a : Arena) → before ≡ [] → waiting ≡ before ++ homes home items
      → queue u.dispatched ≡ queue t.dispatched ++ items → queue u.pending ≡ left → IsPermutation (queue t.pending) (items ++ left) → KeepsAll IsItem place present (unreturned t before) a → KeepsAll IsItem place present (unreturned u waiting) a
  after_dispatch IsItem place present t u items left before waiting a given wait more rest moved kept =
      let last = last_ones t u items waiting (wait ∙ ap (λ (ws : List Back). ws ++ homes home items) given) more in
      let pending = subst (λ (ks : List Retired). KeepsAll IsItem place present ks a) (ap (unreturned t) given ∙ none_waits t) kept in
      subst (λ (ks : List Retired). KeepsAll IsItem place present ks a) (λ i. sym last i ++ sym rest i)
      (kept_reordered IsItem place present (queue t.pending) (items ++ left) a pending.1 moved pending.0, All-permutation (λ (k : Retired). IsItem k.item) (queue t.pending) (items ++ left) moved pending.1)

  -- the arena, once the first of them is given back
  pub one_given : (IsItem : Item → Type 0) (place : ℕ) (present : Piece) (t : TokenState) (b : Back) (bs : List Back) (a : Arena) → GoHome home place → AreBacks home t (b ∷ bs) → KeepsAll IsItem place present (unreturned t (b ∷ bs)) a
      → IsPieceOut a (piece b.at b.log) × ((a' : Arena) → a' ≡ with_pieces_out a (set.remove a.out (piece b.at b.log)) → KeepsAll IsItem place present (unreturned t bs) a')
  one_given IsItem place present t b bs a own_homes backs kept =
      let next = next_is t b bs backs in let k = next.0 in
      let same : piece b.at b.log ≡ retired_piece place k = ap (λ (x : Back). piece x.at x.log) next.1 ∙ own_homes k in
      let all = subst (λ (ks : List Retired). KeepsAll IsItem place present ks a) next.2 kept in
      let mine = All-head (λ (j : Retired). IsItem j.item) k (unreturned t bs) all.1 in (
        subst (IsPieceOut a) (sym same) (All-head (IsOutBeside IsItem place a present) k (unreturned t bs) all.0.retired mine).0,
        λ a' is. (given IsItem place present k (unreturned t bs) a a' mine all.0 (is ∙ ap (λ (p : Piece). with_pieces_out a (set.remove a.out p)) same), All-tail (λ (j : Retired). IsItem j.item) k (unreturned t bs) all.1),
      )
