-- The number of free words.
use Rattle.std.proofs.Common.{◌≡◌, ℕ, zero, suc, Bool, true, false, ◌⊎◌, inl, inr, ◌+◌, ◌-◌, ◌*◌, ◌^◌, ◌<◌, ◌≤◌, min, if◌then◌else◌, arith, refl, sym, ap, subst, ◌∙◌, true≢false}
use Rattle.std.proofs.lemmas.Bool.{cases_eq}
use Rattle.std.specs.FinSet as set
use Rattle.ck_words.specs.Buddies.{Piece, piece_cmp, Arena, with_pieces_out, IsPieceOut, PieceCovers, IsFree, IsAlignedIn, ArePiecesApart, is_word_out, free_below, free_words}
use Rattle.ck_words.proofs.Members.{same_piece, same_test, same_members, out_insert, insert_itself, insert_keeps, out_remove, remove_keeps, word_out-from_test, test-from_word_out}
use Rattle.ck_words.proofs.Words.{lt_or_ge}

not_true : (b : Bool) → (b ≡ true → ⊥) → b ≡ false
not_true true = λ no. absurd (no refl)
not_true false = λ no. refl

abbrev ones : Bool → ℕ
ones b = if b then 0 else 1

module _ (a b : Arena) (same_first : b.first ≡ a.first) (start len : ℕ)
    (outside : (w : ℕ) → ¬ ((a.first + start ≤ w) × (w < a.first + start + len)) → is_word_out b w ≡ is_word_out a w)
    (free : (w : ℕ) → a.first + start ≤ w → w < a.first + start + len → is_word_out a w ≡ false)
    (out : (w : ℕ) → a.first + start ≤ w → w < a.first + start + len → is_word_out b w ≡ true) where
  word_b : (n : ℕ) → is_word_out b (b.first + n) ≡ is_word_out b (a.first + n)
  word_b n = ap (λ f. is_word_out b (f + n)) same_first

  sums : (x y u v more total : ℕ) → x ≡ y + more → u + more ≡ v + total → x + u ≡ y + v + total
  sums x y u v more total e f = omega arith

  moved : (n : ℕ) → free_below a n ≡ free_below b n + min (n - start) len
  moved zero = omega arith
  moved (suc n) =
      elim (lt_or_ge n start) [
        | inl before ↦
            let same = ap ones (word_b n ∙ outside (a.first + n) (λ inside. let low = inside.0 in omega arith)) in
            sums _ _ _ _ _ (min (suc n - start) len) (moved n) (let none : min (n - start) len ≡ min (suc n - start) len = omega arith in omega (arith, same, none))
        | inr from ↦ elim (lt_or_ge n (start + len)) [
          | inl inside ↦
              let one = ap ones (free (a.first + n) (omega arith) (omega arith)) in
              let none = ap ones (word_b n ∙ out (a.first + n) (omega arith) (omega arith)) in
              sums _ _ _ _ _ (min (suc n - start) len) (moved n) (let more : min (suc n - start) len ≡ min (n - start) len + 1 = omega arith in omega (arith, one, none, more))
          | inr behind ↦
              let same = ap ones (word_b n ∙ outside (a.first + n) (λ inside. let high = inside.1 in omega arith)) in
              sums _ _ _ _ _ (min (suc n - start) len) (moved n) (let all : min (suc n - start) len ≡ min (n - start) len = omega arith in omega (arith, same, all))
        ]
      ]

-- a piece that is taken out takes its words from those that are free
pub free_words-insert : (a : Arena) (p : Piece) → IsAlignedIn a p → IsFree a p → free_words a ≡ free_words (with_pieces_out a (set.insert a.out p)) + 2 ^ p.log
unfolding free_words
free_words-insert a p place is_free =
    let start = place.0 * 2 ^ p.log in
    let at : p.at ≡ a.first + start = place.1.0 in
    let end = place.1.1 in
    let all : min (2 ^ a.log_len - start) (2 ^ p.log) ≡ 2 ^ p.log = omega arith in
    moved a b refl start (2 ^ p.log) outside free out (2 ^ a.log_len) ∙ ap (λ n. free_below b (2 ^ a.log_len) + n) all
  where
    b : Arena
    b = with_pieces_out a (set.insert a.out p)

    outside : (w : ℕ) → ¬ ((a.first + place.0 * 2 ^ p.log ≤ w) × (w < a.first + place.0 * 2 ^ p.log + 2 ^ p.log)) → is_word_out b w ≡ is_word_out a w
    outside w not_inside =
        let start : p.at ≡ a.first + place.0 * 2 ^ p.log = place.1.0 in
        same_test _ _
        (λ test. let has = word_out-from_test b w test in
        elim (out_insert a.out p has.0 has.1.0) [
          | inl same ↦
              let covers : PieceCovers p w = subst (λ q. PieceCovers q w) same has.1.1 in
              absurd (not_inside (let low = covers.0 in omega arith, let high = covers.1 in omega arith))
          | inr was ↦ test-from_word_out a w (has.0, (was, has.1.1))
        ])
        (λ test. let has = word_out-from_test a w test in test-from_word_out b w (has.0, (insert_keeps a.out p has.0 has.1.0, has.1.1)))

    free : (w : ℕ) → a.first + place.0 * 2 ^ p.log ≤ w → w < a.first + place.0 * 2 ^ p.log + 2 ^ p.log → is_word_out a w ≡ false
    free w low high =
        let start : p.at ≡ a.first + place.0 * 2 ^ p.log = place.1.0 in
        not_true _ (λ test. is_free w (omega arith, omega arith) (word_out-from_test a w test))

    out : (w : ℕ) → a.first + place.0 * 2 ^ p.log ≤ w → w < a.first + place.0 * 2 ^ p.log + 2 ^ p.log → is_word_out b w ≡ true
    out w low high =
        let start : p.at ≡ a.first + place.0 * 2 ^ p.log = place.1.0 in
        test-from_word_out b w (p, (insert_itself a.out p, (omega arith, omega arith)))

same_or_not : (p q : Piece) → (p ≡ q) ⊎ (p ≡ q → ⊥)
same_or_not p q =
    elim (cases_eq p.at q.at) [
      | inl at ↦ elim (cases_eq p.log q.log) [ inl log ↦ inl (same_piece p q at log) | inr ne ↦ inr (λ e. ne (ap (λ x. x.log) e)) ]
      | inr ne ↦ inr (λ e. ne (ap (λ x. x.at) e))
    ]

insert-remove : (s : set.FinSet piece_cmp) (p : Piece) → set.contains s p ≡ true → set.insert (set.remove s p) p ≡ s
insert-remove s p is_out =
    same_members _ _
    (λ q h. elim (out_insert (set.remove s p) p q h) [ inl same ↦ subst (λ x. set.contains s x ≡ true) (sym same) is_out | inr kept ↦ (out_remove s p q kept).1 ])
    (λ q h. elim (same_or_not q p) [
      | inl same ↦ subst (λ x. set.contains (set.insert (set.remove s p) p) x ≡ true) (sym same) (insert_itself _ p)
      | inr ne ↦ insert_keeps _ p q (remove_keeps s p q ne h)
    ])

-- no word of a piece that is given back is out
pub free_after_remove : (a : Arena) (p : Piece) → ArePiecesApart a → IsPieceOut a p → IsFree (with_pieces_out a (set.remove a.out p)) p
free_after_remove a p apart is_out w covers has =
    let kept = out_remove a.out p has.0 has.1.0 in
    kept.0 (apart.one w has.0 p kept.1 is_out has.1.1 covers)

-- a piece that is given back adds its words to those that are free
pub free_words-remove : (a : Arena) (p : Piece) → ArePiecesApart a → IsPieceOut a p → free_words (with_pieces_out a (set.remove a.out p)) ≡ free_words a + 2 ^ p.log
free_words-remove a p apart is_out =
    free_words-insert (with_pieces_out a (set.remove a.out p)) p (apart.placed p is_out).1.1 (free_after_remove a p apart is_out)
    ∙ ap (λ s. free_words (with_pieces_out a s) + 2 ^ p.log) (insert-remove a.out p is_out)

-- where nothing is out all words are free
pub free_words-empty : (a : Arena) → a.out ≡ set.empty → free_words a ≡ 2 ^ a.log_len
unfolding free_words
free_words-empty a empty = all (2 ^ a.log_len)
  where
    none : (w : ℕ) → is_word_out a w ≡ false
    none w = not_true _ (λ test. let has = word_out-from_test a w test in true≢false (sym has.1.0 ∙ ap (λ s. set.contains s has.0) empty ∙ set.contains-empty piece_cmp has.0))

    all : (n : ℕ) → free_below a n ≡ n
    all zero = refl
    all (suc n) = let before = all n in let one = ap ones (none (a.first + n)) in omega (arith, before, one)

ones-le : (b : Bool) → ones b ≤ 1
ones-le true = omega arith
ones-le false = omega arith

free_below-le : (a : Arena) (n : ℕ) → free_below a n ≤ n
free_below-le a zero = omega arith
free_below-le a (suc n) = let before = free_below-le a n in let one = ones-le (is_word_out a (a.first + n)) in omega arith

-- no more words are free than the arena has
pub free_words-le : (a : Arena) → free_words a ≤ 2 ^ a.log_len
unfolding free_words
free_words-le a = free_below-le a (2 ^ a.log_len)
