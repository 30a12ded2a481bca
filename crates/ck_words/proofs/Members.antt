-- Sets of pieces by their members.
use Rattle.std.proofs.Common.{◌≡◌, ◌≢◌, ℕ, Bool, true, false, not, ◌&&◌, ◌||◌, ◌⊎◌, inl, inr, ◌+◌, ◌^◌, ◌<◌, ◌≤◌, List, [], ◌∷◌, get_or, nat_le, nat_lt, arith, refl, sym, ap, subst, ◌∙◌, true≢false}
use Rattle.std.proofs.lemmas.Map.Views.{list_any-from_Contains, Contains-from_any}
use Rattle.std.proofs.lemmas.List.Folds.{Any-from_list_any, list_any-from_Any}
use Rattle.std.proofs.lemmas.Bool.Decides.{nat_tests}
use Rattle.std.specs.Ordering.{eq_by_cmp}
use Rattle.std.specs.Cmp.{IsTotalOrder, Equal-is, eq_by_cmp_equiv}
use Rattle.std.specs.Cmp.Lexicographic.{on_texts}
use Rattle.std.specs.List.{Contains}
use Rattle.std.specs.FinSet as set
use Rattle.std.specs.FinSet.{IsAntisymmetric, nat_cmp-IsAntisymmetric, slice_cmp-IsAntisymmetric}
use Rattle.ck_words.specs.Buddies.{Piece, piece_cmp, Arena, IsWordOut, is_word_out, with_pieces_out, AddsPiece, DropsPiece}

pub same_piece : (p q : Piece) → p.at ≡ q.at → p.log ≡ q.log → p ≡ q
same_piece p q at log = λ i. record { at = at i; log = log i }

pub piece_total : IsTotalOrder piece_cmp
piece_total = on_texts (λ p. p.at ∷ p.log ∷ [])

pub piece_exact : IsAntisymmetric piece_cmp
piece_exact p q tie =
    let lists = slice_cmp-IsAntisymmetric nat_cmp-IsAntisymmetric (p.at ∷ p.log ∷ []) (q.at ∷ q.log ∷ []) tie in
    same_piece p q (ap (λ l. get_or l 0 0) lists) (ap (λ l. get_or l 1 0) lists)

pub tie_exact : (p q : Piece) → eq_by_cmp piece_cmp p q ≡ true → p ≡ q
tie_exact p q tie = piece_exact p q ((Equal-is (piece_cmp p q)).0 tie)

pub tie_itself : (p : Piece) → eq_by_cmp piece_cmp p p ≡ true
tie_itself p = (eq_by_cmp_equiv piece_total).refl p

pub either : (a b : Bool) → (a || b) ≡ true → (a ≡ true) ⊎ (b ≡ true)
either true b h = inl refl
either false b h = inr h

pub first_true : (a b : Bool) → a ≡ true → (a || b) ≡ true
first_true a b h = ap (λ c. c || b) h

pub second_true : (a b : Bool) → b ≡ true → (a || b) ≡ true
second_true true b h = refl
second_true false b h = h

pub both : (a b : Bool) → (a && b) ≡ true → (a ≡ true) × (b ≡ true)
both true b h = (refl, h)
both false b h = absurd (true≢false (sym h))

pub not_true : (a : Bool) → not a ≡ true → a ≢ true
not_true true h e = true≢false (sym h)
not_true false h e = true≢false (sym e)

pub true_not : (a : Bool) → a ≢ true → not a ≡ true
true_not true h = absurd (h refl)
true_not false h = refl

pub same_test : (a b : Bool) → (a ≡ true → b ≡ true) → (b ≡ true → a ≡ true) → a ≡ b
same_test true b to from = sym (to refl)
same_test false true to from = from refl
same_test false false to from = refl

pub out_insert : (s : set.FinSet piece_cmp) (p q : Piece) → set.contains (set.insert s p) q ≡ true → (q ≡ p) ⊎ (set.contains s q ≡ true)
out_insert s p q h =
    elim (either _ _ (sym (set.contains-insert piece_total s p q) ∙ h)) [ inl tie ↦ inl (tie_exact q p tie) | inr was ↦ inr was ]

pub insert_itself : (s : set.FinSet piece_cmp) (p : Piece) → set.contains (set.insert s p) p ≡ true
insert_itself s p = set.contains-insert piece_total s p p ∙ first_true _ _ (tie_itself p)

pub insert_keeps : (s : set.FinSet piece_cmp) (p q : Piece) → set.contains s q ≡ true → set.contains (set.insert s p) q ≡ true
insert_keeps s p q was = set.contains-insert piece_total s p q ∙ second_true _ _ was

pub out_remove : (s : set.FinSet piece_cmp) (p q : Piece) → set.contains (set.remove s p) q ≡ true → (q ≢ p) × (set.contains s q ≡ true)
out_remove s p q h =
    let parts = both _ _ (sym (set.contains-remove piece_total s p q) ∙ h) in
    (λ e. not_true _ parts.0 (subst (λ x. eq_by_cmp piece_cmp x p ≡ true) (sym e) (tie_itself p)), parts.1)

pub remove_keeps : (s : set.FinSet piece_cmp) (p q : Piece) → q ≢ p → set.contains s q ≡ true → set.contains (set.remove s p) q ≡ true
remove_keeps s p q ne was =
    set.contains-remove piece_total s p q ∙ ap (λ b. b && set.contains s q) (true_not _ (λ tie. ne (tie_exact q p tie))) ∙ was

pub same_members : (s t : set.FinSet piece_cmp) → ((q : Piece) → set.contains s q ≡ true → set.contains t q ≡ true) → ((q : Piece) → set.contains t q ≡ true → set.contains s q ≡ true) → s ≡ t
same_members s t to from = set.same_set piece_total piece_exact s t (λ q. same_test _ _ (to q) (from q))

pub listed : (ps : List Piece) (q : Piece) → set.contains (set.from_list {R = piece_cmp} ps) q ≡ true → Contains ps q
listed ps q h = Contains-from_any tie_exact q ps (sym (set.contains-from_list piece_total ps q) ∙ h)

pub lists : (ps : List Piece) (q : Piece) → Contains ps q → set.contains (set.from_list {R = piece_cmp} ps) q ≡ true
lists ps q h = set.contains-from_list piece_total ps q ∙ list_any-from_Contains (eq_by_cmp_equiv piece_total) q ps h

covers-from_test : (at len w : ℕ) → (nat_le at w && nat_lt w (at + len)) ≡ true → (at ≤ w) × (w < at + len)
covers-from_test at len w h = (grind (arith, nat_tests), grind (arith, nat_tests))

test-from_covers : (at len w : ℕ) → at ≤ w → w < at + len → (nat_le at w && nat_lt w (at + len)) ≡ true
test-from_covers at len w from to = grind (arith, nat_tests)

-- the test of a word says whether it is out
pub word_out-from_test : (a : Arena) (w : ℕ) → is_word_out a w ≡ true → IsWordOut a w
word_out-from_test a w h =
    let some = Any-from_list_any (λ p. nat_le p.at w && nat_lt w (p.at + 2 ^ p.log)) (set.items a.out) h in
    let p = some.1 in
    let contained = list_any-from_Contains (eq_by_cmp_equiv piece_total) p (set.items a.out) (some.0, some.2, some.3) in
    (p, (set.contains-items a.out p ∙ contained, covers-from_test p.at (2 ^ p.log) w some.4))

pub test-from_word_out : (a : Arena) (w : ℕ) → IsWordOut a w → is_word_out a w ≡ true
test-from_word_out a w h =
    let contained = Contains-from_any tie_exact h.0 (set.items a.out) (sym (set.contains-items a.out h.0) ∙ h.1.0) in
    list_any-from_Any (λ p. nat_le p.at w && nat_lt w (p.at + 2 ^ p.log)) (set.items a.out) (contained.0, h.0, contained.1, contained.2, test-from_covers h.0.at (2 ^ h.0.log) w h.1.1.0 h.1.1.1)

pub adds : (a : Arena) (p : Piece) → AddsPiece a (with_pieces_out a (set.insert a.out p)) p
adds a p q = (
  out_insert a.out p q,
  λ h. elim h [
    | inl same ↦ subst (λ x. set.contains (set.insert a.out p) x ≡ true) (sym same) (insert_itself a.out p)
    | inr was ↦ insert_keeps a.out p q was
  ],
)

pub drops : (a : Arena) (p : Piece) → DropsPiece a (with_pieces_out a (set.remove a.out p)) p
drops a p q = (out_remove a.out p q, λ h. remove_keeps a.out p q h.0 h.1)
