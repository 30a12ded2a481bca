-- A list of held pieces after one is taken and after one is given back.
use Rattle.std.proofs.Common.{◌≡◌, ◌≢◌, ℕ, ◌⊎◌, inl, inr, ◌+◌, ◌<◌, ◌≤◌, List, [], ◌∷◌, ◌++◌, length, get_or, arith, refl, sym, ap, subst, ◌∙◌, length-append}
use Rattle.std.proofs.lemmas.List.{get_or_append_left, get_or_default}
use Rattle.std.proofs.Math.Seq.{get_or-append_seam}
use Rattle.std.proofs.lemmas.List.Edits.{get_or-remove_below, get_or-remove_above, length-remove}
use Rattle.std.specs.List.{remove}
use Rattle.ck_words.specs.Buddies.{piece, Arena, IsPieceOut, AddsPiece, DropsPiece}
use Rattle.ck_words.specs.Held.{held_at, HoldsPieces}
use Rattle.ck_words.proofs.Words.{lt_or_ge}

-- the pair at an index is the piece there
pub held_at_is : (held : List (ℕ × ℕ)) (i : ℕ) (x : ℕ × ℕ) → i < length held → x ≡ get_or held i x → held_at held i ≡ piece x.0 x.1
held_at_is held i x within is = ap (λ (y : ℕ × ℕ). piece y.0 y.1) (get_or_default held i (0, 0) x within ∙ sym is)

module _ (a b : Arena) (held : List (ℕ × ℕ)) (holds : HoldsPieces a held) where
  module _ (at log : ℕ) (is_new : ¬ IsPieceOut a (piece at log)) (adds : AddsPiece a b (piece at log)) where
    abbrev more : List (ℕ × ℕ)
    more = held ++ (at, log) ∷ []

    long : length more ≡ length held + 1
    long = length-append held _

    old : (i : ℕ) → i < length held → held_at more i ≡ held_at held i
    old i less = ap (λ (x : ℕ × ℕ). piece x.0 x.1) (get_or_append_left held ((at, log) ∷ []) (0, 0) i less)

    new : (i : ℕ) → i ≡ length held → held_at more i ≡ piece at log
    new i is = ap (λ (x : ℕ × ℕ). piece x.0 x.1) (ap (λ k. get_or more k (0, 0)) is ∙ get_or-append_seam held (at, log) [] (0, 0))

    differ : (i j : ℕ) → i < length held → j ≡ length held → held_at more i ≢ held_at more j
    differ i j less is same = is_new (subst (IsPieceOut a) (sym (old i less) ∙ same ∙ new j is) (holds.out i less))

    pub holds_more : HoldsPieces b more
    holds_more = record {
      out = λ i within. elim (lt_or_ge i (length held)) [
        | inl less ↦ subst (IsPieceOut b) (sym (old i less)) ((adds (held_at held i)).1 (inr (holds.out i less)))
        | inr last ↦ subst (IsPieceOut b) (sym (new i (omega (arith, long, within, last)))) ((adds (piece at log)).1 (inl refl))
      ];
      once = λ i j within_i within_j ne. elim (lt_or_ge i (length held)) [
        | inl less_i ↦ elim (lt_or_ge j (length held)) [
          | inl less_j ↦ λ same. holds.once i j less_i less_j ne (sym (old i less_i) ∙ same ∙ old j less_j)
          | inr last_j ↦ differ i j less_i (omega (arith, long, within_j, last_j))
        ]
        | inr last_i ↦ λ same. differ j i (omega (arith, long, within_j, within_i, last_i, ne)) (omega (arith, long, within_i, last_i)) (sym same)
      ];
    }

  module _ (i : ℕ) (within : i < length held) (drops : DropsPiece a b (held_at held i)) where
    -- the index before the piece was struck out
    record WasAt (k j : ℕ) : Type 0 where
      inside : j < length held
      same : held_at (remove held i) k ≡ held_at held j
      moved : ((k < i) × (j ≡ k)) ⊎ ((i ≤ k) × (j ≡ k + 1))

    was_at : (k : ℕ) → k < length (remove held i) → (j : ℕ) × WasAt k j
    was_at k less =
        let long = length-remove held i within in
        elim (lt_or_ge k i) [
          | inl below ↦ (k, record { inside = omega (arith, below, within); same = ap (λ (x : ℕ × ℕ). piece x.0 x.1) (get_or-remove_below held i (0, 0) k below within); moved = inl (below, refl) })
          | inr above ↦ (k + 1, record { inside = omega (arith, less, long); same = ap (λ (x : ℕ × ℕ). piece x.0 x.1) (get_or-remove_above held i (0, 0) k above within); moved = inr (above, refl) })
        ]

    other : (k j : ℕ) → WasAt k j → j ≢ i
    other k j was same = elim was.moved [ inl m ↦ let below = m.0 in let is = m.1 in omega (arith, below, is, same) | inr m ↦ let above = m.0 in let is = m.1 in omega (arith, above, is, same) ]

    apart : (k l j m : ℕ) → WasAt k j → WasAt l m → k ≢ l → j ≢ m
    apart k l j m was was' ne same =
        elim was.moved [
          | inl x ↦ elim was'.moved [ inl y ↦ ne (omega (arith, x.1, y.1, same)) | inr y ↦ omega (arith, x.0, x.1, y.0, y.1, same) ]
          | inr x ↦ elim was'.moved [ inl y ↦ omega (arith, x.0, x.1, y.0, y.1, same) | inr y ↦ ne (omega (arith, x.1, y.1, same)) ]
        ]

    pub holds_less : HoldsPieces b (remove held i)
    holds_less = record {
      out = λ k less.
          let was = was_at k less in
          subst (IsPieceOut b) (sym was.1.same) ((drops (held_at held was.0)).1 (holds.once was.0 i was.1.inside within (other k was.0 was.1), holds.out was.0 was.1.inside));
      once = λ k l less_k less_l ne same.
          let was_k = was_at k less_k in
          let was_l = was_at l less_l in
          holds.once was_k.0 was_l.0 was_k.1.inside was_l.1.inside (apart k l was_k.0 was_l.0 was_k.1 was_l.1 ne) (sym was_k.1.same ∙ same ∙ was_l.1.same);
    }
