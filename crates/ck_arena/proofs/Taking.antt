-- What an arena hands out is apart from what is out, and what is out once a piece was taken and the present one retired.
use Rattle.std.proofs.Common.{◌≡◌, ◌≢◌, ℕ, ◌+◌, ◌^◌, ◌<◌, ◌≤◌, le_refl, ◌⊎◌, ⊎_elim, inl, inr, List, [], ◌∷◌, ◌++◌, refl, sym, ◌∙◌, subst, arith}
use Rattle.std.specs.Prelude.{All}
use Rattle.std.proofs.lemmas.Bool.{cases_lt}
use Rattle.std.proofs.lemmas.Nat.{pow_pos}
use Rattle.std.proofs.lemmas.List.Elements.{All-nil, All-cons, All-head, All-append, All-tail, All-weaker, Contains-append_left, Contains-push}
use Rattle.ck_words.specs.Buddies.{Arena, Piece, IsPieceOut, IsFree, AddsPiece}
use Rattle.ck_epoch.specs.declared.item.Item.{Item}
use Rattle.ck_epoch.specs.declared.item.Retired.{Retired}
use Rattle.ck_arena.specs.Arena.{retired_piece, AreOnce, IsKept, IsOutBeside}

-- a piece that is free and one that is out share no word, so one ends where the other begins or before
pub apart : (a : Arena) (p q : Piece) → IsFree a p → IsPieceOut a q → (q.at + 2 ^ q.log ≤ p.at) ⊎ (p.at + 2 ^ p.log ≤ q.at)
apart a p q free is_out =
    let some = pow_pos p.log in let any = pow_pos q.log in
    ⊎_elim (λ (l : p.at < q.at + 2 ^ q.log). ⊎_elim
    (λ (k : q.at < p.at + 2 ^ p.log). ⊎_elim
    (λ (b : p.at < q.at). absurd (free q.at (omega arith, k) (q, (is_out, (le_refl q.at, omega arith)))))
    (λ (b : q.at ≤ p.at). absurd (free p.at (le_refl p.at, omega arith) (q, (is_out, (b, l)))))
    (cases_lt p.at q.at))
    (λ (k : p.at + 2 ^ p.log ≤ q.at). inr k)
    (cases_lt q.at (p.at + 2 ^ p.log)))
    (λ (l : q.at + 2 ^ q.log ≤ p.at). inl l)
    (cases_lt p.at (q.at + 2 ^ q.log))

-- the arena once the piece `new` is taken and is the present one, and the old one is retired as the item k
module _ (IsItem : Item → Type 0) (place : ℕ) (old new : Piece) (items : List Retired) (a b : Arena) (k : Retired) (is : retired_piece place k ≡ old) (kept : IsKept IsItem place old items a) (is_new : ¬ IsPieceOut a new) (adds : AddsPiece a b new) where
  stays : (p : Piece) → IsPieceOut a p → IsPieceOut b p × (p ≢ new)
  stays p out = ((adds p).1 (inr out), λ e. is_new (subst (IsPieceOut a) e out))

  others : All (IsOutBeside IsItem place b new) items
  others = All-weaker (IsOutBeside IsItem place a old) (IsOutBeside IsItem place b new) (λ j out mine. stays (retired_piece place j) (out mine).0) items kept.retired

  last : IsOutBeside IsItem place b new k
  last mine = subst (λ (p : Piece). IsPieceOut b p × (p ≢ new)) (sym is) (stays old kept.current)

  once_more : (js : List Retired) → All (IsOutBeside IsItem place a old) js → AreOnce IsItem place js → AreOnce IsItem place (js ++ k ∷ [])
  once_more [] out once = (All-nil (λ (j : Retired). IsItem k.item → IsItem j.item → retired_piece place k ≢ retired_piece place j), tt)
  once_more (j ∷ js) out once = let P : Retired → Type 0 = λ (i : Retired). IsItem j.item → IsItem i.item → retired_piece place j ≢ retired_piece place i in (
    All-append P js (k ∷ []) once.0 (All-cons P k [] (λ mine other e. (All-head (IsOutBeside IsItem place a old) j js out mine).1 (e ∙ is)) (All-nil P)),
    once_more js (All-tail (IsOutBeside IsItem place a old) j js out) once.1,
  )

  pub kept_then : IsKept IsItem place new (items ++ k ∷ []) b
  kept_then = record {
    current = (adds new).1 (inl refl);
    retired = All-append (IsOutBeside IsItem place b new) items (k ∷ []) others (All-cons (IsOutBeside IsItem place b new) k [] last (All-nil (IsOutBeside IsItem place b new)));
    once = once_more items kept.retired kept.once;
    only = λ p out. ⊎_elim (λ e. inl e) (λ was. inr (⊎_elim (λ e. (k, Contains-push items k, is ∙ sym e)) (λ w. (w.0, Contains-append_left items (k ∷ []) w.0 w.1, w.2)) (kept.only p was))) ((adds p).0 out);
  }
