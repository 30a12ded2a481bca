-- Giving out the tokens of a table, and taking them back.
use Rattle.std.proofs.Common.{◌≡◌, ℕ, zero, suc, ◌+◌, ◌-◌, ◌<◌, ◌≤◌, List, [], ◌∷◌, ◌++◌, map, length, All, refl, ap, ◌∙◌, subst, arith, sym}
use Rattle.std.proofs.lemmas.List.Elements.{All-nil, All-cons}
use mathlib.Core.Option.{some}
use lib.ListN.{get_elem?}
use Rattle.ck_run.specs.declared.account.Account.{Account}
use Rattle.ck_run.specs.declared.account.View.{View}
use Rattle.ck_run.specs.declared.account.Origin.{Origin}
use Rattle.ck_run.specs.Run.{Run, replay, account}
use Rattle.ck_run.specs.Rule.{Follows, unused_from, first_view, left_of, right_of, joined, AreParts, IsRun, IsClosed}
use Rattle.ck_run.specs.Tokens.{Table, Seat, viewing, did, number}
use Rattle.ck_run.specs.Ends.{EachFrom, AreTied, keeper, fresh, joined_all}

module _ {A : Type 0} where
  -- one more
  pub each_snoc : (P : ℕ → A → Type 0) (n : ℕ) (xs : List A) (x : A) → EachFrom P n xs → P (n + length xs) x → EachFrom P n (xs ++ x ∷ [])
  each_snoc P n [] x h p = (subst (λ (k : ℕ). P k x) (omega arith) p, tt)
  each_snoc P n (y ∷ ys) x h p = (h.0, each_snoc P (n + 1) ys x h.1 (subst (λ (k : ℕ). P k x) (omega arith) p))

  -- what holds of each with its number
  pub each_weaker : (P Q : ℕ → A → Type 0) (n : ℕ) (xs : List A) → ((k : ℕ) (x : A) → n ≤ k → P k x → Q k x) → EachFrom P n xs → EachFrom Q n xs
  each_weaker P Q n [] f h = tt
  each_weaker P Q n (x ∷ xs) f h = (f n x (omega arith) h.0, each_weaker P Q (n + 1) xs (λ k y low. f k y (omega arith)) h.1)

  -- without the numbers
  pub each_all : (P : ℕ → A → Type 0) (Q : A → Type 0) (n : ℕ) (xs : List A) → ((k : ℕ) (x : A) → P k x → Q x) → EachFrom P n xs → All Q xs
  each_all P Q n [] f h = All-nil Q
  each_all P Q n (x ∷ xs) f h = All-cons Q x xs (f n x h.0) (each_all P Q (n + 1) xs f h.1)

  -- the one at a place
  pub each_at : (P : ℕ → A → Type 0) (n : ℕ) (xs : List A) (k : ℕ) → EachFrom P n xs → k < length xs → (x : A) × (get_elem? xs k ≡ some x) × P (n + k) x
  each_at P n [] k h low = absurd (omega arith)
  each_at P n (x ∷ xs) zero h low = (x, refl, subst (λ (i : ℕ). P i x) (omega arith) h.0)
  each_at P n (x ∷ xs) (suc k) h low = let r = each_at P (n + 1) xs k h.1 (omega arith) in (r.0, r.1, subst (λ (i : ℕ). P i r.0) (omega arith) r.2)

module _ {A B : Type 0} where
  pub tied_snoc : (R : A → B → Type 0) (xs : List A) (ys : List B) (x : A) (y : B) → AreTied R xs ys → R x y → AreTied R (xs ++ x ∷ []) (ys ++ y ∷ [])
  tied_snoc R [] [] x y h r = (r, tt)
  tied_snoc R [] (b ∷ ys) x y h r = absurd h
  tied_snoc R (a ∷ xs) [] x y h r = absurd h
  tied_snoc R (a ∷ xs) (b ∷ ys) x y h r = (h.0, tied_snoc R xs ys x y h.1 r)

-- what a tie tells of each item of the first list
pub tied_all : {A B : Type 0} (R : A → B → Type 0) (P : A → Type 0) (xs : List A) (ys : List B) → ((x : A) (y : B) → R x y → P x) → AreTied R xs ys → All P xs
tied_all R P [] ys tells h = All-nil P
tied_all R P (x ∷ xs) [] tells h = absurd h
tied_all R P (x ∷ xs) (y ∷ ys) tells h = All-cons P x xs (tells x y h.0) (tied_all R P xs ys tells h.1)

-- where the ties are those of a function
pub tied_map : {A B : Type 0} (R : A → B → Type 0) (f : A → B) (xs : List A) (ys : List B) → ((x : A) (y : B) → R x y → y ≡ f x) → AreTied R xs ys → ys ≡ map f xs
tied_map R f [] [] is h = refl
tied_map R f [] (y ∷ ys) is h = absurd h
tied_map R f (x ∷ xs) [] is h = absurd h
tied_map R f (x ∷ xs) (y ∷ ys) is h = λ i. is x y h.0 i ∷ tied_map R f xs ys is h.1 i

-- lists whose items are the same
pub tied_same : {A : Type 0} (R : A → A → Type 0) (xs ys : List A) → ((x y : A) → R x y → y ≡ x) → AreTied R xs ys → ys ≡ xs
tied_same R [] [] same h = refl
tied_same R [] (y ∷ ys) same h = absurd h
tied_same R (x ∷ xs) [] same h = absurd h
tied_same R (x ∷ xs) (y ∷ ys) same h = λ i. same x y h.0 i ∷ tied_same R xs ys same h.1 i

parts_parts : (run : Run) (xs ys : List Account) → AreParts run (xs ++ ys) → AreParts run xs × AreParts run ys
parts_parts run [] ys h = (tt, h)
parts_parts run (x ∷ xs) ys h = let r = parts_parts run xs ys h.1 in ((h.0, r.0), r.1)

module _ {C : Type 0} where
  -- a token that is made, and the one that keeps the other accounts
  pub record IsParted (table : Table C) (n others : ℕ) (t : Seat C) : Type 0 where
    pub kept : 0 < length t.view.kept
    pub left : viewing t (left_of t.view) ≡ keeper table (n + 1) (others - 1)
    pub right : viewing t (right_of t.view) ≡ fresh table n

  pub parted : (table : Table C) (n others : ℕ) (t : Seat C) → 0 < others → t ≡ keeper table n others → IsParted table n others t
  parted table n others t some_other e =
      let m : ℕ = others - 1 in
      let more : others ≡ suc m = omega arith in
      let next : suc n ≡ n + 1 = omega arith in
      let e' : t ≡ keeper table n (suc m) = e ∙ ap (keeper table n) more in
      record {
        kept = let k : length t.view.kept ≡ suc (length (unused_from (suc n) m)) = ap (λ (x : Seat C). length x.view.kept) e' in omega arith;
        left = ap (λ (x : Seat C). viewing x (left_of x.view)) e' ∙ ap (λ (k : ℕ). keeper table k m) next;
        right = ap (λ (x : Seat C). viewing x (right_of x.view)) e';
      }

  -- the first token of a table keeps the accounts of the others
  pub first_keeps : (table : Table C) (t : Seat C) (k : ℕ) → table.origin.tokens ≡ k + 1 → t ≡ record { id = table.id; view = first_view table.origin } → t ≡ keeper table 1 k
  first_keeps table t k e h = h ∙ ap (keeper table 1) (omega arith)

  pub joined_snoc : (v : View C) (ts : List (Seat C)) (t : Seat C) → joined_all v (ts ++ t ∷ []) ≡ joined (joined_all v ts) t.view
  joined_snoc v [] t = refl
  joined_snoc v (x ∷ ts) t = joined_snoc (joined v x.view) ts t

  -- taking tokens in leaves how the table began
  pub origin_all : (v : View C) (ts : List (Seat C)) → (joined_all v ts).origin ≡ v.origin
  origin_all v [] = refl
  origin_all v (t ∷ ts) = origin_all (joined v t.view) ts

  -- the account of the token is its part of the run
  abbrev pub IsPartOf : Run → Seat C → Type 0
  IsPartOf run t = account (number t) run ≡ did t

  -- where the accounts of a view that took tokens in are parts of a run, so are its own and theirs
  pub parts_all : (run : Run) (v : View C) (ts : List (Seat C)) → AreParts run ((joined_all v ts).own ∷ (joined_all v ts).kept) → AreParts run (v.own ∷ v.kept) × All (IsPartOf run) ts
  parts_all run v [] h = (h, All-nil (IsPartOf run))
  parts_all run v (t ∷ ts) h =
      let r = parts_all run (joined v t.view) ts h in
      let p = parts_parts run v.kept (t.view.own ∷ t.view.kept) r.0.1 in
      ((r.0.0, p.0), All-cons (IsPartOf run) t ts p.1.0 r.1)

  -- What is known at the end of the accounts of the last token and of each token that it took in: they are the parts of one true run,
  -- which leaves these words
  pub record AreClosed (follows : Follows C) (v : View C) (ts : List (Seat C)) (words : List ℕ) : Type 0 where
    pub run : Run
    pub is_run : IsRun follows v.origin run
    pub leaves : replay v.origin.words run ≡ words
    pub mine : AreParts run (v.own ∷ v.kept)
    pub theirs : All (IsPartOf run) ts

  pub are_closed : (follows : Follows C) (v : View C) (ts : List (Seat C)) (words : List ℕ) → IsClosed follows (joined_all v ts) words → AreClosed follows v ts words
  are_closed follows v ts words c =
      let o : (joined_all v ts).origin ≡ v.origin = origin_all v ts in
      let parts = parts_all c.run v ts c.parts in
      record {
        run = c.run;
        is_run = subst (λ (z : Origin C). IsRun follows z c.run) o c.is_run;
        leaves = ap (λ (z : Origin C). replay z.words c.run) (sym o) ∙ c.leaves;
        mine = parts.0;
        theirs = parts.1;
      }
