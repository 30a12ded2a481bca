-- Lists, in no structure's words.
use Rattle.std.proofs.Common.{◌≡◌, ℕ, zero, suc, ◌<◌, ◌≤◌, ◌⊎◌, ⊎_elim, inl, inr, List, [], ◌∷◌, ◌++◌, length, map, take, drop, get_or, All, refl, sym, ap, ◌∙◌, subst, arith}
use Rattle.std.proofs.Math.Seq.{take-append_seam}
use Rattle.std.proofs.lemmas.List.{take-append-le, take-append-drop}
use Rattle.std.proofs.lemmas.List.Elements.{All-nil, All-cons, All-head, All-tail, All-append}
use mathlib.Core.Option.{some, some-injective, some-ne-none}
use lib.ListN.{get_elem?}

module _ {A : Type 0} where
  -- two lists with a first item that are one list
  pub first_is : (x y : A) (xs ys : List A) → x ∷ xs ≡ y ∷ ys → x ≡ y
  first_is x y xs ys e = ap (λ (l : List A). get_or l 0 x) e

  pub rest_is : (x y : A) (xs ys : List A) → x ∷ xs ≡ y ∷ ys → xs ≡ ys
  rest_is x y xs ys e = ap (λ (l : List A). drop 1 l) e

  -- of two beginnings of a list the shorter one begins the longer one
  pub begins : (xs xs' ys ys' : List A) → xs ++ xs' ≡ ys ++ ys' → length xs ≤ length ys → (more : List A) × (ys ≡ xs ++ more)
  begins xs xs' ys ys' e short =
      let n : ℕ = length xs in
      let same : take n ys ≡ xs = sym (take-append-le n ys ys' short) ∙ (ap (take n) (sym e) ∙ take-append_seam xs xs') in
      (drop n ys, sym (take-append-drop n ys) ∙ ap (λ (l : List A). l ++ drop n ys) same)

  -- an item stands below the length
  pub inside : (l : List A) (j : ℕ) (a : A) → get_elem? l j ≡ some a → j < length l
  inside [] j a e = absurd (some-ne-none a (sym e))
  inside (x ∷ xs) zero a e = omega arith
  inside (x ∷ xs) (suc j) a e = let h = inside xs j a e in omega arith

  -- and below the length there is one
  pub some_at : (l : List A) (j : ℕ) → j < length l → (a : A) × (get_elem? l j ≡ some a)
  some_at [] j low = absurd (omega arith)
  some_at (x ∷ xs) zero low = (x, refl)
  some_at (x ∷ xs) (suc j) low = some_at xs j (omega arith)

  -- an item of a list with one more at its end stands in the list, or is that one
  pub at_end : (l : List A) (a b : A) (j : ℕ) → get_elem? (l ++ a ∷ []) j ≡ some b → (get_elem? l j ≡ some b) ⊎ ((j ≡ length l) × (a ≡ b))
  at_end [] a b zero e = inr (refl, some-injective a b e)
  at_end [] a b (suc j) e = absurd (some-ne-none b (sym e))
  at_end (x ∷ xs) a b zero e = inl e
  at_end (x ∷ xs) a b (suc j) e = ⊎_elim (λ t. inl t) (λ t. inr (ap suc t.0, t.1)) (at_end xs a b j e)

  -- an item of a longer list that stands in its beginning
  pub at_shorter : (l more : List A) (j : ℕ) (a : A) → j < length l → get_elem? (l ++ more) j ≡ some a → get_elem? l j ≡ some a
  at_shorter [] more j a low e = absurd (omega arith)
  at_shorter (x ∷ xs) more zero a low e = e
  at_shorter (x ∷ xs) more (suc j) a low e = at_shorter xs more j a (omega arith) e

  -- what holds of all items
  pub all_at : (P : A → Type 0) (xs : List A) (k : ℕ) (a : A) → All P xs → get_elem? xs k ≡ some a → P a
  all_at P [] k a h e = absurd (some-ne-none a (sym e))
  all_at P (x ∷ xs) zero a h e = subst P (some-injective x a e) (All-head P x xs h)
  all_at P (x ∷ xs) (suc k) a h e = all_at P xs k a (All-tail P x xs h) e

  pub All-snoc : (P : A → Type 0) (xs : List A) (x : A) → All P xs → P x → All P (xs ++ x ∷ [])
  All-snoc P xs x h p = All-append P xs (x ∷ []) h (All-cons P x [] p (All-nil P))

  pub All-weaker : (P Q : A → Type 0) (xs : List A) → ((x : A) → P x → Q x) → All P xs → All Q xs
  All-weaker P Q [] f h = All-nil Q
  All-weaker P Q (x ∷ xs) f h = All-cons Q x xs (f x (All-head P x xs h)) (All-weaker P Q xs f (All-tail P x xs h))

  pub All-both : (P Q : A → Type 0) (xs : List A) → All P xs → All Q xs → All (λ (x : A). P x × Q x) xs
  All-both P Q [] h g = All-nil (λ (x : A). P x × Q x)
  All-both P Q (x ∷ xs) h g = All-cons (λ (y : A). P y × Q y) x xs (All-head P x xs h, All-head Q x xs g) (All-both P Q xs (All-tail P x xs h) (All-tail Q x xs g))

module _ {A B : Type 0} where
  pub All-unmap : (f : A → B) (P : B → Type 0) (xs : List A) → All P (map f xs) → All (λ (x : A). P (f x)) xs
  All-unmap f P [] h = All-nil (λ (x : A). P (f x))
  All-unmap f P (x ∷ xs) h = All-cons (λ (y : A). P (f y)) x xs (All-head P (f x) (map f xs) h) (All-unmap f P xs (All-tail P (f x) (map f xs) h))
