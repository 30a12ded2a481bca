-- The visitors of a new registry, for callers that take them out one by one, or close it with all.
use Rattle.std.proofs.Common.{◌≡◌, ℕ, All, ◌+◌, Option, Some, None, MatchOption, option_to_list, List, [], ◌∷◌, ◌++◌, length, refl, ap, ◌∙◌, subst, arith}
use Rattle.std.proofs.lemmas.List.Elements.{All-nil, All-cons}
use Rattle.ck_run.specs.Tokens.{Table, table, number}
use Rattle.ck_run.specs.Ends.{EachFrom, fresh}
use Rattle.ck_run.proofs.Ends.{each_at}
use Rattle.ck_registry.specs.Ends.{Visitor}
use Rattle.ck_registry.specs.Closing.{AreFreshVisitors, AreAllVisitors}
use Rattle.ck_registry.proofs.Parting.{each_next}

each_init : {A : Type 0} (P : ℕ → A → Type 0) (n : ℕ) (xs ys : List A) → EachFrom P n (xs ++ ys) → EachFrom P n xs
each_init P n [] ys h = tt
each_init P n (x ∷ xs) ys h = (h.0, each_init P (n + 1) xs ys h.1)

-- the last one is taken out
module _ (d : Table ℕ) (room : ℕ) (old xs : List Visitor) (last : Option Visitor) (is : old ≡ xs ++ option_to_list last) (h : AreFreshVisitors d room 0 old) where
  pub others_fresh : AreFreshVisitors d room 0 xs
  others_fresh = each_init (λ n v. v ≡ record { token = fresh d n; calls = 0; room = room }) 0 xs (option_to_list last) (subst (AreFreshVisitors d room 0) is h)

pub last_fresh : (d : Table ℕ) (room : ℕ) (old xs : List Visitor) (last : Option Visitor) → old ≡ xs ++ option_to_list last → AreFreshVisitors d room 0 old
    → MatchOption last (Unit {0}) (λ (v : Visitor). (table v.token ≡ d) × (v.calls ≡ 0) × (v.room ≡ room))
last_fresh d room old xs None is h = tt
last_fresh d room old xs (Some v) is h =
    let e = each_next (λ n w. w ≡ record { token = fresh d n; calls = 0; room = room }) 0 xs [] (xs ++ v ∷ []) v refl (subst (AreFreshVisitors d room 0) is h) in
    (ap (λ (w : Visitor). table w.token) e, ap (λ (w : Visitor). w.calls) e, ap (λ (w : Visitor). w.room) e)

-- each is of the registry's table
pub all_made : (d : Table ℕ) (room n : ℕ) (vs : List Visitor) → EachFrom (λ k v. v ≡ record { token = fresh d k; calls = 0; room = room }) n vs → All (λ (v : Visitor). table v.token ≡ d) vs
all_made d room n [] h = All-nil (λ (v : Visitor). table v.token ≡ d)
all_made d room n (v ∷ vs) h = All-cons (λ (w : Visitor). table w.token ≡ d) v vs (ap (λ (w : Visitor). table w.token) h.0) (all_made d room (n + 1) vs h.1)

-- they are all of them
pub all_visitors : (d : Table ℕ) (room : ℕ) (vs : List Visitor) → length vs ≡ d.origin.tokens → AreFreshVisitors d room 0 vs → AreAllVisitors d vs
all_visitors d room vs count h n low =
    let r = each_at (λ (k : ℕ) (v : Visitor). v ≡ record { token = fresh d k; calls = 0; room = room }) 0 vs n h (omega arith) in
    (n, r.0, r.1, ap (λ (v : Visitor). number v.token) r.2 ∙ omega arith)
