-- The tokens that a structure gives out when it is made, and that it takes back when it is closed. Its ends are what it makes of them.
use Rattle.std.specs.Prelude.{◌≡◌, ℕ, ◌+◌, List, [], ◌∷◌}
use Rattle.ck_run.specs.declared.account.View.{View}
use Rattle.ck_run.specs.declared.account.Origin.{Origin}
use Rattle.ck_run.specs.Rule.{unused, unused_from, joined}
use Rattle.ck_run.specs.Tokens.{Table, Seat}

-- P holds of each item and its number, counted from n
abbrev pub EachFrom : {A : Type 0} → (ℕ → A → Type 0) → ℕ → List A → Type 0
EachFrom P n [] = Unit {0}
EachFrom P n (x ∷ xs) = P n x × EachFrom P (n + 1) xs

-- R ties each item to the one at its place in the other list, which is as long
abbrev pub AreTied : {A B : Type 0} → (A → B → Type 0) → List A → List B → Type 0
AreTied R [] [] = Unit {0}
AreTied R (x ∷ xs) (y ∷ ys) = R x y × AreTied R xs ys
AreTied R xs ys = ⊥

module _ {C : Type 0} where
  -- a view of the first account, which made no step, that keeps so many more of such, numbered from n
  abbrev pub keeping : Origin C → ℕ → ℕ → View C
  keeping origin n others = record { origin = origin; own = unused 0; kept = unused_from n others }

  -- the first token of a table, with the accounts that it still keeps
  abbrev pub keeper : Table C → ℕ → ℕ → Seat C
  keeper table n others = record { id = table.id; view = keeping table.origin n others }

  -- the token of this number, which made no step and keeps no other account
  abbrev pub fresh : Table C → ℕ → Seat C
  fresh table n = record { id = table.id; view = record { origin = table.origin; own = unused n; kept = [] } }

  -- tokens numbered from n, in order
  abbrev pub AreFresh : Table C → ℕ → List (Seat C) → Type 0
  AreFresh table = EachFrom (λ n t. t ≡ fresh table n)

  -- the view that has taken in the views of these tokens, in order
  abbrev pub joined_all : View C → List (Seat C) → View C
  joined_all v [] = v
  joined_all v (t ∷ ts) = joined_all (joined v t.view) ts
