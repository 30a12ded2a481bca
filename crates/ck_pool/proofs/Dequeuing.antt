-- A consumer that has made more calls knows a head that is as far.
use Rattle.std.proofs.Common.{◌≡◌, ℕ, ◌+◌, ◌≤◌, ◌⊎◌, List, [], ◌∷◌, ◌++◌, length, inl, inr, refl, ap, ◌∙◌, arith}
use mathlib.Core.Option.{some}
use lib.ListN.{get_elem?}
use Rattle.ck_ring.specs.declared.answers.Take.{Take}
use Rattle.ck_ring.specs.declared.answers.Take.TheVariants.{Item, Lost, Empty}
use Rattle.ck_ring.specs.State.{Token, state}
use Rattle.ck_ring.specs.Calls.{IsLater, Tries}
use Rattle.ck_pool.specs.Working.{WorkerKnowsHead, MayDequeue, MayDequeueAgain}

-- the last of a list
last_of : {A : Type 0} (xs : List A) (x : A) → get_elem? (xs ++ x ∷ []) (length xs) ≡ some x
last_of [] x = refl
last_of (y ∷ xs) x = last_of xs x

last_in : {A : Type 0} (xs ys : List A) (x : A) → ys ≡ xs ++ x ∷ [] → get_elem? ys (length xs) ≡ some x
last_in xs ys x whole = ap (λ l. get_elem? l (length xs)) whole ∙ last_of xs x

-- a position that it loads isn't below a head that it knows
not_below : (c : Token) (p head : ℕ) → IsLater c p → WorkerKnowsHead c head → head ≤ p
not_below c p head later (inl (k, at)) = later.risen k head at
not_below c p head later (inr (k, x, at, is)) = let lt = later.above k x at in omega arith

by_head : (c : Token) (p : ℕ) → IsLater c p → ((state c).calls ≡ 0) ⊎ ((head : ℕ) × WorkerKnowsHead c head × ((state c).calls ≤ head)) → (state c).calls ≤ p
by_head c p later (inl none) = omega (arith, none)
by_head c p later (inr (head, knows, le)) = let at = not_below c p head later knows in omega arith

-- nor below the number of its calls
not_below_calls : (c : Token) (p : ℕ) → IsLater c p → MayDequeue c → (state c).calls ≤ p
not_below_calls c p later may = by_head c p later may.head

pub may_again : (size : ℕ) (c d : Token) (take : Take) → MayDequeue c → Tries size c take d → (state d).calls ≡ (state c).calls + 1 → MayDequeueAgain take d
may_again size c d (Item item) may t calls =
    let le : (state c).calls ≤ t.mine = not_below_calls c t.mine t.later may in
    let most = t.later.bounded in
    record {
      few = omega (arith, le, most, calls);
      head = inr (t.mine + 1, inr (length (state c).took, (t.mine, item), last_in (state c).took (state d).took (t.mine, item) t.took, refl), omega (arith, le, calls));
    }
may_again size c d (Lost mine found) may t calls =
    let le : (state c).calls ≤ mine = not_below_calls c mine t.later may in
    let most = t.later.bounded in
    let above = t.above in
    record {
      few = omega (arith, le, most, calls);
      head = inr (found, inl (length ((state c).heads ++ mine ∷ []), last_in ((state c).heads ++ mine ∷ []) (state d).heads found t.heads), omega (arith, le, above, calls));
    }
may_again size c d (Empty at) may t calls = (c, at, t)

-- a consumer that made no call
pub may_first : (c : Token) → (state c).calls ≡ 0 → MayDequeue c
may_first c none = record { few = omega (arith, none); head = inl none }
