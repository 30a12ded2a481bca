-- The writer's state at opening, and how long regions are.
use Rattle.std.proofs.Common.{◌≡◌, ℕ, suc, ◌+◌, ◌-◌, ◌^◌, ◌<◌, ◌≤◌, Bool, true, false, cond, nat_lt, [], refl, ap, ◌∙◌, arith, inl}
use Rattle.std.proofs.lemmas.Bool.Decides.{nat_tests}
use Rattle.std.proofs.lemmas.List.Elements.{All-nil}
use Rattle.ck_words.specs.Buddies.{Arena, Piece, IsPieceOut}
use Rattle.ck_arena.specs.Arena.{IsKept, IsOutBeside}
use Rattle.ck_arraylaw.specs.Layout.{log_from, IsArrayItem}

-- one piece is out, and nothing was retired
pub one_out : (place : ℕ) (p : Piece) (a : Arena) → IsPieceOut a p → ((q : Piece) → IsPieceOut a q → q ≡ p) → IsKept (IsArrayItem place) place p [] a
one_out place p a out alone = record {
  current = out;
  retired = All-nil (IsOutBeside (IsArrayItem place) place a p);
  once = tt;
  only = λ q h. inl (alone q h);
}

-- the next length
pub goes_on : (l n : ℕ) → l < 13 → 2 ^ l ≤ n → log_from (13 - l) l n ≡ log_from (13 - (l + 1)) (l + 1) n
goes_on l n low more = ap (λ (k : ℕ). log_from k l n) (let z : 13 - l ≡ suc (13 - (l + 1)) = omega arith in z)
    ∙ (ap (λ (b : Bool). cond b l (log_from (13 - (l + 1)) (suc l) n)) (test (nat_lt n (2 ^ l)) refl) ∙ ap (λ (k : ℕ). log_from (13 - (l + 1)) k n) (let z : suc l ≡ l + 1 = omega arith in z))
  where
    test : (b : Bool) → nat_lt n (2 ^ l) ≡ b → nat_lt n (2 ^ l) ≡ false
    test true e = absurd (let z : n < 2 ^ l = grind (arith, nat_tests) in omega arith)
    test false e = e

pub ends_here : (l n : ℕ) → l < 13 → n < 2 ^ l → log_from (13 - l) l n ≡ l
ends_here l n low less = ap (λ (k : ℕ). log_from k l n) (let z : 13 - l ≡ suc (13 - (l + 1)) = omega arith in z)
    ∙ ap (λ (b : Bool). cond b l (log_from (13 - (l + 1)) (suc l) n)) (let z : nat_lt n (2 ^ l) ≡ true = grind (arith, nat_tests) in z)

pub last_one : (l n : ℕ) → 13 ≤ l → l ≤ 13 → log_from (13 - l) l n ≡ 13
last_one l n low high = let e : l ≡ 13 = omega arith in ap (λ (k : ℕ). log_from (13 - k) k n) e
