-- What becomes of a visitor in the tests.
use Rattle.std.proofs.Common.{◌≡◌, ℕ, ◌+◌, ◌*◌, ◌≤◌, Result, Ok, Err, MatchResult, arith}
use Rattle.ck_run.specs.Tokens.{Table, table}
use Rattle.ck_registry.specs.Ends.{Visitor, Member, depth}

-- a member that holds a record, or a visitor that doesn't, after at most so many counted calls
abbrev pub IsSeat : Table ℕ → ℕ → Result Member Visitor → Type 0
IsSeat d k s = MatchResult s (λ (m : Member). (table m.token ≡ d) × (m.calls ≤ k) × (m.room ≡ 4) × (depth m.token ≡ 0)) (λ (v : Visitor). (table v.token ≡ d) × (v.calls ≤ k) × (v.room ≡ 4))

pub seat_calls : (d : Table ℕ) (k : ℕ) (s : Result Member Visitor) → IsSeat d k s → MatchResult s (λ (m : Member). m.calls ≤ k) (λ (v : Visitor). v.calls ≤ k)
seat_calls d k (Ok m) h = h.1
seat_calls d k (Err v) h = h.1

pub seat_next : (d : Table ℕ) (i : ℕ) (s : Result Member Visitor) → IsSeat d (8 * i + 8) s → IsSeat d (8 * (i + 1)) s
seat_next d i (Ok m) h = let c = h.1 in (h.0, omega arith, h.2, h.3)
seat_next d i (Err v) h = let c = h.1 in (h.0, omega arith, h.2)
