-- How many bits the number of counters has.
use Rattle.std.proofs.Common.{ℕ, ◌+◌, ◌*◌, ◌^◌, ◌<◌, ◌≤◌, ⊎_elim, arith}
use Rattle.std.proofs.lemmas.Bool.{cases_lt}
use Rattle.std.proofs.lemmas.Nat.{pow_below}

pub few_bits : (k : ℕ) → 1 + 2 ^ k + 32 * 2 ^ k ≤ 2 ^ 33 → k < 64
few_bits k small = ⊎_elim (λ (low : k < 64). low) (λ (high : 64 ≤ k). let more = pow_below 33 k (omega arith) in absurd (omega arith)) (cases_lt k 64)
