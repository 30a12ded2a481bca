-- The words of a region that is being built, as the code computes them.
use Rattle.std.proofs.Common.{◌≡◌, ℕ, ◌+◌, ◌*◌, ◌/◌, ◌^◌, ◌<◌, arith}
use Rattle.ck_htlaw.specs.Layout.{log_of, table_words}
use Rattle.ck_htlaw.specs.Known.{IsRoot}

pub first_word : (base root : ℕ) → base + root / 32 ≡ base + root / 32 + 4 * 0 + 0
first_word base root = omega arith

pub root_word : (base : ℕ) → base + 0 ≡ base
root_word base = omega arith

pub new_word : (base root at j : ℕ) → base + (root / 32 + 4 * at + j) ≡ base + root / 32 + 4 * at + j
new_word base root at j = omega arith

pub new_low : (n root at j : ℕ) → IsRoot n root → at < 2 ^ log_of root → j < 4 → root / 32 + 4 * at + j < table_words n
new_low n root at j ok few low = let a = ok.piece.high in omega arith
