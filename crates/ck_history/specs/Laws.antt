-- The words of a key are told by its number. These are proofs, and stand here because an `impl` cites only its own crate's specs.
use Rattle.std.proofs.Common.{◌≡◌, ℕ, ◌/◌, ◌%◌, ◌<◌, ◌^◌, arith}
use Rattle.ck_history.specs.Key.{number_of_words}

pub high_word : (high low : ℕ) → low < 2 ^ 64 → number_of_words high low / 2 ^ 64 ≡ high
high_word high low h = omega arith

pub low_word : (high low : ℕ) → low < 2 ^ 64 → number_of_words high low % 2 ^ 64 ≡ low
low_word high low h = omega arith
