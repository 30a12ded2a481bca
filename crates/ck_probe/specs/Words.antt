-- Bytes as little-endian words of eight bytes.
use Rattle.std.specs.Prelude.{ℕ, List, [], ◌∷◌, ◌++◌, take, drop, replicate, suc, zero}
use Rattle.std.specs.List.{flat_map}
use Rattle.std.specs.Int.{w64, from_le_bytes, to_le_bytes}

-- the first eight bytes as a little-endian word, filled with zero bytes where there are fewer
unfoldable pub word_of : List ℕ → ℕ
word_of bytes = from_le_bytes w64 (take 8 (bytes ++ replicate 8 0))

-- the bytes cut into n pieces of eight, each as its word
unfoldable pub words_of : ℕ → List ℕ → List ℕ
words_of zero bytes = []
words_of (suc n) bytes = word_of bytes ∷ words_of n (drop 8 bytes)

-- the bytes of the words, eight of each
unfoldable pub bytes_of : List ℕ → List ℕ
bytes_of words = flat_map (to_le_bytes w64) words
