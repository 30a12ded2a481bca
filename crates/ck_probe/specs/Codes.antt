-- The hash of a name.
use Rattle.std.specs.Prelude.{ℕ, List, length, fold}
use Rattle.std.specs.Int.{div_ceil}
use Rattle.ck_probe.specs.declared.names.Style.{Style}
use Rattle.ck_probe.specs.Canon.{canon_of}
use Rattle.ck_probe.specs.Mixing.{mix_of}
use Rattle.ck_probe.specs.Words.{words_of}

-- the length mixed with the seed, and then each word of the bytes mixed with what came before it
unfoldable pub bytes_code : ℕ → List ℕ → ℕ
bytes_code seed bytes =
    fold (λ state word. mix_of word state) (mix_of (length bytes) seed) (words_of (div_ceil (length bytes) 8) bytes)

-- a name's hash is that of its canon name
abbrev pub code_of : Style → List ℕ → ℕ
code_of style name = bytes_code style.seed (canon_of style name)
