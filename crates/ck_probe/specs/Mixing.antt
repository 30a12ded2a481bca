-- The mixing of a key with a salt, and the hash of a table's key.
use Rattle.std.specs.Prelude.{ℕ, ◌*◌, ◌/◌, ◌%◌, ◌^◌, ◌==◌, if◌then◌else◌, bit_xor}

-- x with its high bits folded onto its low ones
abbrev pub folded : ℕ → ℕ
folded x = bit_xor x (x / 2 ^ 33)

-- the product modulo 2 ^ 64
abbrev pub times : ℕ → ℕ → ℕ
times x y = x * y % 2 ^ 64

-- the 64-bit finalizer of MurmurHash3, of the exclusive or of key and salt
unfoldable pub mix_of : ℕ → ℕ → ℕ
mix_of key salt =
    folded (times (folded (times (folded (bit_xor key salt)) 0xff51afd7ed558ccd)) 0xc4ceb9fe1a85ec53)

-- a table's hash of the key high * 2 ^ 64 + low
abbrev pub key_code_of : ℕ → ℕ → ℕ → ℕ
key_code_of low high seed = if high == 0 then mix_of low seed else mix_of high (mix_of low seed)
