-- How long the arena of a table has to be for so many keys.
use Rattle.std.specs.Prelude.{◌≡◌, ℕ, ◌+◌, ◌-◌, ◌*◌, ◌^◌, ◌<◌, ◌≤◌, ◌⊎◌, min}

-- 2 ^ c slots, from 8 on, are the fewest that are at least twice as many as the keys. No rebuild of a map of at most so many keys takes more: it
-- doubles the slots only where with a fresh key more than half of them would be full (`rebuilt_log` of ck_slots)
abbrev pub IsLargestMap : ℕ → ℕ → Type 0
IsLargestMap keys c = (3 ≤ c) × (2 * keys ≤ 2 ^ c) × ((c ≡ 3) ⊎ (2 ^ (c - 1) < 2 * keys))

-- 2 ^ log words are those of four regions of so many slots, of four words each: one is the present map's, and others may still be looked at
abbrev pub IsRoomFor : ℕ → ℕ → Type 0
IsRoomFor keys log = (c : ℕ) × IsLargestMap keys c × (log ≡ c + 4)

-- An arena of 2 ^ log words has room for the map of so many pairs and for the region that a rebuild takes meanwhile: it has 16 words for each
-- pair. A table has at most 262,144
abbrev pub HasRoomFor : ℕ → ℕ → Type 0
HasRoomFor log pairs = 16 * min pairs 262144 ≤ 2 ^ log
