-- How many counters a table has, and how long its arena is.
use Rattle.std.proofs.Common.{◌≡◌, ℕ, ◌+◌, ◌-◌, ◌*◌, ◌^◌, ◌<◌, ◌≤◌, ⊎_elim, ap, ◌∙◌, arith, pow-add}
use Rattle.std.proofs.lemmas.Bool.{cases_lt}
use Rattle.std.proofs.Math.Nat.{pow-le-pow_right}
use Rattle.ck_htlaw.specs.declared.client.HtClient.{HtClient}
use Rattle.ck_htlaw.specs.Layout.{arena, arena_words, counters_of, log_of}
use Rattle.ck_ht.specs.Room.{HasRoomFor, IsRoomFor}

-- the opening region has at most half of an arena of 64 words or more
pub half_at_opening : (client : HtClient) → 6 ≤ client.arena_log → 2 * 2 ^ (log_of (32 * arena (counters_of client) + 3) + 2) ≤ arena_words (counters_of client)
half_at_opening client least =
    let log : log_of (32 * arena (counters_of client) + 3) ≡ 3 = omega arith in
    let is : 2 * 2 ^ (log_of (32 * arena (counters_of client) + 3) + 2) ≡ 64 = ap (λ (c : ℕ). 2 * 2 ^ (c + 2)) log in
    let many : 2 ^ 1 ≤ counters_of client = pow-le-pow_right {n = 2} (omega arith) {i = 1} {j = client.arena_log - 5} (omega arith) in
    omega arith

-- the arena has 2 ^ arena_log words or more
pub arena_long : (client : HtClient) → 2 ^ client.arena_log ≤ arena_words (counters_of client)
arena_long client = ⊎_elim
    (λ (l : client.arena_log < 5). let small : 2 ^ client.arena_log ≤ 2 ^ 5 = pow-le-pow_right {n = 2} (omega arith) {i = client.arena_log} {j = 5} (omega arith) in let one : 2 ^ 0 ≤ counters_of client = pow-le-pow_right {n = 2} (omega arith) {i = 0} {j = client.arena_log - 5} (omega arith) in omega arith)
    (λ (l : 5 ≤ client.arena_log). let split : 2 ^ client.arena_log ≡ 2 ^ (client.arena_log - 5) * 2 ^ 5 = ap (λ (k : ℕ). 2 ^ k) (let z : client.arena_log ≡ client.arena_log - 5 + 5 = omega arith in z) ∙ pow-add 2 (client.arena_log - 5) 5 in omega arith)
    (cases_lt client.arena_log 5)

-- an arena with room for the largest map of so many keys
pub room_for : (keys log : ℕ) → IsRoomFor keys log → HasRoomFor log keys
room_for keys log r = let split : 2 ^ log ≡ 2 ^ r.0 * 2 ^ 4 = ap (λ (k : ℕ). 2 ^ k) r.2 ∙ pow-add 2 r.0 4 in let many = r.1.1 in omega arith

-- an arena of the full length has room for every map
pub whole_room : (log pairs : ℕ) → log ≡ 23 → HasRoomFor log pairs
whole_room log pairs is = let full : 2 ^ log ≡ 2 ^ 23 = ap (λ (k : ℕ). 2 ^ k) is in omega arith

-- and one with room for so many pairs has it for fewer
pub room_for_fewer : (log pairs keys : ℕ) → HasRoomFor log keys → pairs ≤ keys → HasRoomFor log pairs
room_for_fewer log pairs keys room le = omega arith
