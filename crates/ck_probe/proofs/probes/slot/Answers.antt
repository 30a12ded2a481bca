use Rattle.std.proofs.Common.{◌≡◌, ℕ, ◌+◌, ◌-◌, ◌*◌, ◌/◌, ◌%◌, ◌^◌, ◌<◌, ◌≤◌, bit_and, bit_or, ap, ◌∙◌, arith}
use Rattle.std.proofs.Math.Nat.{mod-lt, mod-eq_of_lt}
use Rattle.std.proofs.lemmas.Nat.{and_mask, one_shl, or_shifted, pow_below, pow_pos}
use Rattle.ck_probe.specs.ProbeOrder.{line_count, stride_of, line_of, place_of, slot_of, step_of}
use Rattle.ck_probe.proofs.SlotOrder.{slot_of-below, slot_of-bijection, step_of-slot_of}
use Rattle.ck_probe.proofs.probes.slot.Goals as goal

-- the mask of the lines
line_mask : (c : ℕ) → c ≤ 19 → 1 * 2 ^ (c - 3) % 2 ^ 64 ≡ line_count c
line_mask c high = one_shl (c - 3) 64 (omega arith)

line_count-small : (c : ℕ) → c ≤ 19 → line_count c < 2 ^ 17
line_count-small c high = pow_below (c - 3) 17 (omega arith)

-- a slot whose place is joined by `or`
joined : (line place : ℕ) → line < 2 ^ 17 → place < 8 → bit_or (line * 8 % 2 ^ 64) place ≡ 8 * line + place
joined line place small low =
    ap (λ n. bit_or n place) (let lt : line * 8 < 2 ^ 64 = omega arith in mod-eq_of_lt lt)
    ∙ or_shifted line 3 place low ∙ omega arith

-- the code with the mask m is the order of m lines
masked : (h c i m : ℕ) → c ≤ 19 → m ≡ line_count c →
    bit_or (bit_and (bit_and h (m - 1) + i / 8 * bit_and (bit_or (h / 2 ^ 32) 1) (m - 1)) (m - 1) * 8 % 2 ^ 64) (bit_and (h / 2 ^ 17 + i) 7)
    ≡ slot_of h c i
unfolding slot_of
masked h c i m high e =
    let n : ℕ = line_count c in
    let mask : (x : ℕ) → bit_and x (m - 1) ≡ x % n = λ x. ap (λ y. bit_and x (y - 1)) e ∙ and_mask x (c - 3) in
    let seven : bit_and (h / 2 ^ 17 + i) 7 ≡ (h / 2 ^ 17 + i) % 8 = and_mask (h / 2 ^ 17 + i) 3 in
    let place : bit_and (h / 2 ^ 17 + i) 7 ≡ place_of h i = omega arith in
    let lt : line_of h c i < n = mod-lt (h % n + i / 8 * stride_of h c) (pow_pos (c - 3)) in
    let small : line_of h c i < 2 ^ 17 = omega (arith, line_count-small c high) in
    ap (λ x. bit_or (bit_and (x + i / 8 * bit_and (bit_or (h / 2 ^ 32) 1) (m - 1)) (m - 1) * 8 % 2 ^ 64) (bit_and (h / 2 ^ 17 + i) 7)) (mask h)
    ∙ ap (λ x. bit_or (bit_and (h % n + i / 8 * x) (m - 1) * 8 % 2 ^ 64) (bit_and (h / 2 ^ 17 + i) 7)) (mask (bit_or (h / 2 ^ 32) 1))
    ∙ ap (λ x. bit_or (x * 8 % 2 ^ 64) (bit_and (h / 2 ^ 17 + i) 7)) (mask (h % n + i / 8 * stride_of h c))
    ∙ ap (λ x. bit_or (line_of h c i * 8 % 2 ^ 64) x) place
    ∙ joined (line_of h c i) (place_of h i) small (omega arith)

pub returns-clause-value : goal.returns-clause-value
returns-clause-value c = masked c.args.h c.args.c c.args.i _ c.requires.c_high (line_mask c.args.c c.requires.c_high)

pub returns-clause-within : goal.returns-clause-within
returns-clause-within c =
    rw (returns-clause-value c) (slot_of-below c.args.h c.args.c c.args.i c.requires.c_low)

pub returns-clause-step : goal.returns-clause-step
returns-clause-step c =
    ap (step_of c.args.h c.args.c) (returns-clause-value c) ∙ step_of-slot_of c.args.h c.args.c c.args.i c.requires.c_low c.requires.step

pub returns-clause-bijection : goal.returns-clause-bijection
returns-clause-bijection c = slot_of-bijection c.args.h c.args.c c.requires.c_low
