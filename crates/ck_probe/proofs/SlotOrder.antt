-- The probe order goes through each slot once.
use Rattle.std.proofs.Common.{◌≡◌, ℕ, ◌+◌, ◌-◌, ◌*◌, ◌/◌, ◌%◌, ◌^◌, ◌<◌, ◌≤◌, sym, ◌∙◌, ap, refl, arith, bit_or}
use Rattle.std.proofs.Math.Nat.{mod-lt}
use Rattle.std.proofs.lemmas.Nat.{pow-add, pow_pos}
use Rattle.ck_probe.specs.ProbeOrder.{line_count, stride_of, line_of, place_of, slot_of, step_of, IsBijectionBelow, IsInverseBelow}
use Rattle.ck_probe.proofs.OddStrides.{or_one-odd, residue-inverse, steps-from_stride, stride-from_steps}

-- the slots are eight times the lines
pub slots-lines : (c : ℕ) → 3 ≤ c → 2 ^ c ≡ line_count c * 8
slots-lines c low = let e : c ≡ c - 3 + 3 = omega arith in ap (λ n. 2 ^ n) e ∙ pow-add 2 (c - 3) 3

-- the inverse of the stride
stride-inverse : (h c : ℕ) → stride_of h c * stride_of h c ^ (line_count c - 1) % line_count c ≡ 1 % line_count c
stride-inverse h c =
    let s : ℕ = bit_or (h / 2 ^ 32) 1 in
    let n : ℕ = line_count c in
    let e : s ≡ 2 * (s / 2) + 1 = or_one-odd (h / 2 ^ 32) in
    ap (λ x. x % n * (x % n) ^ (n - 1) % n) e ∙ residue-inverse (s / 2) (c - 3) ∙ refl

pub slot_of-below : (h c i : ℕ) → 3 ≤ c → slot_of h c i < 2 ^ c
unfolding slot_of
slot_of-below h c i low =
    omega (arith, slots-lines c low, mod-lt (h % line_count c + i / 8 * stride_of h c) (pow_pos (c - 3)))

pub step_of-below : (h c s : ℕ) → 3 ≤ c → step_of h c s < 2 ^ c
unfolding step_of
step_of-below h c s low =
    omega (arith, slots-lines c low, mod-lt ((s / 8 + (line_count c - h % line_count c)) * stride_of h c ^ (line_count c - 1)) (pow_pos (c - 3)))

-- the two parts of a slot and of a step
eights : (a b : ℕ) → b < 8 → ((8 * a + b) / 8 ≡ a) × ((8 * a + b) % 8 ≡ b)
eights a b lt = (omega arith, omega arith)

places_back : (p i : ℕ) → ((p % 8 + i % 8) % 8 + (8 - p % 8)) % 8 ≡ i % 8
places_back p i = omega arith

places_there : (p s : ℕ) → (p % 8 + (s % 8 + (8 - p % 8)) % 8) % 8 ≡ s % 8
places_there p s = omega arith

pub step_of-slot_of : (h c i : ℕ) → 3 ≤ c → i < 2 ^ c → step_of h c (slot_of h c i) ≡ i
unfolding slot_of step_of
step_of-slot_of h c i low lt =
    let n : ℕ = line_count c in
    let a : ℕ = h % n in
    let r : ℕ = stride_of h c ^ (n - 1) in
    let p : ℕ = h / 2 ^ 17 in
    let parts : ((8 * line_of h c i + place_of h i) / 8 ≡ line_of h c i) × ((8 * line_of h c i + place_of h i) % 8 ≡ place_of h i) =
    eights (line_of h c i) (place_of h i) (omega arith) in
    let within : a ≤ n = omega (arith, mod-lt h (pow_pos (c - 3))) in
    let few : i / 8 < n = omega (arith, slots-lines c low) in
    let line : (line_of h c i + (n - a)) * r % n ≡ i / 8 = steps-from_stride n a (stride_of h c) r (i / 8) (stride-inverse h c) within few in
    ap (λ l. 8 * ((l + (n - a)) * r % n) + (slot_of h c i % 8 + (8 - p % 8)) % 8) parts.0
    ∙ ap (λ l. 8 * l + (slot_of h c i % 8 + (8 - p % 8)) % 8) line
    ∙ ap (λ b. 8 * (i / 8) + (b + (8 - p % 8)) % 8) parts.1
    ∙ ap (λ b. 8 * (i / 8) + b) (places_back p i)
    ∙ omega arith

pub slot_of-step_of : (h c s : ℕ) → 3 ≤ c → s < 2 ^ c → slot_of h c (step_of h c s) ≡ s
unfolding slot_of step_of
slot_of-step_of h c s low lt =
    let n : ℕ = line_count c in
    let a : ℕ = h % n in
    let r : ℕ = stride_of h c ^ (n - 1) in
    let p : ℕ = h / 2 ^ 17 in
    let q : ℕ = (s / 8 + (n - a)) * r % n in
    let b : ℕ = (s % 8 + (8 - p % 8)) % 8 in
    let parts : ((8 * q + b) / 8 ≡ q) × ((8 * q + b) % 8 ≡ b) = eights q b (omega arith) in
    let within : a ≤ n = omega (arith, mod-lt h (pow_pos (c - 3))) in
    let few : s / 8 < n = omega (arith, slots-lines c low) in
    let line : (a + q * stride_of h c) % n ≡ s / 8 = stride-from_steps n a (stride_of h c) r (s / 8) (stride-inverse h c) within few in
    ap (λ l. 8 * ((a + l * stride_of h c) % n) + place_of h (step_of h c s)) parts.0
    ∙ ap (λ l. 8 * l + place_of h (step_of h c s)) line
    ∙ ap (λ t. 8 * (s / 8) + (p % 8 + t) % 8) parts.1
    ∙ ap (λ t. 8 * (s / 8) + t) (places_there p s)
    ∙ omega arith

pub slot_of-inverse : (h c : ℕ) → 3 ≤ c → IsInverseBelow (2 ^ c) (slot_of h c) (step_of h c)
slot_of-inverse h c low = record {
  within = λ s _. step_of-below h c s low;
  after = λ i lt. step_of-slot_of h c i low lt;
  before = λ s lt. slot_of-step_of h c s low lt;
}

pub slot_of-bijection : (h c : ℕ) → 3 ≤ c → IsBijectionBelow (2 ^ c) (slot_of h c)
slot_of-bijection h c low = record {
  within = λ i _. slot_of-below h c i low;
  injective = λ i j li lj e. sym (step_of-slot_of h c i low li) ∙ ap (step_of h c) e ∙ step_of-slot_of h c j low lj;
  onto = λ s lt. (step_of h c s, step_of-below h c s low, slot_of-step_of h c s low lt);
}
