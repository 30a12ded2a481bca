-- Strides that are odd, modulo a power of two: going on by one of them meets each residue once.
use Rattle.std.proofs.Common.{◌≡◌, ℕ, ◌+◌, ◌-◌, ◌*◌, ◌/◌, ◌%◌, ◌^◌, ◌<◌, ◌≤◌, zero, suc, sym, ◌∙◌, ap, arith, bit_or}
use Rattle.std.proofs.Math.Nat.{pow-suc, pow-succ', pow-zero, one-mul, mod-eq_of_lt, add-mul-mod_self_right, add-mod-mod, mod-add-mod}
use Rattle.std.proofs.lemmas.Nat.{pow-add, pow-mod, mul-mod_first, mul-mod_second, pow_pos, and_or_self, and_mask}

square_of_next : (x t p : ℕ) → x ≡ 1 + t * (2 * p) → x * x ≡ 1 + (t + t * t * p) * (2 * (2 * p))
square_of_next x t p e = let f : x * x ≡ (1 + t * (2 * p)) * (1 + t * (2 * p)) = ap (λ y. y * y) e in omega arith

-- an odd number to the power 2 ^ k is one more than a multiple of 2 ^ (k + 1)
pub odd_power : (m k : ℕ) → (t : ℕ) × ((2 * m + 1) ^ 2 ^ k ≡ 1 + t * (2 * 2 ^ k))
odd_power m zero =
    let one : 2 ^ zero ≡ 1 = pow-zero 2 in
    let first : (2 * m + 1) ^ 2 ^ zero ≡ (2 * m + 1) ^ 1 = ap (λ e. (2 * m + 1) ^ e) one in
    let self : (2 * m + 1) ^ 1 ≡ 2 * m + 1 =
    pow-suc (2 * m + 1) zero ∙ ap (λ y. y * (2 * m + 1)) (pow-zero (2 * m + 1)) ∙ one-mul (2 * m + 1) in
    (m, first ∙ self ∙ (let sum : 2 * m + 1 ≡ 1 + m * (2 * 1) = omega arith in sum) ∙ ap (λ p. 1 + m * (2 * p)) (sym one))
odd_power m (suc k) =
    let before : (t : ℕ) × ((2 * m + 1) ^ 2 ^ k ≡ 1 + t * (2 * 2 ^ k)) = odd_power m k in
    let t : ℕ = before.0 in
    let double : 2 ^ suc k ≡ 2 ^ k + 2 ^ k = omega (arith, pow-succ' 2 k) in
    let twice : 2 ^ suc k ≡ 2 * 2 ^ k = pow-succ' 2 k in
    let square : (2 * m + 1) ^ 2 ^ suc k ≡ (2 * m + 1) ^ 2 ^ k * (2 * m + 1) ^ 2 ^ k =
    ap (λ e. (2 * m + 1) ^ e) double ∙ pow-add (2 * m + 1) (2 ^ k) (2 ^ k) in
    (t + t * t * 2 ^ k, square ∙ square_of_next _ t (2 ^ k) before.1 ∙ ap (λ e. 1 + (t + t * t * 2 ^ k) * (2 * e)) (sym twice))

-- so that its power with the exponent 2 ^ k - 1 is its inverse modulo 2 ^ k
pub odd-inverse : (m k : ℕ) → (2 * m + 1) * (2 * m + 1) ^ (2 ^ k - 1) % 2 ^ k ≡ 1 % 2 ^ k
odd-inverse m k =
    let power : (t : ℕ) × ((2 * m + 1) ^ 2 ^ k ≡ 1 + t * (2 * 2 ^ k)) = odd_power m k in
    let t : ℕ = power.0 in
    let exponent : 2 ^ k ≡ suc (2 ^ k - 1) = omega (arith, pow_pos k) in
    let whole : (2 * m + 1) * (2 * m + 1) ^ (2 ^ k - 1) ≡ (2 * m + 1) ^ 2 ^ k =
    sym (pow-succ' (2 * m + 1) (2 ^ k - 1)) ∙ ap (λ e. (2 * m + 1) ^ e) (sym exponent) in
    let multiple : (2 * m + 1) ^ 2 ^ k ≡ 1 + 2 * t * 2 ^ k = omega (arith, power.1) in
    ap (λ x. x % 2 ^ k) (whole ∙ multiple) ∙ add-mul-mod_self_right 1 (2 * t) (2 ^ k)

-- the same of the stride's residue
pub residue-inverse : (m k : ℕ) → (2 * m + 1) % 2 ^ k * ((2 * m + 1) % 2 ^ k) ^ (2 ^ k - 1) % 2 ^ k ≡ 1 % 2 ^ k
residue-inverse m k =
    let s : ℕ = 2 * m + 1 in
    mul-mod_first s ((s % 2 ^ k) ^ (2 ^ k - 1)) (2 ^ k)
    ∙ sym (mul-mod_second s ((s % 2 ^ k) ^ (2 ^ k - 1)) (2 ^ k))
    ∙ ap (λ p. s * p % 2 ^ k) (pow-mod s (2 ^ k - 1) (2 ^ k))
    ∙ mul-mod_second s (s ^ (2 ^ k - 1)) (2 ^ k)
    ∙ odd-inverse m k

-- a number with its lowest bit set is odd
pub or_one-odd : (n : ℕ) → bit_or n 1 ≡ 2 * (bit_or n 1 / 2) + 1
or_one-odd n =
    let odd : bit_or n 1 % 2 ≡ 1 = sym (and_mask (bit_or n 1) 1) ∙ and_or_self 1 n in
    omega arith

-- a product with 1 % n in place of a factor 1
times_one : (a b n : ℕ) → b % n ≡ 1 % n → a * b % n ≡ a % n
times_one a b n e =
    sym (mul-mod_second a b n) ∙ ap (λ x. a * x % n) e ∙ mul-mod_second a 1 n
    ∙ (let one : a * 1 ≡ a = omega arith in ap (λ x. x % n) one)

-- the steps to a residue that lies q strides s after a: the way there is taken back by the inverse r
pub steps-from_stride : (n a s r q : ℕ) → s * r % n ≡ 1 % n → a ≤ n → q < n → ((a + q * s) % n + (n - a)) * r % n ≡ q
steps-from_stride n a s r q e within lt =
    let x : ℕ = a + q * s in
    let y : ℕ = n - a in
    let there : ((x % n + y) * r) % n ≡ ((x + y) * r) % n =
    sym (mul-mod_first (x % n + y) r n) ∙ ap (λ z. z * r % n) (mod-add-mod x n y) ∙ mul-mod_first (x + y) r n in
    let sum : x + y ≡ q * s + n = omega arith in
    let product : (x + y) * r ≡ q * (s * r) + r * n = ap (λ z. z * r) sum ∙ omega arith in
    there ∙ ap (λ z. z % n) product ∙ add-mul-mod_self_right (q * (s * r)) r n ∙ times_one q (s * r) n e ∙ mod-eq_of_lt lt

pub stride-from_steps : (n a s r l : ℕ) → s * r % n ≡ 1 % n → a ≤ n → l < n → (a + (l + (n - a)) * r % n * s) % n ≡ l
stride-from_steps n a s r l e within lt =
    let z : ℕ = l + (n - a) in
    let w : ℕ = z * r in
    let product : w * s ≡ z * (s * r) = omega arith in
    let sum : a + z ≡ l + 1 * n = omega arith in
    sym (add-mod-mod a (w % n * s) n)
    ∙ ap (λ v. (a + v) % n) (mul-mod_first w s n ∙ ap (λ v. v % n) product ∙ times_one z (s * r) n e)
    ∙ add-mod-mod a z n ∙ ap (λ v. v % n) sum ∙ add-mul-mod_self_right l 1 n ∙ mod-eq_of_lt lt
