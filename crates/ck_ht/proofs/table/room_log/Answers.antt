use Rattle.std.proofs.Common.{◌≡◌, ℕ, ◌+◌, ◌-◌, ◌*◌, ◌^◌, ◌%◌, ◌<◌, ◌≤◌, ◌⊎◌, inl, inr, refl, subst, arith}
use Rattle.std.proofs.lemmas.Nat.{one_shl}
use Rattle.ck_ht.proofs.table.room_log.Goals as goal

before : (c keys : ℕ) → 2 ^ c < 2 * keys → 2 ^ (c + 1 - 1) < 2 * keys
before c keys h = subst (λ (n : ℕ). 2 ^ n < 2 * keys) (let z : c ≡ c + 1 - 1 = omega arith in z) h

shifted : (c keys : ℕ) → c < 19 → 2 * keys ≤ 1 * 2 ^ c % 2 ^ 64 → 2 * keys ≤ 2 ^ c
shifted c keys low h = omega (arith, one_shl c 64)

not_shifted : (c keys : ℕ) → c < 19 → 1 * 2 ^ c % 2 ^ 64 < 2 * keys → 2 ^ c < 2 * keys
not_shifted c keys low h = omega (arith, one_shl c 64)

pub loop-c-init : goal.loop-c-init
loop-c-init c = record { low = omega arith; least = inl refl }

pub loop-c-preserved : goal.loop-c-preserved
loop-c-preserved c = record { low = (let a = c.loop-c.invariant.low in omega arith); least = inr (before c.loop-c.c c.args.keys (not_shifted c.loop-c.c c.args.keys c.loop-c-test.true (omega arith))) }

pub returns-clause-room : goal.returns-clause-room
returns-clause-room c =
    let all : c.loop-c.c ≡ 19 = (let a = c.loop-c.auto.c-end in let b = c.loop-c-test.false in omega arith) in
    let least : (19 ≡ 3) ⊎ (2 ^ 18 < 2 * c.args.keys) = subst (λ (n : ℕ). (n ≡ 3) ⊎ (2 ^ (n - 1) < 2 * c.args.keys)) all c.loop-c.invariant.least in
    (19, (omega arith, (let few = c.requires in omega arith), least), omega arith)
