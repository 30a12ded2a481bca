use Rattle.std.proofs.Common.{ℕ, ◌*◌, ◌^◌, ◌%◌, ◌<◌, ◌≤◌, refl, sym, ◌∙◌, arith}
use Rattle.std.proofs.lemmas.Nat.{one_shl}
use Rattle.ck_array.proofs.Opened.{goes_on, ends_here}
use Rattle.ck_array.proofs.state.region_log.Goals as goal

shifted : (l n : ℕ) → l < 13 → n < 1 * 2 ^ l % 2 ^ 64 → n < 2 ^ l
shifted l n low h = omega (arith, one_shl l 64)

not_shifted : (l n : ℕ) → l < 13 → 1 * 2 ^ l % 2 ^ 64 ≤ n → 2 ^ l ≤ n
not_shifted l n low h = omega (arith, one_shl l 64)

pub loop-log-init : goal.loop-log-init
loop-log-init c = record { low = (omega arith, omega arith); rest = refl }

pub loop-log-preserved : goal.loop-log-preserved
loop-log-preserved c =
    let low = c.loop-log-test.true in let h = c.loop-log.invariant.low in
    record { low = (let a = h.0 in omega arith, omega arith); rest = c.loop-log.invariant.rest ∙ goes_on c.loop-log.log c.args.members (omega arith) (not_shifted c.loop-log.log c.args.members c.loop-log-test.true (omega arith)) }

pub returns-then-members-log-clause-log : goal.returns-then-members-log-clause-log
returns-then-members-log-clause-log c = sym (c.loop-log.invariant.rest ∙ ends_here c.loop-log.log c.args.members c.loop-log-test.true (shifted c.loop-log.log c.args.members c.loop-log-test.true (omega arith)))
