use Rattle.std.proofs.Common.{ℕ, ◌<◌, ◌-◌, sym, subst}
use Rattle.ck_htlaw.proofs.Bits.{few_bits}
use Rattle.ck_htlaw.proofs.client.counters.Goals as goal

pub overflow_shl-result : goal.overflow_shl-result
overflow_shl-result c = subst (λ (k : ℕ). k < 64) (sym c.saturating_sub.ensures) (few_bits (c.args.client.now.arena_log - 5) c.requires.small)
