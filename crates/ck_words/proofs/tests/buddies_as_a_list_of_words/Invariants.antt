use Rattle.std.proofs.Common.{◌≡◌, vec_len}
use Rattle.ck_words.specs.Held.{HoldsPieces}
use Rattle.ck_words.proofs.tests.buddies_as_a_list_of_words.Given as goal

abbrev pub invariant-steps : goal.invariant-steps
invariant-steps g l = (l.pool.log_min ≡ 3) × ((l.pool.log_len ≡ 8) × HoldsPieces l.pool l.held.items)

abbrev pub invariant-returns : goal.invariant-returns
invariant-returns g l = (l.pool.log_min ≡ 3) × ((l.pool.log_len ≡ 8) × HoldsPieces l.pool l.held.items)

abbrev pub decreases-returns : goal.decreases-returns
decreases-returns g l = vec_len l.held
