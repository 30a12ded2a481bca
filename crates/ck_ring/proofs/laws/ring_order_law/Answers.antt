use Rattle.ck_ring.proofs.Moments.{starts, each_keeps}
use Rattle.ck_ring.proofs.Closing.{in_ring_order}
use Rattle.ck_ring.proofs.laws.ring_order_law.Goals as goal
use Rattle.ck_ring.specs.State.{size_of, state_at}
use Rattle.ck_run.specs.Run.{replay, account}

pub holds_along_law-requires-clause-first : goal.holds_along_law-requires-clause-first
holds_along_law-requires-clause-first c = starts

pub holds_along_law-requires-clause-kept : goal.holds_along_law-requires-clause-kept
holds_along_law-requires-clause-kept c origin past words at n e held may fits = each_keeps origin words at n e held may fits

pub returns : goal.returns
returns c origin past rest run = in_ring_order (size_of origin) (replay origin.words past) (λ n. state_at origin n (account n past)) (c.holds_along_law.ensures origin past rest run)
