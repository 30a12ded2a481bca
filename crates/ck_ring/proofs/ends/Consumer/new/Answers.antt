use Rattle.ck_ring.proofs.Making.{new_idle}
use Rattle.ck_ring.proofs.ends.Consumer.new.Goals as goal

pub invariant_of-result : goal.invariant_of-result
invariant_of-result c = let f = c.requires.fresh in new_idle f.0 c.args.token c.args.number f.1 f.2 f.3
