use Rattle.ck_htlaw.specs.Reached.{with_signals}
use Rattle.ck_htlaw.proofs.Linked.{retires_regions}
use Rattle.ck_ht.proofs.Settling.{is_within, settled}
use Rattle.ck_ht.proofs.laws.settled_law.Goals as goal

pub pieces_law-requires : goal.pieces_law-requires
pieces_law-requires c = record { retires = retires_regions with_signals is_within }

pub returns : goal.returns
returns c = λ origin. settled c.reclamation_law.ensures c.pieces_law.ensures origin
