use Rattle.ck_reclaim.proofs.Reclaiming.{reclaims}
use Rattle.ck_reclaim.proofs.laws.pieces_law.Goals as goal

pub returns : goal.returns
returns g c = reclaims g.S.Structure.pieces c.reclamation_law.ensures c.requires.retires
