use Rattle.ck_epoch.proofs.Reclaiming.{reclamation}
use Rattle.ck_epoch.proofs.laws.reclamation_law.Goals as goal

pub returns : goal.returns
returns c c' = reclamation _
