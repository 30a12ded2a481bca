use Rattle.ck_htlaw.proofs.Reaching.{reached_law}
use Rattle.ck_htlaw.proofs.laws.reached_law.Goals as goal

pub returns : goal.returns
returns c = reached_law c.signals_law.ensures c.table_law.ensures
