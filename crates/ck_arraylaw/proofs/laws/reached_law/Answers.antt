use Rattle.ck_arraylaw.proofs.Reaching.{reached_law}
use Rattle.ck_arraylaw.proofs.laws.reached_law.Goals as goal

pub returns : goal.returns
returns c = reached_law c.signals_law.ensures c.array_law.ensures
