use Rattle.ck_signal.proofs.TrueSignals.{true_signals}
use Rattle.ck_signal.proofs.laws.signals_law.Goals as goal

pub returns : goal.returns
returns g c = true_signals g.C.Client.meaning g.met.C.Client.grows g.met.C.Client.rises
