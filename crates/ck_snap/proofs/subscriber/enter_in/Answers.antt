use Rattle.ck_snap.proofs.Keeping.{enters}
use Rattle.ck_snap.proofs.subscriber.enter_in.Goals as goal

pub enter_as-requires : goal.enter_as-requires
enter_as-requires g c = enters _ _
