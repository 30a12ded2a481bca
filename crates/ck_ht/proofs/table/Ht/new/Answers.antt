use Rattle.std.proofs.Common.{refl}
use Rattle.ck_ht.proofs.table.Ht.new.Goals as goal

pub open-requires-clause-handler : goal.open-requires-clause-handler
open-requires-clause-handler g c = λ i retires. c.requires.handler i refl
