use Rattle.std.proofs.Common.{◌+◌, ap}
use Rattle.ck_htwrite.specs.declared.state.HtState.{HtState}
use Rattle.ck_htwrite.proofs.updates.insert.Goals as goal

pub returns-clause-state : goal.returns-clause-state
returns-clause-state g c = ap (λ (z : HtState). record z { keys = z.keys + 1 }) c.place.ensures.state
