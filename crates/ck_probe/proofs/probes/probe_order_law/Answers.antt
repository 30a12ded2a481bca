use Rattle.ck_probe.proofs.SlotOrder.{slot_of-bijection, slot_of-inverse}
use Rattle.ck_probe.proofs.probes.probe_order_law.Goals as goal

pub returns-clause-bijection : goal.returns-clause-bijection
returns-clause-bijection c = slot_of-bijection

pub returns-clause-inverse : goal.returns-clause-inverse
returns-clause-inverse c = slot_of-inverse
