use Rattle.ck_ht.proofs.table.Ht.slots.Goals as goal

pub slots-requires : goal.slots-requires
slots-requires g c = record { few = c.w.invariant.ready.lists.reflects.mirrors.shape.is_root.few }
