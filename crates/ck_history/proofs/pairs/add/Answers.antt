use Rattle.std.proofs.Common.{ap, sym, arith}
use Rattle.ck_history.proofs.Order.{IsMap-insert_entry}
use Rattle.ck_history.proofs.Index.{absent}
use Rattle.ck_history.proofs.Made.{made-insert}
use Rattle.ck_history.proofs.pairs.add.Goals as goal

pub insert-requires : goal.insert-requires
insert-requires g c =
    let gap = absent g.met.K.Ord.total _ _ _ c.requires.order c.requires.index in
    omega (arith, gap.in_range)

pub returns-clause-order : goal.returns-clause-order
returns-clause-order g c =
    let gap = absent g.met.K.Ord.total _ _ _ c.requires.order c.requires.index in
    rw (c.in_ok-insert.ensures.items, gap.inserts) (IsMap-insert_entry g.met.K.Ord.total _ _ _ c.requires.order)

pub returns-clause-ok : goal.returns-clause-ok
returns-clause-ok g c =
    let made = made-insert g.met.K.Ord.total c.args.most _ _ _ c.requires.order c.requires.index c.args.value (omega arith) in
    rw c.in_ok-insert.ensures.items (ap (λ p. p.0) (sym made))
