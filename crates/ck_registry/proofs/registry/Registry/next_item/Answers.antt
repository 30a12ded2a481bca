use Rattle.std.proofs.Common.{subst, sym, arith}
use Rattle.ck_epoch.specs.Lists.{AreListsOf}
use Rattle.ck_epoch.specs.State.{queue}
use Rattle.ck_registry.specs.State.{state}
use Rattle.ck_registry.proofs.Waiting.{next_left}
use Rattle.ck_registry.proofs.registry.Registry.next_item.Goals as goal

pub invariant_of-m : goal.invariant_of-m
invariant_of-m c =
    let t = c.m.inside.token in
    let are = c.m.invariant.1 in
    let counted = c.m.invariant.2 in (
      c.m.invariant.0,
      record {
        pending = subst (λ lists. AreListsOf lists (queue (state t).pending)) (sym c.next_item.ensures.rest.0) are.pending;
        waits = next_left c.m.inside.deferred.waiting c.next_item.new.self.waiting (queue (state t).dispatched) c.next_item.result c.next_item.ensures.oldest are.waits;
      },
      omega arith,
    )
