use Rattle.std.proofs.Common.{◌+◌, ◌<◌, ◌%◌, ap, length, slice_set, refl, sym, subst, arith}
use Rattle.std.specs.VecDeque.{deque_len, deque_capacity}
use Rattle.ck_epoch.specs.declared.item.Retired.{Retired}
use Rattle.ck_epoch.specs.Lists.{RetiredList, in_a_row, lists_view}
use Rattle.ck_registry.specs.Deferred.{Deferred}
use Rattle.ck_epoch.proofs.Emptying.{IsPut, is_put, has_room, put_fits}
use Rattle.ck_registry.proofs.deferred.Deferred.retire.Goals as goal

pub push-requires : goal.push-requires
push-requires c =
    let b = c.self.inside in
    has_room b.lists (deque_len b.waiting) (deque_capacity b.waiting) c.self.invariant (c.args.epoch % 4) c.index_mut.result.now (length b.waiting.items) (omega arith) c.index_mut.ensures.value
    (subst (λ (v : Deferred). length (in_a_row v.lists) + length v.waiting < v.room) (sym c.self.view_is) c.requires.room)

pub invariant_of-self : goal.invariant_of-self
invariant_of-self c =
    let b = c.self.inside in
    let r : Retired = record { item = c.args.item; epoch = c.args.epoch } in
    let few = subst (λ (v : Deferred). length (in_a_row v.lists) + length v.waiting < v.room) (sym c.self.view_is) c.requires.room in
    let same = b.waiting.ok.0 in
    put_fits b.lists (deque_len b.waiting) (deque_capacity b.waiting) c.self.invariant r (c.args.epoch % 4) c.index_mut.result.now c.push.new.self refl (omega arith) c.index_mut.ensures.value
    c.push.ensures (omega arith)

pub returns-clause-lists : goal.returns-clause-lists
returns-clause-lists c =
    let b = c.self.inside in
    let at = c.args.epoch % 4 in
    let r : Retired = record { item = c.args.item; epoch = c.args.epoch } in
    let low : at < 4 = omega arith in
    subst (λ (v : Deferred). IsPut r v.lists (lists_view (slice_set b.lists.items at c.push.new.self))) c.self.view_is
    (is_put b.lists (deque_len b.waiting) (deque_capacity b.waiting) c.self.invariant r at c.index_mut.result.now c.push.new.self refl low c.index_mut.ensures.value (ap (λ (l : RetiredList). l.items) c.push.ensures))
