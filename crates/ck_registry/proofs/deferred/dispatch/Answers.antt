use Rattle.std.proofs.Common.{rules, ◌<◌, length, refl, ◌∙◌, arith}
use Rattle.ck_epoch.specs.declared.item.Retired.{Retired}
use Rattle.ck_epoch.proofs.Emptying.{rest_is, next_waits}
use Rattle.ck_registry.proofs.deferred.dispatch.Goals as goal

pub loop-i-preserved : goal.loop-i-preserved
loop-i-preserved c =
    let xs = c.args.list.now.items in
    let low : c.loop-i._i < length xs = search rules in
    let kept = c.loop-i.invariant in
    record {
      items = rest_is xs c.loop-i._i low c.pop-retired.result _ _ kept.items c.pop-retired.ensures.first;
      room = c.pop-retired.ensures.room ∙ kept.room;
      waiting = next_waits xs c.loop-i._i low c.pop-retired.result _ _ kept.items c.pop-retired.ensures.first (λ (r : Retired). r.item) c.args.waiting.now.items c.loop-i.waiting.items c.push_back_reserved.new.self.items c.pop-retired.result.item kept.waiting c.push_back_reserved.ensures.items refl;
      len = let a = c.push_back_reserved.ensures.len in let b = kept.len in omega arith;
      capacity = c.push_back_reserved.ensures.capacity ∙ kept.capacity;
    }
