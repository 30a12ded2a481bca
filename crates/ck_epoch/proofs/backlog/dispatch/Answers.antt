use Rattle.std.proofs.Common.{rules, ◌<◌, length, ◌∙◌, arith}
use Rattle.ck_epoch.specs.declared.item.Retired.{Retired}
use Rattle.ck_epoch.specs.State.{queue, state}
use Rattle.ck_epoch.proofs.Emptying.{rest_is, next_may, next_waits}
use Rattle.ck_epoch.proofs.backlog.dispatch.Goals as goal

pub answer-requires-clause-dispatched : goal.answer-requires-clause-dispatched
answer-requires-clause-dispatched g c =
    let low : c.loop-i._i < length c.args.list.now.items = search rules in
    next_may c.args.list.now.items c.loop-i._i low c.pop-item.result _ _ c.loop-i.invariant.items c.pop-item.ensures.first (g.C.Client.meaning.retires c.args.client.now) (queue (state c.args.token.now).pending) c.requires.items

pub loop-i-preserved : goal.loop-i-preserved
loop-i-preserved g c =
    let xs = c.args.list.now.items in
    let low : c.loop-i._i < length xs = search rules in
    let kept = c.loop-i.invariant in
    record {
      items = rest_is xs c.loop-i._i low c.pop-item.result _ _ kept.items c.pop-item.ensures.first;
      room = c.pop-item.ensures.room ∙ kept.room;
      waiting = next_waits xs c.loop-i._i low c.pop-item.result _ _ kept.items c.pop-item.ensures.first (λ (r : Retired). g.C.Client.meaning.home c.args.client.now r.item) c.args.waiting.now.items c.loop-i.waiting.items c.push_back_reserved.new.self.items c.answer.result kept.waiting c.push_back_reserved.ensures.items c.answer.ensures;
      len = let a = c.push_back_reserved.ensures.len in let b = kept.len in omega arith;
      capacity = c.push_back_reserved.ensures.capacity ∙ kept.capacity;
    }
