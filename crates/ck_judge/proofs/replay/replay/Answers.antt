use Rattle.ck_judge.proofs.Replaying.{replayed_map, replayed_replies, replayed_changes}
use Rattle.ck_judge.proofs.replay.replay.Goals as goal

pub loop-i-preserved : goal.loop-i-preserved
loop-i-preserved g c =
    let made = c.in_ok-reply.ensures.map in
    record {
      map = replayed_map g.K.Ord.cmp c.args.most c.args.us.now c.loop-i.i c.index-us-i.result c.loop-i-test.true c.index-us-i.is c.loop-i.table.entries _ made _ c.loop-i.invariant.map;
      replies = replayed_replies g.K.Ord.cmp c.args.most c.args.us.now c.loop-i.i c.index-us-i.result c.loop-i-test.true c.index-us-i.is c.loop-i.table.entries _ made c.loop-i.replies.items _ _ _ c.in_ok-reply.ensures.reply c.in_ok-push.ensures.items c.loop-i.invariant.replies;
      changes = replayed_changes g.K.Ord.cmp c.args.most c.args.us.now c.loop-i.i c.index-us-i.result c.loop-i-test.true c.index-us-i.is c.loop-i.table.entries _ made c.loop-i.i _ _ c.loop-i.changes.items _ _ c.update_key.ensures c.in_ok-reply.ensures.value c.in_ok-note.ensures c.loop-i.invariant.changes;
    }
