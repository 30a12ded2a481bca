use Rattle.std.proofs.Common.{◌≢◌, ◌∙◌, sym, arith, map}
use Rattle.ck_pool.proofs.Opening.{served_step}
use Rattle.ck_pool.proofs.serving.collect.Goals as goal

pub loop-file-preserved : goal.loop-file-preserved
loop-file-preserved g c =
    let inv = c.loop-file.invariant in
    let i = c.loop-file.file in
    let u = c.in_ok-run.ensures in
    record {
      clerk = u.clerk.0;
      parts = u.clerk.1;
      each = u.each;
      all = λ f le.
          let ne : f ≢ i = λ q. omega (arith, le, q) in
          u.took f ne ∙ (inv.all f (omega (arith, le)) ∙ sym (u.rest f ne));
      served = served_step (g.D.Dict.eyes c.args.context.now.dict.now) c.args.desk.now.eyes (map g.D.AskFile.LineList.items c.args.asks.now) i c.in_ok-run.run' u.run.0 c.loop-file.eyes.items c.push-in-loop-file.new.self.items c.loop-file.answers.items c.push.new.self.items u.file u.run.1 c.in_ok-push-2.ensures.items c.in_ok-push.ensures.items inv.served;
    }
