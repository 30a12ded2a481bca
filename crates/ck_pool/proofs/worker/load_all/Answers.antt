use Rattle.std.proofs.Common.{map}
use Rattle.ck_pool.specs.Working.{IsQueryRun, runs_of}
use Rattle.ck_pool.proofs.Files.{each_snoc, each_front, moved_held}
use Rattle.ck_pool.proofs.worker.load_all.Goals as goal

pub loop-run-preserved : goal.loop-run-preserved
loop-run-preserved g c =
    let inv = c.loop-run.invariant in
    record {
      left = each_front (IsQueryRun (g.D.Dict.eyes c.args.context.now.dict.now) c.args.desk.now.eyes (map g.D.AskFile.LineList.items c.args.asks.now)) c.loop-run.runs.items c.pop.new.self.items c.in-Some.run' c.in-Some.ensures.items inv.left;
      moved = each_snoc (IsQueryRun (g.D.Dict.eyes c.args.context.now.dict.now) c.args.desk.now.eyes (map g.D.AskFile.LineList.items c.args.asks.now)) c.loop-run.others.items c.push.new.self.items c.in_ok-run.run' c.in_ok-push.ensures.items inv.moved c.in_ok-run.ensures.run;
      all = moved_held c.loop-run.runs.items c.pop.new.self.items c.loop-run.others.items c.push.new.self.items c.in-Some.run' c.in_ok-run.run' (λ f. runs_of f c.args.runs.now.items) c.in-Some.ensures.items c.in_ok-push.ensures.items c.in_ok-run.ensures.file inv.all;
    }
