use Rattle.std.proofs.Common.{◌≡◌, List, map, rules, subst}
use Rattle.ck_pool.specs.Working.{AreOnDesk}
use Rattle.ck_pool.proofs.serving.run_tasks.Goals as goal

pub run_both-replies-requires-clause-files : goal.run_both-replies-requires-clause-files
run_both-replies-requires-clause-files g c κs within =
    let same : c.args.eyes.items ≡ c.in_ok-desk.desk.eyes = search rules in
    let files : c.args.job.now.asks.items ≡ c.as_slice-asks.result.now = search rules in
    subst (λ (l : List g.row.D-Eye.Denot). AreOnDesk (g.D.Dict.eyes c.args.context.now.dict.now) l (map g.D.AskFile.LineList.items c.as_slice-asks.result.now)) same
    (subst (λ asks. AreOnDesk (g.D.Dict.eyes c.args.context.now.dict.now) c.args.eyes.items (map g.D.AskFile.LineList.items asks)) files c.requires.files)
