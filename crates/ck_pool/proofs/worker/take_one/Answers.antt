use Rattle.std.proofs.Common.{map}
use Rattle.ck_pool.specs.Working.{IsQueryRun}
use Rattle.ck_pool.proofs.Files.{each_snoc, taken_held}
use Rattle.ck_pool.proofs.worker.take_one.Goals as goal

pub returns-in_ok-push-in-Item-clause-each : goal.returns-in_ok-push-in-Item-clause-each
returns-in_ok-push-in-Item-clause-each g c =
    let said = rw c.in-Some.is at c.in_ok-run-in-Item.ensures.ran in
    each_snoc (IsQueryRun (g.D.Dict.eyes c.args.context.now.dict.now) c.args.desk.now.eyes (map g.D.AskFile.LineList.items c.args.asks.now)) c.args.runs.now.items c.push.new.self.items c.in-Some.run' c.in_ok-push-in-Item.ensures.items c.requires.each said.1

pub returns-in_ok-push-in-Item-clause-all : goal.returns-in_ok-push-in-Item-clause-all
returns-in_ok-push-in-Item-clause-all g c =
    let said = rw c.in-Some.is at c.in_ok-run-in-Item.ensures.ran in
    taken_held c.in-Item.number c.args.clerk.now.known.took c.start.new.clerk.known.took c.args.runs.now.items c.push.new.self.items c.in-Some.run' said.2 c.in_ok-push-in-Item.ensures.items said.0 c.requires.all
