use Rattle.std.proofs.Common.{◌≡◌, ◌∙◌, length, map, rules, arith}
use Rattle.std.proofs.lemmas.List.{length-map}
use Rattle.ck_run.specs.Ends.{AreFresh, fresh}
use Rattle.ck_pool.proofs.Opening.{fresh_all, fresh_sent, short_file, in_range_readers, enough_readers, numbered_back}
use Rattle.ck_pool.proofs.serving.serve.Goals as goal

pub send_all-requires-clause-new : goal.send_all-requires-clause-new
send_all-requires-clause-new g c =
    let is : c.in_ok-ring.producer ≡ fresh c.in_ok-ring.ring 0 = search rules in
    fresh_sent c.in_ok-ring.ring c.in_ok-ring.producer is

pub run_tasks-requires-clause-files : goal.run_tasks-requires-clause-files
run_tasks-requires-clause-files g c κs within =
    let files = map g.D.AskFile.LineList.items c.args.job.now.asks.items in
    let long : length files ≡ length c.args.job.now.asks.items = length-map c.args.job.now.asks.items g.D.AskFile.LineList.items in
    record {
      long = long ∙ c.requires.files.2;
      some_file = omega (arith, long, c.requires.files.0);
      few = omega (arith, long, c.requires.files.1);
      ready = c.requires.eyes.0;
      short = λ f lines is. let le = short_file files f lines is in omega (arith, le, c.requires.lines);
    }

pub run_tasks-requires-clause-readers : goal.run_tasks-requires-clause-readers
run_tasks-requires-clause-readers g c κs within =
    let files = map g.D.AskFile.LineList.items c.args.job.now.asks.items in
    let readers = g.D.Dict.readers c.args.dict.now in
    -- a dictionary is Sync, so its laws hold in any thread: here in this one
    let law = g.met.D.Dict g.world.𝓛 g.world.𝓜 g.world.𝓡 ((λ s x. x), (λ x. x), (λ x. x), λ x. x) in
    let enough = enough_readers (g.D.Dict.eyes c.args.dict.now) readers 0 c.args.eyes.items (law.numbered c.args.dict.now) c.requires.eyes.0 c.requires.eyes.1 (omega (arith, c.requires.files.0, c.requires.files.2)) in
    let long : length files ≡ length c.args.job.now.asks.items = length-map c.args.job.now.asks.items g.D.AskFile.LineList.items in
    in_range_readers (g.D.UpFile.LineList.items c.args.job.now.ups) files readers (omega (arith, enough, long, c.requires.files.2)) c.requires.ranges

pub run_tasks-requires-clause-consumers : goal.run_tasks-requires-clause-consumers
run_tasks-requires-clause-consumers g c κs within =
    let fresh : AreFresh c.in_ok-ring.ring 1 c.in_ok-ring.consumers.items = search rules in
    (search rules, fresh_all c.in_ok-ring.ring 1 c.in_ok-ring.consumers.items fresh)

pub returns-clause-numbered : goal.returns-clause-numbered
returns-clause-numbered g c =
    numbered_back (g.D.Dict.eyes c.args.dict.now) 0 c.args.eyes.items (map g.D.AskFile.LineList.items c.args.job.now.asks.items) c.in_ok-served.served.eyes.items (map (λ file. file.items) c.in_ok-served.served.answers.items) c.in_ok-served.ensures.queries c.requires.eyes.1
